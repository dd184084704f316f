use Rattle.object_codegen.proofs.news.+fields.Given as goal

-- fewer fields
abbrev pub decreases-fields : goal.decreases-fields
decreases-fields l = l.count
