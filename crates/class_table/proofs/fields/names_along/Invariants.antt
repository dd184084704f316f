use Rattle.std.proofs.Common.{◌≡◌, [], drop}
use Rattle.class_rules.specs.rpp_tree.Views.{source_of}
use Rattle.class_rules.specs.Members.{names_along}
use Rattle.class_table.proofs.fields.names_along.Given as goal

abbrev pub invariant-loop-number : goal.invariant-loop-number
invariant-loop-number l = names_along (source_of l.program) l.names.keys (drop l.number-index l.line)
    ≡ names_along (source_of l.program) [] l.line
