use Rattle.source_blocks.specs.rpp_tree.Views.{source_of}
use Rattle.source_statements.proofs.Dispatched.{method_reads}
use Rattle.std.proofs.Common.{◌∙◌, ap}
use Rattle.std.specs.Prelude.{slice_get}
use Rattle.source_blocks.specs.class_rules.Members.{class_at}
use Rattle.source_statements.proofs.methods.method_of.Goals as goal

pub returns : goal.returns
returns c = method_reads (source_of c.args.setting.now.checked.now) _ _ _ _ _ _ c.table.ensures.table c.slot_of.ensures
    c.dispatch-id.ensures (c.method_at.ensures ∙ ap (λ p. slice_get
    (class_at (source_of p) c.dispatch-id.result.class).methods c.dispatch-id.result.method)
    c.program.ensures.program)
