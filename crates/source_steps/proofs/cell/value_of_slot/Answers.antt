use Rattle.std.proofs.Common.{sym, ◌∙◌}
use Rattle.source_steps.proofs.Tables.{slot_value}
use Rattle.source_steps.proofs.cell.value_of_slot.Goals as goal

pub returns : goal.returns
returns c = c.cell_in.ensures ∙ sym (slot_value c.args.scope.now c.args.values.now c.args.index c.requires)
