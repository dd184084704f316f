use Rattle.std.proofs.Common.{sym, ◌∙◌}
use Rattle.source_steps.proofs.Tables.{slot_named, cell_slot, cell_field}
use Rattle.source_steps.specs.StateView.{state_of, setting_of}
use Rattle.source_steps.proofs.cell.cell_and_value.Goals as goal

pub returns-in-Some-clause-cell : goal.returns-in-Some-clause-cell
returns-in-Some-clause-cell c =
    cell_slot (setting_of c.args.setting.now).program (state_of c.args.setting.now c.args.scope.now c.args.heap.now
    c.args.values.now) _ _ (c.in-Some.ensures.place ∙ sym
    (slot_named c.args.scope.now c.args.values.now c.args.name.now c.requires.each))

pub returns-in-None-clause-cell : goal.returns-in-None-clause-cell
returns-in-None-clause-cell c =
    cell_field (setting_of c.args.setting.now).program (state_of c.args.setting.now c.args.scope.now c.args.heap.now
    c.args.values.now) _ _ (c.in-None.ensures.place ∙ sym
    (slot_named c.args.scope.now c.args.values.now c.args.name.now c.requires.each)) c.own_field-index.ensures.number
