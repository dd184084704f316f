use Rattle.std.proofs.Common.{List, ap}
use Rattle.source_store.specs.declared.value.Value.{Value as Held}
use Rattle.source_store.specs.ValueView.{value_of}
use Rattle.source_steps.specs.StateView.{state_of}
use Rattle.source_steps.proofs.Restored.{taken_back}
use Rattle.source_steps.proofs.calls.+move_back.Goals as goal

pub returns-in-Err-clause-stays : goal.returns-in-Err-clause-stays
returns-in-Err-clause-stays t c =
    taken_back (state_of c.args.setting.now c.args.scope.now c.args.heap.now c.args.values.now.items)
    (state_of c.args.setting.now c.args.scope.now c.args.heap.now c.deref.result.now)
    (state_of c.args.setting.now c.args.scope.now c.write_cell.new.heap c.write_cell.new.values.items)
    (state_of c.args.setting.now c.args.scope.now c.move_back.new.heap c.move_back.new.values.items)
    (state_of c.args.setting.now c.args.scope.now c.write_cell-in-Err.new.heap c.write_cell-in-Err.new.values.items)
    _ _ (value_of c.read_cell-now.result) c.write_cell-in-Err.ensures.written c.in-Err.ensures.stays
    c.write_cell.ensures.written c.read_cell-now.ensures
    (ap (λ (vs : List Held). state_of c.args.setting.now c.args.scope.now c.args.heap.now vs) c.deref.ensures.value)
