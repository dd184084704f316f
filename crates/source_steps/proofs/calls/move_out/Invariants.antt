use Rattle.std.proofs.Common.{◌≡◌, drop, map}
use Rattle.source_store.specs.roopl_semantics.Execution.{moved_out}
use Rattle.source_steps.specs.CellView.{cell_view}
use Rattle.source_steps.specs.StateView.{IsFramed, state_of}
use Rattle.source_steps.proofs.calls.move_out.Given as goal

abbrev pub invariant-loop-cell : goal.invariant-loop-cell
invariant-loop-cell l = (moved_out (map cell_view l.cells) (state_of l.setting l.scope l.fn.heap l.fn.values.items)
    ≡ moved_out (map cell_view (drop l.cell-index l.cells)) (state_of l.setting l.scope l.heap l.values.items))
    × IsFramed l.setting l.scope l.heap l.values.items
