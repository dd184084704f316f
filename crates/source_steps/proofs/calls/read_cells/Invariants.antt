use Rattle.std.proofs.Common.{◌≡◌, take, map}
use Rattle.source_store.specs.roopl_semantics.Value.{read}
use Rattle.source_store.specs.ValueView.{value_of}
use Rattle.source_steps.specs.CellView.{cell_view}
use Rattle.source_steps.specs.StateView.{state_of}
use Rattle.source_steps.proofs.calls.read_cells.Given as goal

abbrev pub invariant-loop-cell : goal.invariant-loop-cell
invariant-loop-cell l = map value_of l.moved.items ≡ map (read (state_of l.setting l.scope l.heap l.values))
    (map cell_view (take l.cell-index l.cells))
