use Rattle.std.proofs.Common.{◌≡◌, take, map, ◌++◌}
use Rattle.source_store.specs.roopl_semantics.Execution.{cells_named}
use Rattle.source_steps.specs.CellView.{cell_view}
use Rattle.source_steps.specs.StateView.{state_of, setting_of}
use Rattle.source_steps.proofs.calls.name_cells.Given as goal

abbrev pub invariant-loop-name : goal.invariant-loop-name
invariant-loop-name l = map cell_view l.cells.items ≡ map cell_view l.fn.cells.items
    ++ cells_named (setting_of l.setting) (state_of l.setting l.scope l.heap l.values) (take l.name-index l.names)
