use Rattle.std.proofs.Common.{◌≡◌, ◌++◌, drop}
use Rattle.wrap_commands.specs.WrapNames.{result_cells}
use Rattle.wrap_commands.proofs.running.cells_of.Given as goal

-- the cells so far and those of what is left are the whole
abbrev pub invariant-loop-field : goal.invariant-loop-field
invariant-loop-field l = l.cells.items ++ result_cells (drop l.field-index l.fields) ≡ result_cells l.fields
