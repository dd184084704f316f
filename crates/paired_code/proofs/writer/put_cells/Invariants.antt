use Rattle.std.proofs.Common.{◌≡◌, ◌++◌, ◌+◌, drop, length}
use Rattle.paired_code.specs.Link.{linked}
use Rattle.paired_code.proofs.writer.put_cells.Given as goal

abbrev pub invariant-loop-cell : goal.invariant-loop-cell
invariant-loop-cell l = record {
  done : l.code.items ++ linked l.places (length l.code.items) (drop l.cell-index l.cells)
      ≡ l.initial.code.items ++ linked l.places (length l.initial.code.items) l.cells;
  count : length l.code.items ≡ length l.initial.code.items + l.cell-index;
}
