use Rattle.std.proofs.Common.{◌≡◌, ◌++◌, take}
use Rattle.std.specs.List.{flat_map}
use Rattle.pisa_image.specs.ImageBytes.{cell_bytes}
use Rattle.pisa_image.proofs.writing.add_cells.Given as goal

abbrev pub invariant-loop-cell : goal.invariant-loop-cell
invariant-loop-cell l = l.bytes.items ≡ l.initial.bytes.items ++ flat_map cell_bytes (take l.cell-index l.code)
