use Rattle.std.proofs.Common.{◌≡◌, map}
use Rattle.pisa_isa.specs.Table.{inverse_of}
use Rattle.image_inverter.proofs.inverter.flipped_code.Given as goal

abbrev pub invariant-loop-cell : goal.invariant-loop-cell
invariant-loop-cell l = l.cells.items ≡ map inverse_of l.yielded
