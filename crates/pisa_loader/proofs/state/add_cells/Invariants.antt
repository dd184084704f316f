use Rattle.std.proofs.Common.{◌≡◌, ◌++◌, take}
use Rattle.pisa_image.specs.Numbers.{words_bytes}
use Rattle.pisa_loader.proofs.state.add_cells.Given as goal

abbrev pub invariant-loop-at : goal.invariant-loop-at
invariant-loop-at l = l.bytes.items ≡ l.initial.bytes.items ++ words_bytes (take l.at l.machine.state.cells)
