use Rattle.std.proofs.Common.{◌≡◌, ◌-◌, ◌+◌, ◌*◌}
use Rattle.pisa_image.specs.Numbers.{many_at}
use Rattle.pisa_image.specs.Reading.{cell_at}
use Rattle.pisa_image.proofs.Many.{with_front}
use Rattle.pisa_image.proofs.reading.cells_at.Given as goal

abbrev pub invariant-loop : goal.invariant-loop
invariant-loop l = record {
  place : l.at ≡ 16 + 8 * l.counter;
  reads : with_front l.cells.items (many_at cell_at 8 (l.count - l.counter) l.at l.rest)
      ≡ many_at cell_at 8 l.count 16 l.bytes;
}
