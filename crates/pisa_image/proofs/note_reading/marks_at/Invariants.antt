use Rattle.std.proofs.Common.{◌≡◌, ◌-◌, ◌+◌, ◌*◌}
use Rattle.pisa_image.specs.Numbers.{many_at}
use Rattle.pisa_image.specs.Reading.{mark_at}
use Rattle.pisa_image.proofs.Many.{with_front}
use Rattle.pisa_image.proofs.note_reading.marks_at.Given as goal

abbrev pub invariant-loop : goal.invariant-loop
invariant-loop l = record {
  place : l.at ≡ l.fn.from + 12 * l.counter;
  reads : with_front l.marks.items (many_at (mark_at l.cells) 12 (l.count - l.counter) l.at l.rest)
      ≡ many_at (mark_at l.cells) 12 l.count l.fn.from l.bytes;
}
