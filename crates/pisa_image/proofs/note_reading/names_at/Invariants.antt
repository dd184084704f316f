use Rattle.std.proofs.Common.{◌≡◌, ◌≤◌, ◌-◌, ◌+◌, ◌*◌}
use Rattle.pisa_isa.specs.declared.notes.TheConstants.{MOST_NAME_BYTES}
use Rattle.pisa_image.specs.Reading.{names_at}
use Rattle.pisa_image.proofs.NoteBytes.{names_front}
use Rattle.pisa_image.proofs.note_reading.names_at.Given as goal

abbrev pub invariant-loop : goal.invariant-loop
invariant-loop l = record {
  place : l.at + l.left ≤ l.fn.from + 8 * l.counter + MOST_NAME_BYTES;
  left : l.left ≤ MOST_NAME_BYTES;
  reads : names_front l.names.items (names_at l.statics l.left (l.count - l.counter) l.at l.rest)
      ≡ names_at l.statics MOST_NAME_BYTES l.count l.fn.from l.bytes;
}
