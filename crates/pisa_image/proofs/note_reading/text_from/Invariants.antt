use Rattle.std.proofs.Common.{◌≡◌, ◌-◌, ◌+◌, ◌∷◌, [], length}
use Rattle.pisa_isa.specs.rpp_words.Names.{is_name_byte}
use Rattle.pisa_image.specs.Numbers.{many_at}
use Rattle.pisa_image.specs.Reading.{tested_byte}
use Rattle.pisa_image.proofs.Many.{with_front}
use Rattle.pisa_image.proofs.note_reading.text_from.Given as goal

abbrev pub invariant-loop : goal.invariant-loop
invariant-loop l = record {
  place : l.at ≡ l.fn.from + l.counter;
  len : length l.text.items ≡ l.counter + 1;
  reads : with_front l.text.items (many_at (tested_byte is_name_byte) 1 (l.count - l.counter) l.at l.rest)
      ≡ with_front (l.first ∷ []) (many_at (tested_byte is_name_byte) 1 l.count l.fn.from l.bytes);
}
