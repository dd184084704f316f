use Rattle.std.proofs.Common.{◌≡◌, ◌-◌, ◌+◌, ◌*◌}
use Rattle.pisa_image.specs.Numbers.{read_word_at, many_at}
use Rattle.pisa_image.proofs.Many.{with_front}
use Rattle.pisa_image.proofs.numbers.words_at.Given as goal

abbrev pub invariant-loop : goal.invariant-loop
invariant-loop l = record {
  place : l.at ≡ l.fn.from + 4 * l.counter;
  reads : with_front l.words.items (many_at read_word_at 4 (l.count - l.counter) l.at l.rest)
      ≡ many_at read_word_at 4 l.count l.fn.from l.bytes;
}
