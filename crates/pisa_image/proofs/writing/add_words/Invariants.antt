use Rattle.std.proofs.Common.{◌≡◌, ◌++◌, take}
use Rattle.pisa_image.specs.Numbers.{words_bytes}
use Rattle.pisa_image.proofs.writing.add_words.Given as goal

abbrev pub invariant-loop-word : goal.invariant-loop-word
invariant-loop-word l = l.bytes.items ≡ l.initial.bytes.items ++ words_bytes (take l.word-index l.words)
