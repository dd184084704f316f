use Rattle.std.proofs.Common.{◌≡◌, map}
use Rattle.paired_code.specs.Link.{static_word}
use Rattle.paired_code.proofs.writer.words_of.Given as goal

abbrev pub invariant-loop-word : goal.invariant-loop-word
invariant-loop-word l = l.words.items ≡ map (static_word l.places) l.yielded
