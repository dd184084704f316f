use Rattle.std.proofs.Common.{◌≡◌, ℕ, ◌<◌, get_or, true, not}
use Rattle.pisa_asm.specs.Lines.{is_blank_byte}
use Rattle.pisa_asm.proofs.line.word_len.Given as goal

abbrev pub invariant-loop-i : goal.invariant-loop-i
invariant-loop-i l = (k : ℕ) → k < l.i → not (is_blank_byte (get_or l.line k 0)) ≡ true
