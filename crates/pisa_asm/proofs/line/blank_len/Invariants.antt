use Rattle.std.proofs.Common.{◌≡◌, ℕ, ◌<◌, get_or, true}
use Rattle.pisa_asm.specs.Lines.{is_blank_byte}
use Rattle.pisa_asm.proofs.line.blank_len.Given as goal

abbrev pub invariant-loop-i : goal.invariant-loop-i
invariant-loop-i l = (k : ℕ) → k < l.i → is_blank_byte (get_or l.line k 0) ≡ true
