use Rattle.std.proofs.Common.{◌≡◌, ℕ, ◌<◌, get_or, ◌==◌, not, true}
use Rattle.roopl_lexer.proofs.pieces.comment_len.Given as goal

abbrev pub invariant-loop-i : goal.invariant-loop-i
invariant-loop-i l = (k : ℕ) → k < l.i → not (get_or l.rest k 0 == 10) ≡ true
