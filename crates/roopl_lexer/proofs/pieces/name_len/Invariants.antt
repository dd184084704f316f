use Rattle.std.proofs.Common.{◌≡◌, ℕ, ◌<◌, get_or, true}
use Rattle.rpp_tree.specs.rpp_words.Names.{is_name_byte}
use Rattle.roopl_lexer.proofs.pieces.name_len.Given as goal

abbrev pub invariant-loop-i : goal.invariant-loop-i
invariant-loop-i l = (k : ℕ) → k < l.i → is_name_byte (get_or l.rest k 0) ≡ true
