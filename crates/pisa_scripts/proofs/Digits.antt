-- More digits do not make a number smaller.
use Rattle.std.proofs.Common.{◌≡◌, ◌∙◌, sym, ℕ, suc, ◌+◌, ◌-◌, ◌*◌, ◌<◌, Bool, true, false, cond, refl, List, [], ◌∷◌}
use Rattle.std.proofs.Common.{length, get_or, drop, drop-cons, Option, None, arith}
use Rattle.std.specs.Prelude.{nat_le}
use Rattle.std.specs.Char.{is_ascii_digit}
use Rattle.std.proofs.lemmas.Bool.Decides.{nat_tests}
use Rattle.pisa_scripts.specs.Lines.{digits_after, at_most}

above : (most n : ℕ) → most < n → nat_le n most ≡ false
above most n h = grind (arith, nat_tests)

-- a number that is too large stays so
too_large : (most n : ℕ) (digits : List ℕ) → most < n → at_most most (digits_after n digits) ≡ None
too_large most n [] h = rw (above most n h) refl
too_large most n (c ∷ cs) h = by_test (is_ascii_digit c) (too_large most (10 * n + (c - 48)) cs (omega arith))
  where
    by_test : (b : Bool) → at_most most (digits_after (10 * n + (c - 48)) cs) ≡ None
        → at_most most (cond b (digits_after (10 * n + (c - 48)) cs) None) ≡ None
    by_test true rest = rest
    by_test false rest = refl

-- a digit more makes it too large
pub one_too_many : (most n i : ℕ) (digits : List ℕ) (total : Option ℕ) → i < length digits
    → is_ascii_digit (get_or digits i 0) ≡ true → most < 10 * n + (get_or digits i 0 - 48)
    → at_most most (digits_after n (drop i digits)) ≡ total → (short : Bool) → None ≡ cond short None total
one_too_many most n i digits total more digit large so_far short =
    let d : ℕ = get_or digits i 0 in
    let none : total ≡ None = sym so_far ∙ rw (drop-cons digits i 0, digit)
    (too_large most (10 * n + (d - 48)) (drop (suc i) digits) large) in
    by_test short (sym none)
  where
    by_test : (b : Bool) → None ≡ total → None ≡ cond b None total
    by_test true h = refl
    by_test false h = h
