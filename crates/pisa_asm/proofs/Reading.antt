-- What numbers, registers and mnemonics read.
use Rattle.std.proofs.Common.{◌≡◌, refl, ℕ, ◌+◌, ◌-◌, ◌*◌, ◌<◌, ◌≤◌, Bool, true, false, arith, List, [], ◌∷◌, length}
use Rattle.std.proofs.Common.{get_or, drop, Some, None, add-one}
use Rattle.std.specs.Prelude.{nat_lt}
use Rattle.std.specs.Char.{is_ascii_digit}
use Rattle.std.specs.Str.{bytes_eq}
use Rattle.std.proofs.Math.Seq.{drop-cons}
use Rattle.std.proofs.lemmas.Bool.Decides.{nat_tests}
use Rattle.pisa_isa.specs.declared.cell.Op.{Op}
use Rattle.pisa_asm.specs.Numerals.{below, numeral_from}
use Rattle.pisa_asm.specs.Mnemonics.{mnemonic, row_among}

not_below : (n end : ℕ) → end ≤ n → nat_lt n end ≡ false
not_below n end h = grind (arith, nat_tests)

-- more digits make no number smaller
pub too_large : (end n : ℕ) (digits : List ℕ) → end ≤ n → below end (numeral_from n digits) ≡ None
too_large end n [] h = rw (not_below n end h) refl
too_large end n (digit ∷ digits) h = by_case (is_ascii_digit digit) refl
    (too_large end (10 * n + (digit - 48)) digits (omega arith))
  where
    by_case : (t : Bool) → is_ascii_digit digit ≡ t → below end (numeral_from (10 * n + (digit - 48)) digits) ≡ None
        → below end (numeral_from n (digit ∷ digits)) ≡ None
    by_case true f rest = rw f rest
    by_case false f rest = rw f refl

-- the first row that is left is the one, or the others decide
pub row_found : (ops : List Op) (i : ℕ) (d : Op) (word : List ℕ) → i < length ops
    → bytes_eq word (mnemonic (get_or ops i d)) ≡ true
    → row_among (drop i ops) word ≡ Some (get_or ops i d)
row_found ops i d word h e = rw (drop-cons ops i d h, e) refl

pub row_passed : (ops : List Op) (i : ℕ) (d : Op) (word : List ℕ) → i < length ops
    → bytes_eq word (mnemonic (get_or ops i d)) ≡ false
    → row_among (drop i ops) word ≡ row_among (drop (i + 1) ops) word
row_passed ops i d word h e = rw (drop-cons ops i d h, e, add-one i) refl
