-- The number that digits write does not fall with a further digit.
use Rattle.std.proofs.Common.{◌≡◌, ℕ, ◌+◌, ◌-◌, ◌*◌, ◌<◌, ◌≤◌, List, [], ◌∷◌, length, get_or, drop, arith, refl}
use Rattle.std.proofs.Common.{add-one, drop-cons}
use Rattle.rpp_words.specs.Texts.{decimal_from}

pub decimal_from-grows : (before : ℕ) (digits : List ℕ) → before ≤ decimal_from before digits
decimal_from-grows before [] = omega arith
decimal_from-grows before (digit ∷ rest) =
    let further : 10 * before + (digit - 48) ≤ decimal_from (10 * before + (digit - 48)) rest =
    decimal_from-grows (10 * before + (digit - 48)) rest in
    omega arith

pub decimal_from-drop : (before i : ℕ) (digits : List ℕ) → i < length digits
    → decimal_from before (drop i digits) ≡ decimal_from (10 * before + (get_or digits i 0 - 48)) (drop (i + 1) digits)
decimal_from-drop before i digits more = rw (add-one, drop-cons digits i 0) refl
