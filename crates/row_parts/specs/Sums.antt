-- Relations of sums.
use Rattle.std.specs.Prelude.{ℕ, ℤ, pos, ◌+ℤ◌, Bool, List, [], ◌∷◌, codes, int_lt, int_le}
use Rattle.std.specs.Prelude.{Option, Some, option_map, option_and_then}
use Rattle.std.specs.Option.{option_map_or}
use Rattle.std.specs.Ordering.{int_eq}
use Rattle.row_parts.specs.Pieces.{cut, pieces}
use Rattle.row_parts.specs.Digits.{signed, in_64_bits}

-- a sum and the numbers that texts write, one after the other, each sum one of 64 bits
abbrev pub sum_after : ℤ → List (List ℕ) → Option ℤ
sum_after sum [] = Some sum
sum_after sum (text ∷ rest) = option_and_then (λ number.
    option_and_then (λ next. sum_after next rest) (in_64_bits (sum +ℤ number))) (signed text)

-- the sum of numbers with + between them
abbrev pub sum : List ℕ → Option ℤ
sum text = sum_after (pos 0) (pieces (codes " + ") text)

-- whether two sums are so related
abbrev pub compared : (ℤ → ℤ → Bool) → List ℕ × List ℕ → Option Bool
compared related sides = option_and_then (λ left. option_map (λ right. related left right)
    (sum sides.1)) (sum sides.0)

-- whether a relation of two sums with =, <= or < holds
abbrev pub holds : List ℕ → Option Bool
holds text = option_map_or (compared int_eq) (cut (codes " = ") text)
    (option_map_or (compared int_le) (cut (codes " <= ") text)
    (option_and_then (compared int_lt) (cut (codes " < ") text)))
