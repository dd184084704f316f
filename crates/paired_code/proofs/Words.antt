-- Offsets and places.
use Rattle.std.proofs.Common.{◌≡◌, ◌≢◌, ℕ, ◌+◌, ◌-◌, ◌^◌, ◌<◌, ◌≤◌, Bool, true, false, refl, ap, ◌∙◌, ⊎_elim, arith}
use Rattle.std.specs.Prelude.{ℤ, pos, negsuc, ◌+ℤ◌, neg_ℤ, not, ◌||◌, nat_lt, if◌then◌else◌}
use Rattle.std.proofs.lemmas.Int.{ints}
use Rattle.std.proofs.lemmas.Bool.Decides.{nat_tests}
use Rattle.std.proofs.lemmas.Bool.{cases_lt}
use Rattle.code_conventions.specs.rpp_words.Words.{sum_of, negated}
use Rattle.code_conventions.specs.pisa_isa.Machine.{stride, place_moved, below_zero, is_zero_word}
use Rattle.paired_code.specs.Layout.{bool_xor, spot, between}

-- a number, or its negation if the direction is back
abbrev pub along : Bool → ℤ → ℤ
along false z = z
along true z = neg_ℤ z

abbrev pub turned : Bool → ℕ → ℕ
turned false w = w
turned true w = negated w

-- a word negated; a number that is no word stays
abbrev pub opposite : ℕ → ℕ
opposite w = if nat_lt w (2 ^ 32) then negated w else w

abbrev pub is_positive : ℕ → Bool
is_positive w = not (below_zero w || is_zero_word w)

abbrev pub is_negative : ℕ → Bool
is_negative w = below_zero w

pub place_along : (k : Bool) (pc : ℤ) (br : ℕ) → place_moved k pc br ≡ pc +ℤ along k (stride br)
place_along false pc br = refl
place_along true pc br = refl

stride_up : (n : ℕ) → 0 < n → n < 2 ^ 31 → stride n ≡ pos n
stride_up n l h = grind (arith, nat_tests)

stride_down : (n : ℕ) → 0 < n → n < 2 ^ 31 → stride (2 ^ 32 - n) ≡ neg_ℤ (pos n)
stride_down n l h =
    let e : 2 ^ 32 - 1 - (2 ^ 32 - n) ≡ n - 1 = omega arith in
    let k : stride (2 ^ 32 - n) ≡ negsuc (2 ^ 32 - 1 - (2 ^ 32 - n)) = grind (arith, nat_tests) in
    let z : negsuc (n - 1) ≡ neg_ℤ (pos n) = omega (arith, ints) in
    k ∙ ap negsuc e ∙ z

pub between_up : (x y : ℕ) → x < y → y < 2 ^ 30 → between x y ≡ y - x
between_up x y l h = omega arith

pub between_down : (x y : ℕ) → y < x → x < 2 ^ 30 → between x y ≡ 2 ^ 32 - (x - y)
between_down x y l h = omega arith

-- the offset as it counts along the line
abbrev pub toward : Bool → ℕ → ℕ → ℕ
toward false x y = between x y
toward true x y = between y x

-- a cell's offset, as it stands if the line is flipped
abbrev pub flipped : Bool → ℕ → ℕ
flipped false w = w
flipped true w = opposite w

pub opposite_word : (w : ℕ) → w < 2 ^ 32 → opposite w ≡ negated w
opposite_word w h = grind (arith, nat_tests)

pub opposite_twice : (w : ℕ) → opposite (opposite w) ≡ w
opposite_twice w = ⊎_elim (λ l. word l) (λ g. other g) (cases_lt w (2 ^ 32))
  where
    word : w < 2 ^ 32 → opposite (opposite w) ≡ w
    word l =
        let e = opposite_word w l in
        let k : negated w < 2 ^ 32 = omega arith in
        let z : negated (negated w) ≡ w = omega arith in
        ap opposite e ∙ opposite_word (negated w) k ∙ z

    other : 2 ^ 32 ≤ w → opposite (opposite w) ≡ w
    other g = let e : opposite w ≡ w = grind (arith, nat_tests) in ap opposite e ∙ e

flipped_word : (flip : Bool) (x y : ℕ) → flipped flip (between x y) ≡ turned flip (between x y)
flipped_word false x y = refl
flipped_word true x y = let l : between x y < 2 ^ 32 = omega arith in opposite_word (between x y) l

first : (flip d : Bool) (x y : ℕ) → x ≢ y → x < 2 ^ 30 → y < 2 ^ 30
    → sum_of 0 (turned (bool_xor flip d) (turned flip (between x y))) ≡ toward d x y
first false false x y n h k = omega arith
first false true x y n h k = omega arith
first true false x y n h k = omega arith
first true true x y n h k = omega arith

second : (flip d : Bool) (x y : ℕ) → x ≢ y → x < 2 ^ 30 → y < 2 ^ 30
    → sum_of (toward d x y) (turned (bool_xor flip d) (turned flip (between y x))) ≡ 0
second false false x y n h k = omega arith
second false true x y n h k = omega arith
second true false x y n h k = omega arith
second true true x y n h k = omega arith

pub first_br : (flip d : Bool) (x y : ℕ) → x ≢ y → x < 2 ^ 30 → y < 2 ^ 30
    → sum_of 0 (turned (bool_xor flip d) (flipped flip (between x y))) ≡ toward d x y
first_br flip d x y n h k = ap (λ w. sum_of 0 (turned (bool_xor flip d) w)) (flipped_word flip x y)
    ∙ first flip d x y n h k

pub second_br : (flip d : Bool) (x y : ℕ) → x ≢ y → x < 2 ^ 30 → y < 2 ^ 30
    → sum_of (toward d x y) (turned (bool_xor flip d) (flipped flip (between y x))) ≡ 0
second_br flip d x y n h k = ap (λ w. sum_of (toward d x y) (turned (bool_xor flip d) w)) (flipped_word flip y x)
    ∙ second flip d x y n h k

pub goes_to : (flip d : Bool) (g : ℤ) (x y : ℕ) → x ≢ y → x < 2 ^ 30 → y < 2 ^ 30
    → spot flip false g x +ℤ along (bool_xor flip d) (stride (toward d x y)) ≡ spot flip false g y
goes_to flip d g x y n h k = ⊎_elim (λ l. up flip d l) (λ l. down flip d (omega arith)) (cases_lt x y)
  where
    up : (flip d : Bool) → x < y → spot flip false g x +ℤ along (bool_xor flip d) (stride (toward d x y))
        ≡ spot flip false g y
    up false false l = rw (between_up x y l k, stride_up (y - x) (omega arith) (omega arith)) (omega (arith, ints))
    up false true l = rw (between_down y x l k, stride_down (y - x) (omega arith) (omega arith)) (omega (arith, ints))
    up true false l = rw (between_up x y l k, stride_up (y - x) (omega arith) (omega arith)) (omega (arith, ints))
    up true true l = rw (between_down y x l k, stride_down (y - x) (omega arith) (omega arith)) (omega (arith, ints))

    down : (flip d : Bool) → y < x → spot flip false g x +ℤ along (bool_xor flip d) (stride (toward d x y))
        ≡ spot flip false g y
    down false false l = rw (between_down x y l h, stride_down (x - y) (omega arith) (omega arith))
        (omega (arith, ints))
    down false true l = rw (between_up y x l h, stride_up (x - y) (omega arith) (omega arith)) (omega (arith, ints))
    down true false l = rw (between_down x y l h, stride_down (x - y) (omega arith) (omega arith)) (omega (arith, ints))
    down true true l = rw (between_up y x l h, stride_up (x - y) (omega arith) (omega arith)) (omega (arith, ints))

-- the gaps before and after cell x, in the direction
abbrev pub near : Bool → ℕ → ℕ
near false x = x
near true x = x + 1

abbrev pub far : Bool → ℕ → ℕ
far false x = x + 1
far true x = x

pub near_is : (flip d : Bool) (g : ℤ) (x : ℕ) → spot flip d g (near d x) ≡ spot flip false g x
near_is false false g x = refl
near_is false true g x = omega (arith, ints)
near_is true false g x = refl
near_is true true g x = omega (arith, ints)

pub far_is : (flip d : Bool) (g : ℤ) (x : ℕ) → spot flip false g x +ℤ along (bool_xor flip d) (pos 1)
    ≡ spot flip d g (far d x)
far_is false false g x = omega (arith, ints)
far_is false true g x = omega (arith, ints)
far_is true false g x = omega (arith, ints)
far_is true true g x = omega (arith, ints)
