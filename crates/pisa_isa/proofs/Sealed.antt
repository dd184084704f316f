-- Cells that no refusal meets are the code of an image, and it has a START cell.
use Rattle.std.proofs.Common.{◌≡◌, ◌∙◌, ap, refl, ℕ, suc, ◌+◌, ◌<◌, ◌≤◌, Bool, true, false, not, cond, arith, List, []}
use Rattle.std.proofs.Common.{◌∷◌, length, Option, Some, None}
use Rattle.std.specs.Prelude.{position, count_by, filter, nat_lt}
use Rattle.std.specs.List.{All, position_or_len}
use Rattle.std.proofs.lemmas.List.Sums.{fails_before_first, passes_at_first, length-filter}
use Rattle.std.proofs.lemmas.Bool.Decides.{nat_tests}
use Rattle.pisa_isa.specs.declared.image.TheConstants.{MOST_CELLS, MOST_STATICS}
use Rattle.pisa_isa.specs.declared.cell.Cell.{Cell}
use Rattle.pisa_isa.specs.Table.{IsInRange, IsCell, is_one_to_one}
use Rattle.pisa_isa.specs.Image.{Segments, IsImage, is_start, is_finish, start_of, refusal_by, first_seal_refusal}
use Rattle.std.proofs.lemmas.Bool.{not-false}

record PassesAll (o : Option ℕ) (starts finishes : ℕ) : Type 0 where
  all_one_to_one : o ≡ None
  one_start : starts ≡ 1
  one_finish : finishes ≡ 1

passes_all : (o : Option ℕ) (starts finishes : ℕ) → refusal_by o starts finishes ≡ None → PassesAll o starts finishes
passes_all (Some at) starts finishes e = absurd (cc)
passes_all None starts finishes e = record {
  all_one_to_one = refl;
  one_start = grind (arith, nat_tests);
  one_finish = grind (arith, nat_tests);
}

-- if no element passes, its place is the length
none_passes : {X : Type 0} (p : X → Bool) (xs : List X) → position p xs ≡ None → length xs ≤ position_or_len p xs
none_passes p xs e = none_below (position_or_len p xs) (length xs) e
  where
    none_below : (k n : ℕ) → cond (nat_lt k n) (Some k) None ≡ None → n ≤ k
    none_below k n e = grind (arith, nat_tests)

cells_of : (code : List Cell) → All IsInRange code → position (λ c. not (is_one_to_one c)) code ≡ None → All IsCell code
cells_of code ranges e =
    let all = none_passes (λ c. not (is_one_to_one c)) code e in
    λ k d h. record {
      in_range = ranges k d h;
      one_to_one = not-false _ (fails_before_first (λ c. not (is_one_to_one c)) code k d (omega arith));
    }

pub IsImage-sealed : (code : List Cell) (statics : List ℕ) → length code ≤ MOST_CELLS → length statics ≤ MOST_STATICS
    → All IsInRange code → first_seal_refusal code ≡ None
    → IsImage (record { code = code; statics = statics })
IsImage-sealed code statics in_limit statics_in_limit ranges e =
    let passes = passes_all _ (count_by is_start code) (count_by is_finish code) e in
    record {
      is_code = record { in_limit = in_limit; cells = cells_of code ranges passes.all_one_to_one };
      one_start = passes.one_start;
      one_finish = passes.one_finish;
      statics_in_limit = statics_in_limit;
    }

-- if no element passes, none is counted

filter_none : {X : Type 0} (p : X → Bool) (xs : List X) → length xs ≤ position_or_len p xs → length (filter p xs) ≡ 0
filter_none p [] h = refl
filter_none p (x ∷ xs) h =
    elim (p x) as (λ b. suc (length xs) ≤ cond (not b) (1 + position_or_len p xs) 0
    → length (cond b (x ∷ filter p xs) (filter p xs)) ≡ 0)
    [ true ↦ λ h. absurd (omega arith) | false ↦ λ h. filter_none p xs (omega arith) ] h

pub has_start : (code : List Cell) → count_by is_start code ≡ 1 → position is_start code ≡ None → ⊥
has_start code one e =
    let none = filter_none is_start code (none_passes is_start code e) in
    let same = length-filter is_start code in
    omega arith

pub start_of-lt : (code : List Cell) → count_by is_start code ≡ 1 → start_of code < length code
start_of-lt code one =
    let never : length code ≤ position_or_len is_start code
    → ⊥ = λ h. let none = filter_none is_start code h in let same = length-filter is_start code in omega arith in
    omega (arith, never)

-- some cell of code that has one
pub some_cell : (code : List Cell) (k : ℕ) → k < length code → Cell
some_cell [] k h = absurd (omega arith)
some_cell (c ∷ code) k h = c

no_place : (k n : ℕ) → (k < n → ⊥) → cond (nat_lt k n) (Some k) None ≡ None
no_place k n h = grind (arith, nat_tests)

not_true : (b : Bool) → b ≡ true → not b ≡ true → ⊥
not_true true e h = cc
not_true false e h = cc

-- no cell of an image can be refused
pub every_one_to_one : (code : List Cell) → All IsCell code → position (λ c. not (is_one_to_one c)) code ≡ None
every_one_to_one code cells =
    let k : ℕ = position_or_len (λ c. not (is_one_to_one c)) code in
    no_place k (length code) (λ h.
    let d : Cell = some_cell code k h in
    not_true _ (cells k d h).one_to_one (passes_at_first (λ c. not (is_one_to_one c)) code d h))

-- the code of an image is not refused
pub accepted_by_seal : (image : Segments) → IsImage image → first_seal_refusal image.code ≡ None
accepted_by_seal image i =
    ap (λ o. refusal_by o (count_by is_start image.code) (count_by is_finish image.code))
    (every_one_to_one image.code i.is_code.cells)
    ∙ rw (i.one_start, i.one_finish)
