-- The one START and the one FINISH cell: their addresses in code and in the inverse code, and what
-- steps there do.
use Rattle.std.proofs.Common.{◌≡◌, ◌∙◌, sym, ap, refl, ℕ, zero, suc, ◌-◌, ◌<◌, Bool, true, false, not, ◌&&◌, cond}
use Rattle.std.proofs.Common.{arith, List, [], ◌∷◌, length, get_or, map, ℤ, pos, negsuc, Option, Some, None}
use Rattle.std.specs.Prelude.{slice_get, filter, count_by}
use Rattle.std.specs.List.{position_or_len}
use Rattle.std.proofs.lemmas.Bool.{false_from_ne_true}
use Rattle.std.proofs.lemmas.Bool.Decides.{nat_tests}
use Rattle.std.proofs.lemmas.List.{get_or-reverse, get_or-map, length-reverse, length-map}
use Rattle.std.proofs.lemmas.List.Sums.{length-filter, position_or_len_is, passes_at_first}
use Rattle.std.proofs.lemmas.Option.{slice_get_within, get_or_from_slice_get, slice_get-get_or}
use Rattle.pisa_isa.specs.declared.cell.Op.{Op}
use Rattle.pisa_isa.specs.declared.cell.Op.TheVariants.{Exch, Start, Finish}
use Rattle.pisa_isa.specs.declared.cell.Cell.{Cell}
use Rattle.pisa_isa.specs.declared.machine.Stop.TheVariants.{Finished, Returned, BadAddress}
use Rattle.pisa_isa.specs.Table.{inverse_op, inverse_of}
use Rattle.pisa_isa.specs.Machine.{State, row, is_zero_word, fetch, stop, stop_at, stop_in}
use Rattle.pisa_isa.specs.Image.{is_start_op, is_finish_op, is_start, is_finish, start_of}
use Rattle.pisa_isa.specs.Flipped.{flipped}
use Rattle.pisa_isa.proofs.Sealed.{start_of-lt, some_cell}

-- one element of a list passes

none_in : {X : Type 0} (p : X → Bool) (xs : List X) (j : ℕ) (d : X) → length (filter p xs) ≡ 0 → j < length xs
    → p (get_or xs j d) ≡ true → ⊥
none_in p [] j d e h t = omega arith
none_in p (x ∷ xs) zero d e h t = let e = rw t at e in omega arith
none_in p (x ∷ xs) (suc j) d e h t =
    elim (p x) as (λ b. length (cond b (x ∷ filter p xs) (filter p xs)) ≡ 0 → ⊥)
    [ true ↦ λ e. omega arith | false ↦ λ e. none_in p xs j d e (omega arith) t ] e

one_only : {X : Type 0} (p : X → Bool) (xs : List X) (i j : ℕ) (d : X) → length (filter p xs) ≡ 1 → i < length xs
    → j < length xs → p (get_or xs i d) ≡ true → p (get_or xs j d) ≡ true → i ≡ j
one_only p [] i j d e hi hj ti tj = absurd (omega arith)
one_only p (x ∷ xs) zero zero d e hi hj ti tj = refl
one_only p (x ∷ xs) zero (suc j) d e hi hj ti tj = let e = rw ti at e in
    absurd (none_in p xs j d (omega arith) (omega arith) tj)
one_only p (x ∷ xs) (suc i) zero d e hi hj ti tj = let e = rw tj at e in
    absurd (none_in p xs i d (omega arith) (omega arith) ti)
one_only p (x ∷ xs) (suc i) (suc j) d e hi hj ti tj =
    elim (p x) as (λ b. length (cond b (x ∷ filter p xs) (filter p xs)) ≡ 1 → suc i ≡ suc j) [
      | true ↦ λ e. absurd (none_in p xs i d (omega arith) (omega arith) ti)
      | false ↦ λ e. ap suc (one_only p xs i j d e (omega arith) (omega arith) ti tj)
    ] e

pub only_one : {X : Type 0} (p : X → Bool) (xs : List X) (i j : ℕ) (d : X) → count_by p xs ≡ 1 → i < length xs
    → j < length xs → p (get_or xs i d) ≡ true → p (get_or xs j d) ≡ true → i ≡ j
only_one p xs i j d e = one_only p xs i j d (length-filter p xs ∙ e)

-- a cell that passes is at a code address

pub record Stands (p : Cell → Bool) (code : List Cell) (place : ℕ) : Type 0 where
  pub cell : Cell
  pub within : place < length code
  pub there : slice_get code place ≡ Some cell
  pub is : p cell ≡ true

stands_at : (p : Cell → Bool) (code : List Cell) (k : ℕ) (d : Cell) → k < length code → p (get_or code k d) ≡ true
    → Stands p code k
stands_at p code k d h t = record { cell = get_or code k d; within = h; there = slice_get-get_or code k d h; is = t }

pub start_stands : (code : List Cell) → count_by is_start code ≡ 1 → Stands is_start code (start_of code)
start_stands code one =
    let h : position_or_len is_start code < length code = start_of-lt code one in
    let d : Cell = some_cell code (position_or_len is_start code) h in
    stands_at is_start code (position_or_len is_start code) d h (passes_at_first is_start code d h)

-- the START cell of the flipped code is where the FINISH cell was, by the other end

pub is_start-inverse_op : (op : Op) → is_start_op (inverse_op op) ≡ is_finish_op op
is_start-inverse_op Start = refl
is_start-inverse_op _ = refl

pub is_finish-inverse_op : (op : Op) → is_finish_op (inverse_op op) ≡ is_start_op op
is_finish-inverse_op Start = refl
is_finish-inverse_op _ = refl

pub get_or-flipped : (code : List Cell) (k : ℕ) (c : Cell) → k < length code
    → get_or (flipped code) k (inverse_of c) ≡ inverse_of (get_or code (length code - 1 - k) c)
get_or-flipped code k c h =
    let n : length (map inverse_of code) ≡ length code = length-map code inverse_of in
    get_or-reverse (map inverse_of code) k (inverse_of c) (omega arith)
    ∙ ap (λ m. get_or (map inverse_of code) (m - 1 - k) (inverse_of c)) n
    ∙ get_or-map inverse_of code (length code - 1 - k) c (inverse_of c) (omega arith)

pub start_of-flipped : (code : List Cell) (f : ℕ) → count_by is_finish code ≡ 1 → Stands is_finish code f
    → start_of (flipped code) ≡ length code - 1 - f
start_of-flipped code f one s =
    let n : length (flipped code) ≡ length code = length-reverse (map inverse_of code) ∙ length-map code inverse_of in
    let within = s.within in
    let d : Cell = inverse_of s.cell in
    let here : is_finish (get_or code f s.cell) ≡ true = ap is_finish
    (get_or_from_slice_get code f s.cell s.cell s.there) ∙ s.is in
    let test : (k : ℕ) → k < length code → is_start (get_or (flipped code) k d)
    ≡ is_finish (get_or code (length code - 1 - k) s.cell) =
    λ k h. ap is_start (get_or-flipped code k s.cell h) ∙ is_start-inverse_op _ in
    let place : length code - 1 - (length code - 1 - f) ≡ f = omega arith in
    position_or_len_is is_start (flipped code) (length code - 1 - f) d (omega arith)
    (λ k h. false_from_ne_true _ (λ t. let same = only_one is_finish code (length code - 1 - k) f s.cell one
    (omega arith) within (sym (test k (omega arith)) ∙ t) here in omega arith))
    (λ _. test (length code - 1 - f) (omega arith) ∙ ap (λ j. is_finish (get_or code j s.cell)) place ∙ here)

-- steps at START and FINISH

pub row_at_start : (op : Op) (a b c i : ℕ) (m : State) → is_start_op op ≡ true → row op a b c i m ≡ m
row_at_start Start a b c i m e = refl
row_at_start _ a b c i m e = absurd (cc)

pub goes_at_start : (op : Op) (c : Cell) (m : State) → is_start_op op ≡ true → m.back ≡ false → stop_in op c m ≡ None
goes_at_start Start c m e h = rw h
goes_at_start _ c m e h = absurd (cc)

pub stops_at_finish : (op : Op) (c : Cell) (m : State) → is_finish_op op ≡ true → m.back ≡ false → m.br ≡ 0
    → stop_in op c m ≡ Some Finished
stops_at_finish Finish c m e h z = rw (h, z)
stops_at_finish _ c m e h z = absurd (cc)

-- where a run finished

pub record FinishedAt (code : List Cell) (m : State) (f : ℕ) : Type 0 where
  pub place : m.pc ≡ pos f
  pub stands : Stands is_finish code f
  pub forward : m.back ≡ false
  pub no_branch : m.br ≡ 0

record AtFinish (op : Op) (m : State) : Type 0 where
  is : is_finish_op op ≡ true
  forward : m.back ≡ false
  no_branch : m.br ≡ 0

both_of : (b : Bool) (br : ℕ) → cond (not b && is_zero_word br) (Some Finished) None ≡ Some Finished
    → (b ≡ false) × (br ≡ 0)
both_of true br e = absurd (cc)
both_of false br e = (refl, grind (arith, nat_tests))

returned_not : (t : Bool) → cond t (Some Returned) None ≡ Some Finished → ⊥
returned_not true e = cc
returned_not false e = cc

address_not : (t : Bool) (a : ℕ) → cond t None (Some (BadAddress a)) ≡ Some Finished → ⊥
address_not true a e = cc
address_not false a e = cc

at_finish : (op : Op) (c : Cell) (m : State) → stop_in op c m ≡ Some Finished → AtFinish op m
at_finish Finish c m e = let b = both_of m.back m.br e in record { is = refl; forward = b.0; no_branch = b.1 }
at_finish Start c m e = absurd (returned_not _ e)
at_finish Exch c m e = absurd (address_not _ _ e)
at_finish _ c m e = absurd (cc)

finished_at_cell : (code : List Cell) (f : ℕ) (m : State) (o : Option Cell) → slice_get code f ≡ o → m.pc ≡ pos f
    → stop_at o m ≡ Some Finished → (f : ℕ) × FinishedAt code m f
finished_at_cell code f m None there e h = absurd (cc)
finished_at_cell code f m (Some c) there e h =
    let a = at_finish c.op c m h in (
      f,
      record {
        place = e;
        stands = record {
          cell = c;
          within = slice_get_within code f c there;
          there = there;
          is = a.is;
        };
        forward = a.forward;
        no_branch = a.no_branch;
      },
    )

finished_at_place : (code : List Cell) (p : ℤ) (m : State) → m.pc ≡ p → stop_at (fetch code p) m ≡ Some Finished
    → (f : ℕ) × FinishedAt code m f
finished_at_place code (negsuc k) m e h = absurd (cc)
finished_at_place code (pos f) m e h = finished_at_cell code f m (slice_get code f) refl e h

pub finished_at : (code : List Cell) (m : State) → stop code m ≡ Some Finished → (f : ℕ) × FinishedAt code m f
finished_at code m h = finished_at_place code m.pc m refl h
