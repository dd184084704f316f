-- How many cells of an image lie in no mark's range.
use Rattle.std.proofs.Common.{◌≡◌, ℕ, zero, suc, ◌+◌, ◌<◌, ◌≤◌, Bool, true, false, List, [], ◌∷◌, ◌++◌, length, refl}
use Rattle.std.proofs.Common.{sym, ap, ◌∙◌, subst, arith, length-append}
use Rattle.std.specs.Prelude.{if◌then◌else◌}
use Rattle.std.specs.List.Sorted.{IsPermutation}
use Rattle.std.proofs.lemmas.List.Sorted.{list_any-IsPermutation}
use Rattle.refine_program.specs.pisa_isa.declared.notes.Mark.{Mark}
use Rattle.refine_program.specs.paired_code.Code.{Code, bodies, shift, routine_marks, link_marks}
use Rattle.refine_program.specs.paired_code.Link.{routines_size, link_size}
use Rattle.refine_program.specs.refine_form.Held.{HoldsCode}
use Rattle.statement_codegen.specs.Ranges.{is_marked, holds_cell, IsCovered}
use Rattle.statement_codegen.proofs.Marks.{marked_front, marked_behind, marked_moved}
use Rattle.program_codegen.specs.Notes.{unmarked_from}

-- those of a fragment
abbrev pub bare : Code → ℕ
bare p = unmarked_from p.marks 0 (length p.cells)

-- those of routines, with the four cells around each body
abbrev pub spare : List Code → ℕ
spare [] = 0
spare (b ∷ bs) = 4 + bare b + spare bs

abbrev one_for : Bool → ℕ
one_for b = if b then 0 else 1

at_most_one : (b : Bool) → one_for b ≤ 1
at_most_one true = omega arith
at_most_one false = omega arith

pub at_most_all : (ks : List Mark) (a n : ℕ) → unmarked_from ks a n ≤ n
at_most_all ks a zero = omega arith
at_most_all ks a (suc n) = let h = at_most_one (is_marked ks a) in let r = at_most_all ks (a + 1) n in
    omega (arith, h, r)

pub unmarked_plus : (ks : List Mark) (a n m : ℕ) → unmarked_from ks a (n + m)
    ≡ unmarked_from ks a n + unmarked_from ks (a + n) m
unmarked_plus ks a zero m =
    let e : 0 + m ≡ m = omega arith in
    let z : a ≡ a + 0 = omega arith in
    ap (unmarked_from ks a) e ∙ ap (λ x. unmarked_from ks x m) z
    ∙ (let k : unmarked_from ks (a + 0) m ≡ 0 + unmarked_from ks (a + 0) m = omega arith in k)
unmarked_plus ks a (suc n) m =
    let z : a + 1 + n ≡ a + suc n = omega arith in
    let r = unmarked_plus ks (a + 1) n m ∙ ap (λ x. unmarked_from ks (a + 1) n + unmarked_from ks x m) z in
    let f : suc n + m ≡ suc (n + m) = omega arith in
    ap (unmarked_from ks a) f ∙ ap (λ x. one_for (is_marked ks a) + x) r
    ∙ (let k : one_for (is_marked ks a) + (unmarked_from ks (a + 1) n + unmarked_from ks (a + suc n) m)
    ≡ one_for (is_marked ks a) + unmarked_from ks (a + 1) n + unmarked_from ks (a + suc n) m = omega arith in k)

-- more marks leave no more cells
pub unmarked_less : (ks js : List Mark) (a n : ℕ) → ((i : ℕ) → is_marked ks i ≡ true → is_marked js i ≡ true)
    → unmarked_from js a n ≤ unmarked_from ks a n
unmarked_less ks js a zero f = omega arith
unmarked_less ks js a (suc n) f = let h = here (is_marked ks a) (is_marked js a) (f a) in let r =
    unmarked_less ks js (a + 1) n f in omega (arith, h, r)
  where
    here : (b c : Bool) → (b ≡ true → c ≡ true) → one_for c ≤ one_for b
    here true c g = let e : one_for c ≡ 0 = ap one_for (g refl) in omega (arith, e)
    here false c g = at_most_one c

pub unmarked_same : (ks js : List Mark) (a n : ℕ) → ((i : ℕ) → is_marked ks i ≡ is_marked js i)
    → unmarked_from ks a n ≡ unmarked_from js a n
unmarked_same ks js a zero f = refl
unmarked_same ks js a (suc n) f = ap (λ b. one_for b + unmarked_from ks (a + 1) n) (f a)
    ∙ ap (λ x. one_for (is_marked js a) + x) (unmarked_same ks js (a + 1) n f)

pub unmarked_permuted : (ks js : List Mark) (a n : ℕ) → IsPermutation ks js
    → unmarked_from ks a n ≡ unmarked_from js a n
unmarked_permuted ks js a n h = unmarked_same ks js a n (λ i. list_any-IsPermutation (holds_cell i) ks js h)

pub unmarked_moved : (t : ℕ) (ks : List Mark) (a n : ℕ) → unmarked_from (shift t ks) (t + a) n ≡ unmarked_from ks a n
unmarked_moved t ks a zero = refl
unmarked_moved t ks a (suc n) =
    let e : t + a + 1 ≡ t + (a + 1) = omega arith in
    ap (λ b. one_for b + unmarked_from (shift t ks) (t + a + 1) n) (marked_moved t a ks)
    ∙ ap (λ x. one_for (is_marked ks a) + unmarked_from (shift t ks) x n) e
    ∙ ap (λ x. one_for (is_marked ks a) + x) (unmarked_moved t ks (a + 1) n)

pub none_unmarked : (ks : List Mark) (a n : ℕ) → ((i : ℕ) → i < n → is_marked ks (a + i) ≡ true)
    → unmarked_from ks a n ≡ 0
none_unmarked ks a zero f = refl
none_unmarked ks a (suc n) f =
    let e : a + 0 ≡ a = omega arith in
    let h : is_marked ks a ≡ true = subst (λ x. is_marked ks x ≡ true) e (f 0 (omega arith)) in
    ap (λ b. one_for b + unmarked_from ks (a + 1) n) h ∙ (let k : 0 + unmarked_from ks (a + 1) n
    ≡ unmarked_from ks (a + 1) n = omega arith in k)
    ∙ none_unmarked ks (a + 1) n (λ i l. let z : a + suc i ≡ a + 1 + i = omega arith in
    subst (λ x. is_marked ks x ≡ true) z (f (suc i) (omega arith)))

pub bare_covered : (p : Code) → IsCovered p → bare p ≡ 0
bare_covered p h = none_unmarked p.marks 0 (length p.cells)
    (λ i l. let z : i ≡ 0 + i = omega arith in subst (λ x. is_marked p.marks x ≡ true) z (h i l))

-- a fragment that holds another: those of that one, and at most its own cells
pub bare_held : (a p : Code) → HoldsCode a p → bare p + length a.cells ≤ bare a + length p.cells
bare_held a p h =
    let b = length h.before in
    let n = length a.cells in
    let c = length h.after in
    let ks = shift b a.marks in
    let e : length p.cells ≡ b + (n + c) = ap length h.cells ∙ length-append h.before (a.cells ++ h.after)
    ∙ ap (λ z. b + z) (length-append a.cells h.after) in
    let z : 0 + b ≡ b + 0 = omega arith in
    let w : bare p ≡ unmarked_from ks 0 b + (unmarked_from ks (0 + b) n + unmarked_from ks (0 + b + n) c) =
    ap (λ k. unmarked_from k 0 (length p.cells)) h.marks ∙ ap (unmarked_from ks 0) e ∙ unmarked_plus ks 0 b (n + c)
    ∙ ap (λ x. unmarked_from ks 0 b + x) (unmarked_plus ks (0 + b) n c) in
    let mid : unmarked_from ks (0 + b) n ≡ bare a = ap (λ x. unmarked_from ks x n) z ∙ unmarked_moved b a.marks 0 n in
    let l = at_most_all ks 0 b in
    let r = at_most_all ks (0 + b + n) c in
    omega (arith, e, w, mid, l, r)

-- ---- those of an image

routines_spare : (t : ℕ) (bs : List Code) → unmarked_from (routine_marks t bs) t (routines_size (bodies bs)) ≤ spare bs
routines_spare t [] = omega arith
routines_spare t (b ∷ bs) =
    let a = t + 1 + 1 + 1 in
    let n = length b.cells in
    let c = a + n + 1 in
    let s = routines_size (bodies bs) in
    let own = shift a b.marks in
    let more = routine_marks c bs in
    let ks = own ++ more in
    let e : n + 4 + s ≡ 3 + (n + (1 + s)) = omega arith in
    let e1 : t + 3 ≡ a + 0 = omega arith in
    let e2 : t + 3 + n + 1 ≡ c = omega arith in
    let cut : unmarked_from ks t (n + 4 + s) ≡ unmarked_from ks t 3 +
    (unmarked_from ks (t + 3) n + (unmarked_from ks (t + 3 + n) 1 + unmarked_from ks (t + 3 + n + 1) s)) =
    ap (unmarked_from ks t) e ∙ unmarked_plus ks t 3 (n + (1 + s))
    ∙ ap (λ z. unmarked_from ks t 3 + z) (unmarked_plus ks (t + 3) n (1 + s)
    ∙ ap (λ z. unmarked_from ks (t + 3) n + z) (unmarked_plus ks (t + 3 + n) 1 s)) in
    let l1 = at_most_all ks t 3 in
    let l2 : unmarked_from ks (t + 3) n ≤ bare b = subst (λ z. unmarked_from ks z n ≤ bare b) (sym e1)
    (subst (λ z. unmarked_from ks (a + 0) n ≤ z) (unmarked_moved a b.marks 0 n)
    (unmarked_less own ks (a + 0) n (λ i. marked_front own more i))) in
    let l3 = at_most_all ks (t + 3 + n) 1 in
    let h : unmarked_from ks c s ≤ unmarked_from more c s = unmarked_less more ks c s (λ i. marked_behind own more i) in
    let h2 : unmarked_from more c s ≤ spare bs = routines_spare c bs in
    let l4 : unmarked_from ks (t + 3 + n + 1) s ≤ spare bs =
    subst (λ z. unmarked_from ks z s ≤ spare bs) (sym e2) (let x = h in let y = h2 in omega (arith, x, y)) in
    omega (arith, cut, l1, l2, l3, l4)

pub all_spare : (main : Code) (bs : List Code) → unmarked_from (link_marks main bs) 0 (link_size main.cells (bodies bs))
    ≤ 2 + length main.cells + spare bs
all_spare main bs =
    let n = length main.cells in
    let s = routines_size (bodies bs) in
    let t = 1 + n + 1 in
    let own = shift 1 main.marks in
    let more = routine_marks t bs in
    let ks = own ++ more in
    let e : n + 2 + s ≡ t + s = omega arith in
    let z : 0 + t ≡ t = omega arith in
    let cut : unmarked_from ks 0 (n + 2 + s) ≡ unmarked_from ks 0 t + unmarked_from ks t s = ap (unmarked_from ks 0) e
    ∙ unmarked_plus ks 0 t s ∙ ap (λ x. unmarked_from ks 0 t + unmarked_from ks x s) z in
    let l = at_most_all ks 0 t in
    let h : unmarked_from ks t s ≤ unmarked_from more t s = unmarked_less more ks t s (λ i. marked_behind own more i) in
    let h2 : unmarked_from more t s ≤ spare bs = routines_spare t bs in
    omega (arith, cut, l, h, h2)
