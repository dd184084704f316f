-- What `link` writes is in the image.
use Rattle.std.proofs.Common.{◌≡◌, ℕ, zero, suc, ◌+◌, ◌^◌, ◌<◌, List, [], ◌∷◌, ◌++◌, length, Some, refl, sym, ap, ◌∙◌}
use Rattle.std.proofs.Common.{subst, arith, append_assoc, length-append, Bool, true, false}
use Rattle.std.specs.Prelude.{ℤ, pos, slice_get, slice_index, nat_eq, if◌then◌else◌}
use Rattle.std.proofs.lemmas.Bool.Decides.{nat_tests}
use Rattle.std.proofs.Math.Seq.{get_or-append_seam}
use Rattle.std.proofs.lemmas.Option.{slice_get-get_or, slice_get_within}
use Rattle.code_conventions.specs.pisa_isa.declared.cell.Cell.{Cell}
use Rattle.code_conventions.specs.Cells.{bra}
use Rattle.paired_code.specs.Cells.{start_cell, finish}
use Rattle.paired_code.specs.declared.part.Symbol.{Symbol}
use Rattle.code_conventions.specs.pisa_isa.Machine.{fetch}
use Rattle.paired_code.specs.Machine.{Image, is_one_of}
use Rattle.paired_code.specs.Layout.{base, resolved, Stands, code_line, Routine, Tidy, between, frame_address}
use Rattle.paired_code.specs.Link.{link_positions, linked, routine_code, routines_code, first_top, link_code, link_image}
use Rattle.paired_code.specs.Link.{routines_size, link_size, AllPlaced}
use Rattle.paired_code.proofs.Call.{on_line}

-- ---- the rest of a list from a number on

pub record From {A : Type 0} (all : List A) (n : ℕ) (rest : List A) : Type 0 where
  pub pre : List A
  pub is : all ≡ pre ++ rest
  pub far : length pre ≡ n

pub from_all : {A : Type 0} (all : List A) → From all 0 all
from_all all = record { pre = []; is = refl; far = refl }

pub from_tail : {A : Type 0} (all : List A) (n : ℕ) (x : A) (rest : List A) → From all n (x ∷ rest)
    → From all (n + 1) rest
from_tail all n x rest h = let k = h.far in
    record {
      pre = h.pre ++ x ∷ [];
      is = h.is ∙ sym (append_assoc h.pre (x ∷ []) rest);
      far = omega (arith, length-append h.pre (x ∷ []));
    }

pub from_after : {A : Type 0} (all : List A) (n k : ℕ) (xs rest : List A) → length xs ≡ k → From all n (xs ++ rest)
    → From all (n + k) rest
from_after all n k xs rest e h = let j = h.far in record
    { pre = h.pre ++ xs; is = h.is ∙ sym (append_assoc h.pre xs rest); far = omega (arith, length-append h.pre xs) }

at_seam : {A : Type 0} (pre post : List A) (x : A) → slice_get (pre ++ x ∷ post) (length pre) ≡ Some x
at_seam pre post x =
    let within : length pre < length (pre ++ x ∷ post) = omega (arith, length-append pre (x ∷ post)) in
    slice_get-get_or (pre ++ x ∷ post) (length pre) x within ∙ ap Some (get_or-append_seam pre x post x)

pub from_get : {A : Type 0} (all : List A) (n : ℕ) (x : A) (rest : List A) → From all n (x ∷ rest)
    → slice_get all n ≡ Some x
from_get all n x rest h = ap (λ l. slice_get l n) h.is ∙ ap (λ k. slice_get (h.pre ++ x ∷ rest) k) (sym h.far)
    ∙ at_seam h.pre rest x

pub from_index : (all : List ℕ) (n : ℕ) (x : ℕ) (rest : List ℕ) → From all n (x ∷ rest) → slice_index all n ≡ x
from_index all n x rest h = ap (λ l. slice_index l n) h.is ∙ ap (λ k. slice_index (h.pre ++ x ∷ rest) k) (sym h.far)
    ∙ get_or-append_seam h.pre x rest 0

-- ---- a fragment

pub length-linked : (rs : List ℕ) (a : ℕ) (p : List Symbol) → length (linked rs a p) ≡ length p
length-linked rs a [] = refl
length-linked rs a (c ∷ p) = let e = length-linked rs (a + 1) p in omega arith

pub cell_from : (im : Image) (n : ℕ) (c : Cell) (rest : List Cell) → From im.code n (c ∷ rest)
    → fetch im.code (frame_address code_line n) ≡ Some c
cell_from im n c rest h = subst (λ z. fetch im.code z ≡ Some c) (sym (on_line n)) (from_get im.code n c rest h)

pub stands_from : (im : Image) (n : ℕ) (p : List Symbol) (rest : List Cell)
    → From im.code n (linked im.routines n p ++ rest) → Stands im code_line n p
stands_from im n [] rest h = tt
stands_from im n (c ∷ p) rest h =
    let P : ℤ → Type 0 = λ z. fetch im.code z ≡ Some (resolved im false z c) in (
      subst P (sym (on_line n)) (from_get im.code n (base im.routines (pos n) c) _ h),
      stands_from im (n + 1) p rest (from_tail im.code n _ _ h),
    )

-- ---- the routines

either_way : (t b : Bool) → b ≡ true → (if t then true else b) ≡ true
either_way true b e = refl
either_way false b e = e

one_of_seam : (pre post : List ℕ) (x : ℕ) → is_one_of (pre ++ x ∷ post) x ≡ true
one_of_seam [] post x = grind (arith, nat_tests)
one_of_seam (y ∷ pre) post x = either_way (nat_eq y x) (is_one_of (pre ++ x ∷ post) x) (one_of_seam pre post x)

pub from_one_of : (all : List ℕ) (n : ℕ) (x : ℕ) (rest : List ℕ) → From all n (x ∷ rest) → is_one_of all x ≡ true
from_one_of all n x rest h = ap (λ l. is_one_of l x) h.is ∙ one_of_seam h.pre rest x

pub placed : (im : Image) (n t : ℕ) (bs : List (List Symbol)) → length im.code < 2 ^ 30
    → From im.code t (routines_code im.routines t bs) → From im.routines n (link_positions t bs) → AllPlaced im n t bs
placed im n t [] short h g = tt
placed im n t (b ∷ bs) short h g =
    let rs = im.routines in
    let more = routines_code rs (t + 1 + 1 + 1 + length b + 1) bs in
    let last = bra (between (t + 1 + 1 + 1 + length b) t) in
    let h1 = from_tail im.code t _ _ h in
    let h2 = from_tail im.code (t + 1) _ _ h1 in
    let h3 : From im.code (t + 1 + 1 + 1) ((linked rs (t + 1 + 1 + 1) b ++ last ∷ []) ++ more) =
    from_tail im.code (t + 1 + 1) _ _ h2 in
    let h4 : From im.code (t + 1 + 1 + 1) (linked rs (t + 1 + 1 + 1) b ++ last ∷ more) =
    subst (λ l. From im.code (t + 1 + 1 + 1) l) (append_assoc (linked rs (t + 1 + 1 + 1) b) (last ∷ []) more) h3 in
    let h5 : From im.code (t + 1 + 1 + 1 + length b) (last ∷ more) =
    from_after im.code (t + 1 + 1 + 1) (length b) (linked rs (t + 1 + 1 + 1) b) (last ∷ more)
    (length-linked rs (t + 1 + 1 + 1) b) h4 in
    let h6 = from_tail im.code (t + 1 + 1 + 1 + length b) last more h5 in
    let in_code : t + 1 + 1 + 1 + length b < length im.code =
    slice_get_within im.code _ last (from_get im.code _ last more h5) in (
      record {
        listed = from_index rs n (t + 1) _ g;
        known = from_one_of rs n (t + 1) _ g;
        top_cell = cell_from im t _ _ h;
        sub_cell = cell_from im (t + 1) _ _ h1;
        neg_cell = cell_from im (t + 1 + 1) _ _ h2;
        body_there = stands_from im (t + 1 + 1 + 1) b (last ∷ more) h4;
        bot_cell = cell_from im (t + 1 + 1 + 1 + length b) last more h5;
        small = omega arith;
      },
      placed im (n + 1) (t + 1 + 1 + 1 + length b + 1) bs short h6 (from_tail rs n (t + 1) _ g),
    )

-- each place in the table follows a jump
jumps : (im : Image) (n t : ℕ) (bs : List (List Symbol)) (s : ℕ) → AllPlaced im n t bs
    → is_one_of (link_positions t bs) (s + 1) ≡ true → (w : ℕ) × (fetch im.code (pos s) ≡ Some (bra w))
jumps im n t [] s h e = absurd (let k : false ≡ true = e in cc)
jumps im n t (b ∷ bs) s h e = go (λ x. jumps im (n + 1) (t + 1 + 1 + 1 + length b + 1) bs s h.1 x)
    (nat_eq (t + 1) (s + 1)) refl e
  where
    go : (is_one_of (link_positions (t + 1 + 1 + 1 + length b + 1) bs) (s + 1) ≡ true
        → (w : ℕ) × (fetch im.code (pos s) ≡ Some (bra w))) → (k : Bool) → nat_eq (t + 1) (s + 1) ≡ k
        → (if k then true else is_one_of (link_positions (t + 1 + 1 + 1 + length b + 1) bs) (s + 1)) ≡ true
        → (w : ℕ) × (fetch im.code (pos s) ≡ Some (bra w))
    go others true q x = let same : t ≡ s = grind (arith, nat_tests) in (
      between t (t + 1 + 1 + 1 + length b),
      subst (λ y. fetch im.code (pos y)
          ≡ Some (bra (between t (t + 1 + 1 + 1 + length b)))) same
          (subst (λ z. fetch im.code z ≡ Some (bra (between t (t + 1 + 1 + 1 + length b)))) (on_line t)
          h.0.top_cell),
    )
    go others false q x = others x

-- ---- sizes

pub length-routine : (rs : List ℕ) (t : ℕ) (b : List Symbol) → length (routine_code rs t b) ≡ length b + 4
length-routine rs t b = omega (
  arith,
  length-append (linked rs (t + 1 + 1 + 1) b)
      (bra (between (t + 1 + 1 + 1 + length b) t) ∷ []),
  length-linked rs (t + 1 + 1 + 1) b,
)

pub length-routines : (rs : List ℕ) (t : ℕ) (bs : List (List Symbol))
    → length (routines_code rs t bs) ≡ routines_size bs
length-routines rs t [] = refl
length-routines rs t (b ∷ bs) = omega (
  arith,
  length-append (routine_code rs t b)
      (routines_code rs (t + 1 + 1 + 1 + length b + 1) bs),
  length-routine rs t b,
  length-routines rs (t + 1 + 1 + 1 + length b + 1) bs,
)

pub length-link : (main : List Symbol) (bodies : List (List Symbol))
    → length (link_code main bodies) ≡ link_size main bodies
length-link main bodies =
    let rs = link_positions (first_top main) bodies in
    omega (
      arith,
      length-append (linked rs 1 main) (finish ∷ routines_code rs (first_top main) bodies),
      length-linked rs 1 main,
      length-routines rs (first_top main) bodies,
    )

-- ---- the whole image

module _ (main : List Symbol) (bodies : List (List Symbol)) (small : link_size main bodies < 2 ^ 30) where
  abbrev im : Image
  im = link_image main bodies

  abbrev tops : List Cell
  tops = routines_code im.routines (first_top main) bodies

  pub short : length im.code < 2 ^ 30
  short = let e = length-link main bodies in omega arith

  from_main : From im.code 1 (linked im.routines 1 main ++ finish ∷ tops)
  from_main = record { pre = start_cell ∷ []; is = refl; far = refl }

  from_finish : From im.code (1 + length main) (finish ∷ tops)
  from_finish = from_after im.code 1 (length main) (linked im.routines 1 main) (finish ∷ tops)
      (length-linked im.routines 1 main) from_main

  pub main_there : Stands im code_line 1 main
  main_there = stands_from im 1 main (finish ∷ tops) from_main

  pub finish_there : fetch im.code (pos (1 + length main)) ≡ Some finish
  finish_there = from_get im.code (1 + length main) finish tops from_finish

  pub routines_there : AllPlaced im 0 (first_top main) bodies
  routines_there = placed im 0 (first_top main) bodies short
      (from_tail im.code (1 + length main) finish tops from_finish) (from_all im.routines)

  pub tidy : Tidy im
  tidy = record { jump_before = λ s e. jumps im 0 (first_top main) bodies s routines_there e; short = short }

-- the routine of a number, and its place in the table
pub body_at : List (List Symbol) → ℕ → List Symbol
body_at [] r = []
body_at (b ∷ bs) zero = b
body_at (b ∷ bs) (suc r) = body_at bs r

pub top_of : ℕ → List (List Symbol) → ℕ → ℕ
top_of t [] r = t
top_of t (b ∷ bs) zero = t
top_of t (b ∷ bs) (suc r) = top_of (t + 1 + 1 + 1 + length b + 1) bs r

pub placed_at : (im : Image) (n t : ℕ) (bs : List (List Symbol)) (r : ℕ) → AllPlaced im n t bs → r < length bs
    → Routine im (n + r) (top_of t bs r) (body_at bs r)
unfolding body_at top_of
placed_at im n t [] r h l = absurd (omega arith)
placed_at im n t (b ∷ bs) zero h l = let e : n ≡ n + 0 = omega arith in subst (λ k. Routine im k t b) e h.0
placed_at im n t (b ∷ bs) (suc r) h l =
    let e : n + 1 + r ≡ n + suc r = omega arith in
    let top = top_of (t + 1 + 1 + 1 + length b + 1) bs r in
    subst (λ k. Routine im k top (body_at bs r)) e (placed_at im (n + 1) (t + 1 + 1 + 1 + length b + 1) bs r h.1
    (omega arith))
