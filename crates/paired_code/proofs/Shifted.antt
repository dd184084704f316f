-- The marks of fragments on the cells of the image that is linked of them.
use Rattle.std.proofs.Common.{◌≡◌, ℕ, zero, suc, ◌+◌, ◌≤◌, ◌<◌, true, List, [], ◌∷◌, ◌++◌, length, refl, sym, ap}
use Rattle.std.proofs.Common.{◌∙◌, subst, arith, length-append, append_assoc, take, drop, get_or}
use Rattle.std.specs.List.{list_all}
use Rattle.std.specs.List.Sorted.{IsPermutation}
use Rattle.std.proofs.lemmas.Bool.{and_from, le-leb}
use Rattle.std.proofs.lemmas.List.Sums.{AllPass-from_list_all, list_all-from_AllPass}
use Rattle.std.proofs.lemmas.List.Sorted.{length_permutation, All-permutation}
use Rattle.code_conventions.specs.pisa_isa.declared.notes.TheConstants.{MOST_MARKS, LAST_PLACE}
use Rattle.code_conventions.specs.pisa_isa.declared.notes.Mark.{Mark}
use Rattle.code_conventions.specs.pisa_isa.declared.notes.FieldName.{FieldName}
use Rattle.code_conventions.specs.pisa_isa.Image.{Segments}
use Rattle.code_conventions.specs.pisa_isa.Notes.{is_within, mark_fits, fits}
use Rattle.code_conventions.proofs.pisa_isa_laws.Noting.{fits_by, notes}
use Rattle.paired_code.specs.Link.{routines_size, link_code, link_size}
use Rattle.paired_code.specs.Code.{Code, AllWithin, EachWithin, shift, bodies, routine_marks, link_marks}
use Rattle.paired_code.specs.Code.{marks_size}
use Rattle.paired_code.proofs.Fits.{within_append, moved}
use Rattle.paired_code.proofs.Writing.{code_length}
use Rattle.code_conventions.specs.pisa_isa.declared.image.TheConstants.{MOST_CELLS}

-- one routine more

drop_suc : (xs : List Code) (i : ℕ) (x : Code) → i < length xs → x ≡ get_or xs i x → drop i xs ≡ x ∷ drop (suc i) xs
drop_suc [] i x l e = absurd (omega arith)
drop_suc (y ∷ ys) zero x l e = ap (λ (z : Code). z ∷ ys) (sym e)
drop_suc (y ∷ ys) (suc i) x l e = drop_suc ys i x (omega arith) e

drop_next : (xs : List Code) (i : ℕ) (x : Code) → i < length xs → x ≡ get_or xs i x → drop i xs ≡ x ∷ drop (i + 1) xs
drop_next xs i x l e = let k : suc i ≡ i + 1 = omega arith in drop_suc xs i x l e ∙ ap (λ n. x ∷ drop n xs) k

within_suc : (xs : List Code) (i : ℕ) (x : Code) → i < length xs → x ≡ get_or xs i x
    → AllWithin (length x.cells) x.marks → EachWithin (take i xs) → EachWithin (take (suc i) xs)
within_suc [] i x l e h k = absurd (omega arith)
within_suc (y ∷ ys) zero x l e h k = (subst (λ (z : Code). AllWithin (length z.cells) z.marks) e h, tt)
within_suc (y ∷ ys) (suc i) x l e h k = (k.0, within_suc ys i x (omega arith) e h k.1)

pub within_next : (xs : List Code) (i : ℕ) (x : Code) → i < length xs → x ≡ get_or xs i x
    → AllWithin (length x.cells) x.marks → EachWithin (take i xs) → EachWithin (take (i + 1) xs)
within_next xs i x l e h k = let q : suc i ≡ i + 1 = omega arith in
    subst (λ n. EachWithin (take n xs)) q (within_suc xs i x l e h k)

pub marks_next : (xs : List Code) (i : ℕ) (x : Code) (old new all marks : List Mark) (top next : ℕ) → i < length xs
    → x ≡ get_or xs i x → marks ≡ x.marks
    → new ≡ old ++ shift (top + 3) marks → next ≡ top + (length x.cells + 4)
    → old ++ routine_marks top (drop i xs) ≡ all → new ++ routine_marks next (drop (i + 1) xs) ≡ all
marks_next xs i x old new all marks top next l e m n t a =
    let three : top + 3 ≡ top + 1 + 1 + 1 = omega arith in
    let on : next ≡ top + 1 + 1 + 1 + length x.cells + 1 = omega arith in
    let here : new ≡ old ++ shift (top + 1 + 1 + 1) x.marks = n ∙ ap (λ z. old ++ shift (top + 3) z) m
    ∙ ap (λ k. old ++ shift k x.marks) three in
    ap (λ z. z ++ routine_marks next (drop (i + 1) xs)) here
    ∙ ap (λ k. (old ++ shift (top + 1 + 1 + 1) x.marks) ++ routine_marks k (drop (i + 1) xs)) on
    ∙ append_assoc old (shift (top + 1 + 1 + 1) x.marks) (routine_marks (top + 1 + 1 + 1 + length x.cells + 1)
    (drop (i + 1) xs))
    ∙ ap (λ z. old ++ routine_marks top z) (sym (drop_next xs i x l e))
    ∙ a

pub room_next : (xs : List Code) (i : ℕ) (x : Code) (top next : ℕ) → i < length xs → x ≡ get_or xs i x
    → next ≡ top + (length x.cells + 4)
    → top + routines_size (bodies (drop i xs)) ≤ MOST_CELLS → next + routines_size (bodies (drop (i + 1) xs)) ≤ MOST_CELLS
room_next xs i x top next l e t room =
    let size : routines_size (bodies (drop i xs)) ≡ length x.cells + 4 + routines_size (bodies (drop (i + 1) xs)) =
    ap (λ z. routines_size (bodies z)) (drop_next xs i x l e) in
    omega arith

pub room_here : (xs : List Code) (i : ℕ) (x : Code) (top : ℕ) → i < length xs → x ≡ get_or xs i x
    → top + routines_size (bodies (drop i xs)) ≤ MOST_CELLS → top + 3 + length x.cells ≤ MOST_CELLS
room_here xs i x top l e room =
    let size : routines_size (bodies (drop i xs)) ≡ length x.cells + 4 + routines_size (bodies (drop (i + 1) xs)) =
    ap (λ z. routines_size (bodies z)) (drop_next xs i x l e) in
    omega arith

-- so many marks

pub length-shift : (n : ℕ) (ks : List Mark) → length (shift n ks) ≡ length ks
length-shift n [] = refl
length-shift n (k ∷ ks) = ap suc (length-shift n ks)

routines_counted : (t : ℕ) (bs : List Code) → length (routine_marks t bs) ≡ marks_size bs
routines_counted t [] = refl
routines_counted t (b ∷ bs) =
    omega (
      arith,
      length-append (shift (t + 1 + 1 + 1) b.marks) (routine_marks (t + 1 + 1 + 1 + length b.cells + 1) bs),
      length-shift (t + 1 + 1 + 1) b.marks,
      routines_counted (t + 1 + 1 + 1 + length b.cells + 1) bs,
    )

marks_counted : (main : Code) (bs : List Code) → length (link_marks main bs) ≡ length main.marks + marks_size bs
marks_counted main bs =
    omega (
      arith,
      length-append (shift 1 main.marks) (routine_marks (1 + length main.cells + 1) bs),
      length-shift 1 main.marks,
      routines_counted (1 + length main.cells + 1) bs,
    )

-- they are within the code

routines_within : (t m : ℕ) (bs : List Code) → t + routines_size (bodies bs) ≤ m → EachWithin bs
    → AllWithin m (routine_marks t bs)
routines_within t m [] l h = tt
routines_within t m (b ∷ bs) l h =
    within_append m (shift (t + 1 + 1 + 1) b.marks) (routine_marks (t + 1 + 1 + 1 + length b.cells + 1) bs)
    (moved (t + 1 + 1 + 1) (length b.cells) m b.marks (omega arith) h.0)
    (routines_within (t + 1 + 1 + 1 + length b.cells + 1) m bs (omega arith) h.1)

link_within : (main : Code) (bs : List Code) → AllWithin (length main.cells) main.marks → EachWithin bs
    → AllWithin (link_size main.cells (bodies bs)) (link_marks main bs)
link_within main bs h k =
    let m = link_size main.cells (bodies bs) in
    within_append m (shift 1 main.marks) (routine_marks (1 + length main.cells + 1) bs)
    (moved 1 (length main.cells) m main.marks (omega arith) h)
    (routines_within (1 + length main.cells + 1) m bs (omega arith) k)

each_fits : (n : ℕ) (ks : List Mark) → AllWithin n ks → list_all (mark_fits n) ks ≡ true
each_fits n [] h = refl
each_fits n (k ∷ ks) h =
    and_from (mark_fits n k) (list_all (mark_fits n) ks)
    (and_from (is_within n k) _ (and_from _ _ (le-leb k.first k.end h.0) (le-leb k.end n h.1.0))
    (le-leb k.at LAST_PLACE h.1.1)) (each_fits n ks h.2)

-- the marks fit the image, in whatever order
pub linked_fits : (main : Code) (bs : List Code) (image : Segments) (marks : List Mark) (names : List FieldName)
    → image.code ≡ link_code main.cells (bodies bs)
    → length main.marks + marks_size bs ≤ MOST_MARKS → IsPermutation (link_marks main bs) marks → names ≡ []
    → AllWithin (length main.cells) main.marks → EachWithin bs
    → fits image (notes marks names) ≡ true
linked_fits main bs image marks names code few same none h k =
    let size : length image.code ≡ link_size main.cells (bodies bs) =
    code_length main.cells (bodies bs) image.code code in
    let count : length marks ≡ length (link_marks main bs) = length_permutation (link_marks main bs) marks same in
    let counted = marks_counted main bs in
    let all : list_all (mark_fits (length image.code)) (link_marks main bs) ≡ true =
    each_fits (length image.code) (link_marks main bs) (subst (λ n. AllWithin n (link_marks main bs)) (sym size)
    (link_within main bs h k)) in
    let each : list_all (mark_fits (length image.code)) marks ≡ true =
    list_all-from_AllPass (mark_fits (length image.code)) marks
    (All-permutation (λ m. mark_fits (length image.code) m ≡ true) (link_marks main bs) marks same
    (AllPass-from_list_all (mark_fits (length image.code)) (link_marks main bs) all)) in
    let Fit : List FieldName → Type 0 = λ ns. fits image (notes marks ns) ≡ true in
    subst Fit (sym none) (fits_by image (notes marks []) (record {
      few_marks = le-leb (length marks) MOST_MARKS (omega arith);
      each_mark = each;
      few_names = refl;
      names = refl;
    }))
