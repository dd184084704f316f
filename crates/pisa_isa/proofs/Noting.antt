-- The notes of the inverse image fit it, and inverting them again gives the same notes.
use Rattle.std.proofs.Common.{◌≡◌, ◌∙◌, ap, subst, refl, sym, ℕ, ◌-◌, ◌≤◌, Bool, true, false, arith, List, [], ◌∷◌}
use Rattle.std.proofs.Common.{length, map}
use Rattle.std.specs.Prelude.{nat_le, ◌&&◌}
use Rattle.std.specs.List.{list_all}
use Rattle.std.proofs.lemmas.Bool.{and_parts, and_from}
use Rattle.std.proofs.lemmas.Bool.Decides.{nat_tests}
use Rattle.std.proofs.lemmas.List.{length-map}
use Rattle.pisa_isa.specs.declared.notes.TheConstants.{MOST_MARKS, LAST_PLACE, MOST_NAMES, MOST_NAME_BYTES}
use Rattle.pisa_isa.specs.declared.notes.Mark.{Mark}
use Rattle.pisa_isa.specs.Table.{inverse_of}
use Rattle.pisa_isa.specs.Image.{Segments, IsImage}
use Rattle.pisa_isa.specs.Flipped.{flipped, flipped_image}
use Rattle.pisa_isa.specs.Notes.{NoteLists, NotedImage, is_within, mark_fits, marks_fit, names_fit, fits, turned_mark}
use Rattle.pisa_isa.specs.Notes.{turned_notes, flipped_noted}
use Rattle.pisa_isa.proofs.Flips.{length-flipped, flipped-flipped}
use Rattle.pisa_isa.specs.declared.notes.FieldName.{FieldName}

record Within (cells : ℕ) (m : Mark) : Type 0 where
  ordered : m.first ≤ m.end
  in_code : m.end ≤ cells

is_within_means : (cells : ℕ) (m : Mark) → is_within cells m ≡ true → Within cells m
is_within_means cells m e =
    let p = and_parts (nat_le m.first m.end) (nat_le m.end cells) e in
    record { ordered = grind (arith, nat_tests); in_code = grind (arith, nat_tests) }

from_within : (cells : ℕ) (m : Mark) → Within cells m → is_within cells m ≡ true
from_within cells m w = and_from (nat_le m.first m.end) (nat_le m.end cells) (grind (arith, nat_tests, w.ordered))
    (grind (arith, nat_tests, w.in_code))

mark_turned : (cells : ℕ) (m : Mark) → mark_fits cells m ≡ true → mark_fits cells (turned_mark cells m) ≡ true
mark_turned cells m e =
    let p = and_parts (is_within cells m) (nat_le m.at LAST_PLACE) e in
    let w = is_within_means cells m p.0 in
    let ordered : cells - m.end ≤ cells - m.first = let a = w.ordered in let b = w.in_code in omega arith in
    let in_code : cells - m.first ≤ cells = omega arith in
    and_from _ _ (from_within cells (turned_mark cells m) (record { ordered = ordered; in_code = in_code })) p.1

marks_turned : (cells : ℕ) (marks : List Mark) → list_all (mark_fits cells) marks ≡ true
    → list_all (mark_fits cells) (map (turned_mark cells) marks) ≡ true
marks_turned cells [] e = refl
marks_turned cells (m ∷ marks) e =
    let p = and_parts (mark_fits cells m) (list_all (mark_fits cells) marks) e in
    and_from (mark_fits cells (turned_mark cells m)) _ (mark_turned cells m p.0) (marks_turned cells marks p.1)

-- the parts of notes that fit
pub record Fitting (image : Segments) (notes : NoteLists) : Type 0 where
  pub few_marks : nat_le (length notes.marks) MOST_MARKS ≡ true
  pub each_mark : list_all (mark_fits (length image.code)) notes.marks ≡ true
  pub few_names : nat_le (length notes.names) MOST_NAMES ≡ true
  pub names : names_fit (length image.statics) MOST_NAME_BYTES notes.names ≡ true

pub fitting : (image : Segments) (notes : NoteLists) → fits image notes ≡ true → Fitting image notes
fitting image notes e =
    let a = and_parts (marks_fit (length image.code) notes.marks && nat_le (length notes.names) MOST_NAMES)
    (names_fit (length image.statics) MOST_NAME_BYTES notes.names) e in
    let b = and_parts (marks_fit (length image.code) notes.marks) (nat_le (length notes.names) MOST_NAMES) a.0 in
    let c = and_parts (nat_le (length notes.marks) MOST_MARKS) (list_all (mark_fits (length image.code)) notes.marks)
    b.0 in
    record { few_marks = c.0; each_mark = c.1; few_names = b.1; names = a.1 }

pub fits_by : (image : Segments) (notes : NoteLists) → Fitting image notes → fits image notes ≡ true
fits_by image notes f =
    and_from (marks_fit (length image.code) notes.marks && nat_le (length notes.names) MOST_NAMES) _
    (and_from (marks_fit (length image.code) notes.marks) _ (and_from _ _ f.few_marks f.each_mark) f.few_names) f.names

-- the notes of the inverse image fit it
pub fits-flipped : (n : NotedImage) → fits n.image n.notes ≡ true
    → fits (flipped_image n.image) (turned_notes (length n.image.code) n.notes) ≡ true
fits-flipped n e =
    let f = fitting n.image n.notes e in
    let cells = length n.image.code in
    let marks = marks_turned cells n.notes.marks f.each_mark in
    fits_by (flipped_image n.image) (turned_notes cells n.notes) (record {
      few_marks = ap (λ k. nat_le k MOST_MARKS) (length-map n.notes.marks (turned_mark cells)) ∙ f.few_marks;
      each_mark = subst (λ k. list_all (mark_fits k) (map (turned_mark cells) n.notes.marks) ≡ true)
          (sym (length-flipped n.image.code)) marks;
      few_names = f.few_names;
      names = f.names;
    })

mark_twice : (cells : ℕ) (m : Mark) → mark_fits cells m ≡ true → turned_mark cells (turned_mark cells m) ≡ m
mark_twice cells m e =
    let w = is_within_means cells m (and_parts (is_within cells m) (nat_le m.at LAST_PLACE) e).0 in
    let first : cells - (cells - m.first) ≡ m.first = let a = w.ordered in let b = w.in_code in omega arith in
    let end : cells - (cells - m.end) ≡ m.end = let b = w.in_code in omega arith in
    rw (first, end) refl

marks_twice : (cells : ℕ) (marks : List Mark) → list_all (mark_fits cells) marks ≡ true
    → map (turned_mark cells) (map (turned_mark cells) marks) ≡ marks
marks_twice cells [] e = refl
marks_twice cells (m ∷ marks) e =
    let p = and_parts (mark_fits cells m) (list_all (mark_fits cells) marks) e in
    rw (mark_twice cells m p.0, marks_twice cells marks p.1) refl

pub notes_twice : (n : NotedImage) → fits n.image n.notes ≡ true
    → turned_notes (length n.image.code) (turned_notes (length n.image.code) n.notes) ≡ n.notes
notes_twice n e = rw (marks_twice (length n.image.code) n.notes.marks (fitting n.image n.notes e).each_mark) refl

-- notes put together
abbrev pub notes : List Mark → List FieldName → NoteLists
notes marks names = record { marks = marks; names = names }

-- an image and what is noted of it
abbrev pub noted : Segments → NoteLists → NotedImage
noted image notes = record { image = image; notes = notes }

same_noted : (a b : Segments) (s t : NoteLists) → a ≡ b → s ≡ t → noted a s ≡ noted b t
same_noted a b s t e f = rw (e, f) refl

pub flipped_noted-twice : (n : NotedImage) → IsImage n.image → fits n.image n.notes ≡ true
    → flipped_noted (flipped_noted n) ≡ n
flipped_noted-twice n i e =
    let code : flipped_image (flipped_image n.image) ≡ n.image =
    ap (λ code. record n.image { code = code }) (flipped-flipped n.image.code i.is_code.cells) in
    let cells : length (flipped n.image.code) ≡ length n.image.code = length-flipped n.image.code in
    let notes : turned_notes (length (flipped n.image.code)) (turned_notes (length n.image.code) n.notes) ≡ n.notes =
    ap (λ k. turned_notes k (turned_notes (length n.image.code) n.notes)) cells ∙ notes_twice n e in
    same_noted _ _ _ _ code notes
