-- Notes as they are written and as they are read, and which of them fit an image.
use Rattle.std.proofs.Common.{◌≡◌, ◌∙◌, ap, sym, subst, refl, ℕ, ◌+◌, ◌-◌, ◌≤◌, Bool, true, false, cond, arith, List}
use Rattle.std.proofs.Common.{[], ◌∷◌, ◌++◌, length, Some, Ok, Err, length-append}
use Rattle.std.specs.Prelude.{nat_le}
use Rattle.std.specs.List.{list_all}
use Rattle.std.specs.Option.{option_map, option_and_then}
use Rattle.std.proofs.lemmas.Bool.{and_from}
use Rattle.std.proofs.lemmas.Bool.Decides.{nat_tests}
use Rattle.std.proofs.lemmas.List.Folds.{list_all-append}
use mathlib.Core.List.{append_assoc, append-nil}
use Rattle.pisa_isa.specs.declared.notes.TheConstants.{MOST_MARKS, MOST_NAMES, MOST_NAME_BYTES}
use Rattle.pisa_isa.specs.declared.notes.Mark.{Mark}
use Rattle.pisa_isa.specs.declared.notes.FieldName.{FieldName}
use Rattle.pisa_isa.specs.Image.{Segments}
use Rattle.pisa_isa.specs.Notes.{NoteLists, no_notes, is_name, mark_fits, name_fits, names_fit, fits}
use Rattle.pisa_isa.proofs.Noting.{fitting, fits_by, notes}
use Rattle.pisa_asm.specs.declared.error.AsmError.TheVariants.{BadNote}
use Rattle.pisa_asm.specs.Numerals.{unsigned_number}
use Rattle.pisa_asm.specs.Mnemonics.{mark_word, name_word}
use Rattle.pisa_asm.specs.Operands.{sole}
use Rattle.pisa_asm.specs.Items.{unsigned_from, mark_from, name_of, name_from}
use Rattle.pisa_asm.specs.Passes.{if_fits}
use Rattle.pisa_asm.specs.AssemblyText.{UnsignedText, MarkText, NameText, joined_notes}
use Rattle.pisa_asm.proofs.Chaining.{some_then, some_map, tested}
use Rattle.pisa_asm.proofs.Spelling.{both}
use Rattle.pisa_asm.proofs.Texts.{unsigned_sound, unsigned_complete}
use Rattle.pisa_asm.proofs.Operating.{sole_one}

-- the words of notes

record UnsignedTaken (words : List (List ℕ)) (n : ℕ) (rest : List (List ℕ)) : Type 0 where
  word : List ℕ
  all : words ≡ word ∷ rest
  is_number : UnsignedText word n

unsigned_taken : (words : List (List ℕ)) (p : ℕ × List (List ℕ)) → unsigned_from words ≡ Some p
    → UnsignedTaken words p.0 p.1
unsigned_taken [] p h = absurd (cc)
unsigned_taken (word ∷ words) p h =
    let m = some_map (λ (n : ℕ). (n, words)) (unsigned_number word) p h in
    rw m.2 (record { word = word; all = refl; is_number = unsigned_sound word m.0 m.1 })

pub mark_sound : (words : List (List ℕ)) (m : Mark) → mark_from words ≡ Some m → MarkText (mark_word ∷ words) m
mark_sound words m h =
    let a = some_then (λ (first : ℕ × List (List ℕ)). option_and_then
    (λ (end : ℕ × List (List ℕ)). option_map (λ (at : ℕ). record { first = first.0; end = end.0; at = at })
    (option_and_then unsigned_number (sole end.1))) (unsigned_from first.1)) (unsigned_from words) m h in
    let b = some_then (λ (end : ℕ × List (List ℕ)). option_map
    (λ (at : ℕ). record { first = a.0.0; end = end.0; at = at })
    (option_and_then unsigned_number (sole end.1))) (unsigned_from a.0.1) m a.2 in
    let c = some_map (λ (at : ℕ). record { first = a.0.0; end = b.0.0; at = at })
    (option_and_then unsigned_number (sole b.0.1)) m b.2 in
    let d = some_then unsigned_number (sole b.0.1) c.0 c.1 in
    let first : UnsignedTaken words a.0.0 a.0.1 = unsigned_taken words a.0 a.1 in
    let end : UnsignedTaken a.0.1 b.0.0 b.0.1 = unsigned_taken a.0.1 b.0 b.1 in
    rw c.2 (record {
      first = first.word;
      end = end.word;
      at = d.0;
      written = ap (λ ws. mark_word ∷ ws) (first.all ∙ ap (λ ws. first.word ∷ ws)
          (end.all ∙ ap (λ ws. end.word ∷ ws) (sole_one b.0.1 d.0 d.1)));
      is_first = first.is_number;
      is_end = end.is_number;
      is_at = unsigned_sound d.0 c.0 d.2;
    })

pub mark_complete : (words : List (List ℕ)) (m : Mark) (t : MarkText words m)
    → mark_from (t.first ∷ t.end ∷ t.at ∷ []) ≡ Some m
mark_complete words m t =
    rw (
      unsigned_complete t.first m.first t.is_first,
      unsigned_complete t.end m.end t.is_end,
      unsigned_complete t.at m.at t.is_at,
    ) refl

pub name_sound : (words : List (List ℕ)) (n : FieldName) → name_from words ≡ Some n → NameText (name_word ∷ words) n
name_sound words n h =
    let a = some_then (λ (cell : ℕ × List (List ℕ)). option_and_then (name_of cell.0) (sole cell.1))
    (unsigned_from words) n h in
    let b = some_then (name_of a.0.0) (sole a.0.1) n a.2 in
    let t = tested (is_name b.0) (Some (record { cell = a.0.0; text = b.0 })) n b.2 in
    let cell : UnsignedTaken words a.0.0 a.0.1 = unsigned_taken words a.0 a.1 in
    let same : n ≡ record { cell = a.0.0; text = b.0 } = cc (t.1) in
    rw same (record {
      cell = cell.word;
      written = ap (λ ws. name_word ∷ ws) (cell.all ∙ ap (λ ws. cell.word ∷ ws) (sole_one a.0.1 b.0 b.1));
      is_cell = cell.is_number;
      is_text = t.0;
    })

pub name_complete : (words : List (List ℕ)) (n : FieldName) (t : NameText words n)
    → name_from (t.cell ∷ n.text ∷ []) ≡ Some n
name_complete words n t = rw (unsigned_complete t.cell n.cell t.is_cell, t.is_text) refl

-- notes put together
same_notes : (m m' : List Mark) (n n' : List FieldName) → m ≡ m' → n ≡ n' → notes m n ≡ notes m' n'
same_notes m m' n n' e f = ap (λ ms. notes ms n) e ∙ ap (λ ns. notes m' ns) f

pub joined-nil : (a : NoteLists) → joined_notes a no_notes ≡ a
joined-nil a = same_notes (a.marks ++ []) a.marks (a.names ++ []) a.names (append-nil a.marks) (append-nil a.names)

pub joined_assoc : (a b c : NoteLists) → joined_notes (joined_notes a b) c ≡ joined_notes a (joined_notes b c)
joined_assoc a b c = same_notes ((a.marks ++ b.marks) ++ c.marks) (a.marks ++ (b.marks ++ c.marks))
    ((a.names ++ b.names) ++ c.names) (a.names ++ (b.names ++ c.names))
    (append_assoc a.marks b.marks c.marks) (append_assoc a.names b.names c.names)

pub marks_joined : (a : NoteLists) (marks : List Mark)
    → notes (a.marks ++ marks) a.names ≡ joined_notes a (notes marks [])
marks_joined a marks = same_notes (a.marks ++ marks) (a.marks ++ marks) a.names (a.names ++ []) refl
    (sym (append-nil a.names))

pub names_joined : (a : NoteLists) (names : List FieldName)
    → notes a.marks (a.names ++ names) ≡ joined_notes a (notes [] names)
names_joined a names = same_notes a.marks (a.marks ++ []) (a.names ++ names) (a.names ++ names)
    (sym (append-nil a.marks)) refl

-- notes that fit, and those before them

pub same_fits : (image : Segments) (a b : NoteLists) → a ≡ b → fits image a ≡ true → fits image b ≡ true
same_fits image a b e h = let P : NoteLists → Type 0 = λ n. fits image n ≡ true in subst P e h

le_true : (n m : ℕ) → n ≤ m → nat_le n m ≡ true
le_true n m h = grind (arith, nat_tests)

pub at_most : (n m : ℕ) → nat_le n m ≡ true → n ≤ m
at_most n m h = grind (arith, nat_tests)

few_front : {X : Type 0} (xs ys : List X) (m : ℕ) → nat_le (length (xs ++ ys)) m ≡ true → nat_le (length xs) m ≡ true
few_front xs ys m h =
    let whole = at_most (length (xs ++ ys)) m h in
    let parts : length (xs ++ ys) ≡ length xs + length ys = length-append xs ys in
    le_true (length xs) m (omega arith)

names_front : (statics left : ℕ) (xs ys : List FieldName) → names_fit statics left (xs ++ ys) ≡ true
    → names_fit statics left xs ≡ true
names_front statics left [] ys h = refl
names_front statics left (n ∷ xs) ys h =
    let p = both (name_fits statics left n) (names_fit statics (left - length n.text) (xs ++ ys)) h in
    and_from (name_fits statics left n) _ p.0 (names_front statics (left - length n.text) xs ys p.1)

-- if notes fit, those before them fit
pub fits_front : (image : Segments) (a b : NoteLists) → fits image (joined_notes a b) ≡ true → fits image a ≡ true
fits_front image a b h =
    let f = fitting image (joined_notes a b) h in
    let cells = length image.code in
    fits_by image a (record {
      few_marks = few_front a.marks b.marks MOST_MARKS f.few_marks;
      each_mark = (both (list_all (mark_fits cells) a.marks) (list_all (mark_fits cells) b.marks)
          (sym (list_all-append (mark_fits cells) a.marks b.marks) ∙ f.each_mark)).0;
      few_names = few_front a.names b.names MOST_NAMES f.few_names;
      names = names_front (length image.statics) MOST_NAME_BYTES a.names b.names f.names;
    })

-- notes that passed are these, and fit
pub passed : (line : ℕ) (image : Segments) (a b : NoteLists) → if_fits line image a ≡ Ok b
    → (a ≡ b) × (fits image b ≡ true)
passed line image a b h = by_test (fits image a) refl h
  where
    by_test : (t : Bool) → fits image a ≡ t → cond t (Ok a) (Err (BadNote line)) ≡ Ok b
        → (a ≡ b) × (fits image b ≡ true)
    by_test true e h = let same : a ≡ b = cc in (same, same_fits image a b same e)
    by_test false e h = absurd (cc)

pub let_pass : (line : ℕ) (image : Segments) (a : NoteLists) → fits image a ≡ true → if_fits line image a ≡ Ok a
let_pass line image a h = rw h refl
