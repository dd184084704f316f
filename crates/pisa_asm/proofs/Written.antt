-- The image that is read from lines, with its notes, is the one that they write.
use Rattle.std.proofs.Common.{◌≡◌, ◌∙◌, ap, sym, subst, refl, ℕ, ◌+◌, ◌^◌, ◌<◌, ◌≤◌, Bool, true, false, cond, arith}
use Rattle.std.proofs.Common.{List, [], ◌∷◌, ◌++◌, length, Option, Some, None, Result, Ok, Err, length-append}
use Rattle.std.specs.Prelude.{nat_lt, nat_eq, count_by}
use Rattle.std.specs.List.{All, list_all}
use Rattle.std.specs.Str.{bytes_eq}
use Rattle.std.proofs.lemmas.Bool.Decides.{nat_tests}
use Rattle.std.proofs.lemmas.Slice.Eq.{bytes_eq-Decides}
use Rattle.std.proofs.lemmas.List.Folds.{list_all-append}
use Rattle.std.proofs.lemmas.List.Sums.{list_all-from_AllPass}
use mathlib.Core.List.{append_assoc, append-nil}
use Rattle.pisa_isa.specs.declared.cell.Op.{Op}
use Rattle.pisa_isa.specs.declared.cell.Cell.{Cell}
use Rattle.pisa_isa.specs.declared.notes.Mark.{Mark}
use Rattle.pisa_isa.specs.declared.notes.FieldName.{FieldName}
use Rattle.pisa_isa.specs.Notes.{NoteLists, NotedImage, no_notes, fits}
use Rattle.pisa_isa.specs.declared.image.TheConstants.{MOST_CELLS, MOST_STATICS}
use Rattle.pisa_isa.specs.Table.{IsCell, is_one_to_one}
use Rattle.pisa_isa.specs.Image.{Segments, IsImage, is_start, is_finish}
use Rattle.pisa_asm.specs.declared.error.AsmError.{AsmError}
use Rattle.pisa_asm.specs.declared.error.AsmError.TheVariants.{UnknownMnemonic, NotOneToOne, NoStart, NoFinish}
use Rattle.pisa_asm.specs.declared.error.AsmError.TheVariants.{TooManyCells}
use Rattle.pisa_asm.specs.declared.operand.Given.{Given}
use Rattle.pisa_asm.specs.declared.item.Item.{Item}
use Rattle.pisa_asm.specs.declared.item.Item.TheVariants.{Nothing, Code, Static, Marked, Named}
use Rattle.pisa_asm.specs.Chain.{and_then, or_bad}
use Rattle.pisa_asm.specs.Lines.{content_of, line_words}
use Rattle.pisa_asm.specs.Numerals.{word_number}
use Rattle.pisa_asm.specs.LabelNames.{label_names, after_labels, Labels}
use Rattle.pisa_asm.specs.Mnemonics.{mnemonic, rows, row_named, static_mnemonic, mark_word, name_word}
use Rattle.pisa_asm.specs.Operands.{sole, given_from}
use Rattle.pisa_asm.specs.Items.{static_from, mark_from, name_from, item_by, item_from}
use Rattle.pisa_asm.specs.Passes.{Surveyed, no_lines, labels_at, counted_item, surveyed_words, surveyed, resolved_cell}
use Rattle.pisa_asm.specs.Passes.{with_cell}
use Rattle.pisa_asm.specs.Passes.{linked_item, linked_cells, sealed_image, with_mark, with_field_name, if_fits}
use Rattle.pisa_asm.specs.Passes.{noted_item, noted_lines}
use Rattle.pisa_asm.specs.Passes.{noted_of_lines}
use Rattle.pisa_asm.specs.AssemblyText.{one_mark, one_name, joined_notes, ItemText, nothing, instruction, static}
use Rattle.pisa_asm.specs.AssemblyText.{marked}
use Rattle.pisa_asm.specs.AssemblyText.{named, LinesText, finish, one_line, AreNew, AssemblyText}
use Rattle.pisa_asm.proofs.Chaining.{ok_then, some_then}
use Rattle.pisa_asm.proofs.Ranging.{CellFits, given_fits, resolved_fits}
use Rattle.pisa_asm.proofs.Spelling.{both}
use Rattle.pisa_asm.proofs.Gathering.{Fit, gathered}
use Rattle.pisa_asm.proofs.Rereading.{row_read, static_no_row, mark_no_row, name_no_row}
use Rattle.pisa_asm.proofs.Texts.{number_sound, number_complete, row_sound}
use Rattle.pisa_asm.proofs.Operating.{sole_one, InstructionRead, instruction_sound, instruction_complete}
use Rattle.pisa_asm.proofs.Noting.{mark_sound, mark_complete, name_sound, name_complete, joined-nil, joined_assoc}
use Rattle.pisa_asm.proofs.Noting.{marks_joined, names_joined, same_fits, fits_front, passed, let_pass}
use Rattle.pisa_asm.proofs.Labeling.{Split, split_sound, NoLabels, item_no_labels, after_complete, names_complete}
use Rattle.pisa_asm.proofs.Labeling.{placed, Placed, labels_sound, labels_complete, new-append, new_front, new_behind}
use Rattle.pisa_isa.proofs.Noting.{noted as noted_image}

-- what follows the labels, as it is read and as it is written

record ItemSaid (labels : Labels) (words : List (List ℕ)) (survey longer : Surveyed) (code more : List Cell)
    (before behind : NoteLists) : Type 0 where
  cells : List Cell
  statics : List ℕ
  notes : NoteLists
  text : ItemText labels (length code) words cells statics notes
  code_is : more ≡ code ++ cells
  count_is : longer.cells ≡ survey.cells + length cells
  statics_are : longer.statics ≡ survey.statics ++ statics
  labels_are : longer.labels ≡ survey.labels
  notes_are : behind ≡ joined_notes before notes

-- what follows the labels, by what it is read as
abbrev IsItem : Labels → ℕ → List (List ℕ) → Item → Type 0
IsItem labels at words Nothing = words ≡ []
IsItem labels at words (Code given) = (cell : Cell) → resolved_cell labels at given ≡ Some cell
    → ItemText labels at words (cell ∷ []) [] no_notes
IsItem labels at words (Static n) = ItemText labels at words [] (n ∷ []) no_notes
IsItem labels at words (Marked m) = ItemText labels at words [] [] (one_mark m)
IsItem labels at words (Named n) = ItemText labels at words [] [] (one_name n)

item_is : (labels : Labels) (at line : ℕ) (words : List (List ℕ)) (item : Item) → item_from line words ≡ Ok item
    → IsItem labels at words item
item_is labels at line [] item h = let same : item ≡ Nothing = cc in rw same refl
item_is labels at line (first ∷ words) item h = by_row (row_named first) refl h
  where
    by_number : (o : Option ℕ) → static_from words ≡ o → and_then (or_bad line o) (λ word. Ok (Static word)) ≡ Ok item
        → first ≡ static_mnemonic → IsItem labels at (first ∷ words) item
    by_number None e h f = absurd (cc)
    by_number (Some n) e h f =
        let same : item ≡ Static n = cc in
        let s = some_then word_number (sole words) n e in
        rw same (static s.0 n (ap (λ w. w ∷ words) f ∙ ap (λ ws. static_mnemonic ∷ ws) (sole_one words s.0 s.1))
        (number_sound (2 ^ 31) (2 ^ 32) s.0 n s.2) refl refl refl)

    by_mark : (o : Option Mark) → mark_from words ≡ o → and_then (or_bad line o) (λ mark. Ok (Marked mark)) ≡ Ok item
        → first ≡ mark_word → IsItem labels at (first ∷ words) item
    by_mark None e h f = absurd (cc)
    by_mark (Some m) e h f =
        let same : item ≡ Marked m = cc in
        rw (same, f) (marked m (mark_sound words m e) refl refl refl)

    by_name : (o : Option FieldName) → name_from words ≡ o
        → and_then (or_bad line o) (λ name. Ok (Named name)) ≡ Ok item → first ≡ name_word
        → IsItem labels at (first ∷ words) item
    by_name None e h f = absurd (cc)
    by_name (Some n) e h f =
        let same : item ≡ Named n = cc in
        rw (same, f) (named n (name_sound words n e) refl refl refl)

    by_word : (s m n : Bool) → bytes_eq first static_mnemonic ≡ s → bytes_eq first mark_word ≡ m
        → bytes_eq first name_word ≡ n
        → cond s (and_then (or_bad line (static_from words)) (λ word. Ok (Static word)))
        (cond m (and_then (or_bad line (mark_from words)) (λ mark. Ok (Marked mark)))
        (cond n (and_then (or_bad line (name_from words)) (λ name. Ok (Named name))) (Err (UnknownMnemonic line))))
        ≡ Ok item
        → IsItem labels at (first ∷ words) item
    by_word true m n e f g h = by_number (static_from words) refl h ((bytes_eq-Decides first static_mnemonic).0 e)
    by_word false true n e f g h = by_mark (mark_from words) refl h ((bytes_eq-Decides first mark_word).0 f)
    by_word false false true e f g h = by_name (name_from words) refl h ((bytes_eq-Decides first name_word).0 g)
    by_word false false false e f g h = absurd (cc)

    by_given : (op : Op) (o : Option Given) → given_from op words ≡ o
        → and_then (or_bad line o) (λ given. Ok (Code given)) ≡ Ok item → first ≡ mnemonic op
        → IsItem labels at (first ∷ words) item
    by_given op None e h f = absurd (cc)
    by_given op (Some given) e h f =
        let same : item ≡ Code given = cc in
        rw (same, f) (λ cell r. instruction cell (instruction_sound labels at op words given cell e r) refl refl refl)

    by_row : (o : Option Op) → row_named first ≡ o → item_by line first words o ≡ Ok item
        → IsItem labels at (first ∷ words) item
    by_row (Some op) e h = by_given op (given_from op words) refl h (row_sound rows first op e)
    by_row None e h = by_word (bytes_eq first static_mnemonic) (bytes_eq first mark_word) (bytes_eq first name_word)
        refl
        refl refl h

-- a line without code and static words
note_said : (labels : Labels) (words : List (List ℕ)) (survey longer : Surveyed) (code more : List Cell)
    (before behind notes : NoteLists)
    → ItemText labels (length code) words [] [] notes → survey ≡ longer → code ≡ more
    → behind ≡ joined_notes before notes
    → ItemSaid labels words survey longer code more before behind
note_said labels words survey longer code more before behind notes t same same_code n =
    rw (← same, ← same_code) (record {
      cells = [];
      statics = [];
      notes = notes;
      text = t;
      code_is = sym (append-nil code);
      count_is = omega arith;
      statics_are = sym (append-nil survey.statics);
      labels_are = refl;
      notes_are = n;
    })

no_note : (before behind : NoteLists) → before ≡ behind → behind ≡ joined_notes before no_notes
no_note before behind same = sym same ∙ sym (joined-nil before)

item_said : (line : ℕ) (labels : Labels) (words : List (List ℕ)) (image : Segments) (survey longer : Surveyed)
    (code more : List Cell) (before behind : NoteLists) (item : Item)
    → IsItem labels (length code) words item → counted_item line survey item ≡ Ok longer
    → linked_item line labels code item ≡ Ok more → noted_item line image before item ≡ Ok behind
    → ItemSaid labels words survey longer code more before behind
item_said line labels words image survey longer code more before behind Nothing i h g n =
    note_said labels words survey longer code more before behind no_notes (nothing i refl refl refl) (cc) (cc)
    (no_note before behind (cc))
item_said line labels words image survey longer code more before behind (Marked m) i h g n =
    let p = passed line image (with_mark before m) behind n in
    note_said labels words survey longer code more before behind (one_mark m) i (cc) (cc)
    (sym p.0 ∙ marks_joined before (m ∷ []))
item_said line labels words image survey longer code more before behind (Named field) i h g n =
    let p = passed line image (with_field_name before field) behind n in
    note_said labels words survey longer code more before behind (one_name field) i (cc) (cc)
    (sym p.0 ∙ names_joined before (field ∷ []))
item_said line labels words image survey longer code more before behind (Code given) i h g n =
    by_tests (is_one_to_one given.cell) (nat_lt survey.cells MOST_CELLS) (resolved_cell labels (length code) given) refl
    h g
  where
    by_tests : (o t : Bool) (r : Option Cell) → resolved_cell labels (length code) given ≡ r
        → cond o (cond t (Ok (record survey { cells = survey.cells + 1 })) (Err (TooManyCells line)))
        (Err (NotOneToOne line)) ≡ Ok longer
        → with_cell line code r ≡ Ok more → ItemSaid labels words survey longer code more before behind
    by_tests false t r e h g = absurd (cc)
    by_tests true false r e h g = absurd (cc)
    by_tests true true None e h g = absurd (cc)
    by_tests true true (Some cell) e h g =
        let same : record survey { cells = survey.cells + 1 } ≡ longer = cc in
        let same_code : code ++ cell ∷ [] ≡ more = cc in
        rw (← same, ← same_code) (record {
          cells = cell ∷ [];
          statics = [];
          notes = no_notes;
          text = i cell e;
          code_is = refl;
          count_is = refl;
          statics_are = sym (append-nil survey.statics);
          labels_are = refl;
          notes_are = no_note before behind (cc);
        })
item_said line labels words image survey longer code more before behind (Static word) i h g n =
    by_test (nat_lt (length survey.statics) MOST_STATICS) h
  where
    by_test : (t : Bool) → cond t (Ok (record survey { statics = survey.statics ++ word ∷ [] }))
        (Err (TooManyCells line)) ≡ Ok longer → ItemSaid labels words survey longer code more before behind
    by_test false h = absurd (cc)
    by_test true h =
        let same : record survey { statics = survey.statics ++ word ∷ [] } ≡ longer = cc in
        let same_code : code ≡ more = cc in
        rw (← same, ← same_code) (record {
          cells = [];
          statics = word ∷ [];
          notes = no_notes;
          text = i;
          code_is = sym (append-nil code);
          count_is = omega arith;
          statics_are = refl;
          labels_are = refl;
          notes_are = no_note before behind (cc);
        })

record LinesSaid (labels : Labels) (survey end : Surveyed) (code whole : List Cell) (before behind : NoteLists)
    (lines : List (List ℕ)) : Type 0 where
  written : Labels
  more : List Cell
  statics : List ℕ
  notes : NoteLists
  text : LinesText labels (length code) lines written more statics notes
  are_new : AreNew survey.labels written
  labels_are : end.labels ≡ survey.labels ++ written
  code_is : whole ≡ code ++ more
  statics_are : end.statics ≡ survey.statics ++ statics
  notes_are : behind ≡ joined_notes before notes

lines_said : (number : ℕ) (labels : Labels) (image : Segments) (survey end : Surveyed) (code whole : List Cell)
    (before behind : NoteLists) (lines : List (List ℕ))
    → survey.cells ≡ length code → surveyed number survey lines ≡ Ok end
    → linked_cells number labels code lines ≡ Ok whole
    → noted_lines number image before lines ≡ Ok behind
    → LinesSaid labels survey end code whole before behind lines
lines_said number labels image survey end code whole before behind [] count h g o =
    let same : survey ≡ end = cc in
    let same_code : code ≡ whole = cc in
    rw (← same, ← same_code) (record {
      written = [];
      more = [];
      statics = [];
      notes = no_notes;
      text = finish (length code);
      are_new = tt;
      labels_are = sym (append-nil survey.labels);
      code_is = sym (append-nil code);
      statics_are = sym (append-nil survey.statics);
      notes_are = no_note before behind (cc);
    })
lines_said number labels image survey end code whole before behind (line ∷ lines) count h g o =
    let words : List (List ℕ) = line_words (content_of line) in
    let names : List (List ℕ) = label_names words in
    let s = ok_then (surveyed_words number survey words) (λ longer. surveyed (number + 1) longer lines) end h in
    let i = ok_then (item_from number (after_labels words))
    (λ item. and_then (labels_at number survey.cells survey.labels (label_names words)) (λ labels.
    counted_item number (record survey { labels = labels }) item)) s.0 s.1 in
    let l = ok_then (labels_at number survey.cells survey.labels (label_names words))
    (λ labels. counted_item number (record survey { labels = labels }) i.0) s.0 i.2 in
    let j = ok_then (item_from number (after_labels words))
    (λ item. and_then (linked_item number labels code item) (λ longer. linked_cells (number + 1) labels longer lines))
    whole g in
    let m = ok_then (linked_item number labels code j.0) (λ longer. linked_cells (number + 1) labels longer lines) whole
    j.2
    in
    let k = ok_then (item_from number (after_labels words))
    (λ item. and_then (noted_item number image before item) (λ longer. noted_lines (number + 1) image longer lines))
    behind o in
    let t = ok_then (noted_item number image before k.0) (λ longer. noted_lines (number + 1) image longer lines) behind
    k.2 in
    let one : j.0 ≡ i.0 = cc (i.1, j.1) in
    let same : k.0 ≡ i.0 = cc (i.1, k.1) in
    let P : Item → Type 0 = λ item. linked_item number labels code item ≡ Ok m.0 in
    let Q : Item → Type 0 = λ item. noted_item number image before item ≡ Ok t.0 in
    let item : ItemSaid labels (after_labels words) (record survey { labels = l.0 }) s.0 code m.0 before t.0 =
    item_said number labels (after_labels words) image (record survey { labels = l.0 }) s.0 code m.0 before t.0 i.0
    (item_is labels (length code) number (after_labels words) i.0 i.1)
    l.2 (subst P one m.1) (subst Q same t.1) in
    let p : Placed survey.cells survey.labels names l.0 =
    labels_sound number survey.cells survey.labels names l.0 l.1 in
    let length_is : length m.0 ≡ length code + length item.cells = ap length item.code_is
    ∙ length-append code item.cells in
    let counted_on : s.0.cells ≡ length m.0 = item.count_is ∙ ap (λ n. n + length item.cells) count ∙ sym length_is in
    let rest : LinesSaid labels s.0 end m.0 whole t.0 behind lines =
    lines_said (number + 1) labels image s.0 end m.0 whole t.0 behind lines counted_on s.2 m.2 t.2 in
    let split : Split words = split_sound words in
    let known : s.0.labels ≡ survey.labels ++ placed (length code) names = item.labels_are ∙ p.all
    ∙ ap (λ at. survey.labels ++ placed at names) count in
    let New : Labels → Type 0 = λ b. AreNew b rest.written in
    let Here : ℕ → Type 0 = λ at. AreNew survey.labels (placed at names) in
    let Rest : ℕ → Type 0 = λ at. LinesText labels at lines rest.written rest.more rest.statics rest.notes in
    record {
      written = placed (length code) names ++ rest.written;
      more = item.cells ++ rest.more;
      statics = item.statics ++ rest.statics;
      notes = joined_notes item.notes rest.notes;
      text = one_line (length code) line lines names (after_labels words) rest.written item.cells rest.more item.statics
          rest.statics item.notes rest.notes
          (record { are_names = split.are_names; written = split.written }) item.text (subst Rest length_is rest.text);
      are_new = new-append survey.labels (placed (length code) names) rest.written (subst Here count p.are_new)
          (subst New known rest.are_new);
      labels_are = rest.labels_are ∙ ap (λ b. b ++ rest.written) known
          ∙ append_assoc survey.labels (placed (length code) names) rest.written;
      code_is = rest.code_is ∙ ap (λ c. c ++ rest.more) item.code_is ∙ append_assoc code item.cells rest.more;
      statics_are = rest.statics_are ∙ ap (λ w. w ++ rest.statics) item.statics_are
          ∙ append_assoc survey.statics item.statics rest.statics;
      notes_are = rest.notes_are ∙ ap (λ b. joined_notes b rest.notes) item.notes_are
          ∙ joined_assoc before item.notes rest.notes;
    }

-- one START and one FINISH
record SealedAs (code : List Cell) (statics : List ℕ) (image : Segments) : Type 0 where
  one_start : count_by is_start code ≡ 1
  one_finish : count_by is_finish code ≡ 1
  same : image ≡ record { code = code; statics = statics }

sealed_as : (code : List Cell) (statics : List ℕ) (image : Segments) → sealed_image code statics ≡ Ok image
    → SealedAs code statics image
sealed_as code statics image h = by_tests (nat_eq (count_by is_start code) 1) (nat_eq (count_by is_finish code) 1) refl
    refl h
  where
    is_one : (n : ℕ) → nat_eq n 1 ≡ true → n ≡ 1
    is_one n e = grind (arith, nat_tests)

    by_tests : (s f : Bool) → nat_eq (count_by is_start code) 1 ≡ s → nat_eq (count_by is_finish code) 1 ≡ f
        → cond s (cond f (Ok (record { code = code; statics = statics })) (Err NoFinish)) (Err NoStart) ≡ Ok image
        → SealedAs code statics image
    by_tests true true e g h = record {
      one_start = is_one (count_by is_start code) e;
      one_finish = is_one (count_by is_finish code) g;
      same = cc;
    }
    by_tests true false e g h = absurd (cc)
    by_tests false f e g h = absurd (cc)

moved : (labels : Labels) (at : ℕ) (lines : List (List ℕ)) (w w' : Labels) (c c' : List Cell) (s s' : List ℕ)
    (n n' : NoteLists) → w ≡ w' → c ≡ c' → s ≡ s' → n ≡ n'
    → LinesText labels at lines w c s n → LinesText labels at lines w' c' s' n'
moved labels at lines w w' c c' s s' n n' ew ec es en t =
    let W : Labels → Type 0 = λ x. LinesText labels at lines x c s n in
    let C : List Cell → Type 0 = λ x. LinesText labels at lines w' x s n in
    let S : List ℕ → Type 0 = λ x. LinesText labels at lines w' c' x n in
    let N : NoteLists → Type 0 = λ x. LinesText labels at lines w' c' s' x in
    subst N en (subst S es (subst C ec (subst W ew t)))

-- notes that were read fit

item_fits_on : (line : ℕ) (image : Segments) (before behind : NoteLists) (item : Item) → fits image before ≡ true
    → noted_item line image before item ≡ Ok behind
    → fits image behind ≡ true
item_fits_on line image before behind Nothing f h = same_fits image before behind (cc) f
item_fits_on line image before behind (Code given) f h = same_fits image before behind (cc) f
item_fits_on line image before behind (Static word) f h = same_fits image before behind (cc) f
item_fits_on line image before behind (Marked m) f h = (passed line image (with_mark before m) behind h).1
item_fits_on line image before behind (Named n) f h = (passed line image (with_field_name before n) behind h).1

noted_fits : (number : ℕ) (image : Segments) (before behind : NoteLists) (lines : List (List ℕ))
    → fits image before ≡ true → noted_lines number image before lines ≡ Ok behind
    → fits image behind ≡ true
noted_fits number image before behind [] f h = same_fits image before behind (cc) f
noted_fits number image before behind (line ∷ lines) f h =
    let k = ok_then (item_from number (after_labels (line_words (content_of line))))
    (λ item. and_then (noted_item number image before item) (λ longer. noted_lines (number + 1) image longer lines))
    behind h in
    let t = ok_then (noted_item number image before k.0) (λ longer. noted_lines (number + 1) image longer lines) behind
    k.2 in
    noted_fits (number + 1) image t.0 behind lines (item_fits_on number image before t.0 k.0 f t.1) t.2

abbrev with_notes : List (List ℕ) → Segments → Result NotedImage AsmError
with_notes lines image = and_then (noted_lines 1 image no_notes lines) (λ notes. Ok (noted_image image notes))

image_is_written : (lines : List (List ℕ)) (survey : Surveyed) (code : List Cell) (image : Segments) (notes : NoteLists)
    → surveyed 1 no_lines lines ≡ Ok survey → linked_cells 1 survey.labels [] lines ≡ Ok code
    → sealed_image code survey.statics ≡ Ok image → noted_lines 1 image no_notes lines ≡ Ok notes
    → AssemblyText lines (noted_image image notes)
image_is_written lines survey code image notes h g e o =
    let parts : SealedAs code survey.statics image = sealed_as code survey.statics image e in
    let said : LinesSaid survey.labels no_lines survey [] code no_notes notes lines =
    lines_said 1 survey.labels image no_lines survey [] code no_notes notes lines refl h g o in
    let fit : Fit survey code = gathered lines survey code h g in
    let New : Labels → Type 0 = λ l. AreNew [] l in
    let code_is : code ≡ image.code = sym (ap (λ (i : Segments). i.code) parts.same) in
    let statics_are : survey.statics ≡ image.statics = sym (ap (λ (i : Segments). i.statics) parts.same) in
    let is_image : IsImage (record { code = code; statics = survey.statics }) = record {
      is_code = record { in_limit = fit.few_cells; cells = fit.cells };
      one_start = parts.one_start;
      one_finish = parts.one_finish;
      statics_in_limit = fit.few_statics;
    } in
    record {
      labels = survey.labels;
      are_new = subst New (sym said.labels_are) said.are_new;
      written = moved survey.labels 0 lines said.written survey.labels said.more image.code said.statics image.statics
          said.notes notes
          (sym said.labels_are) (sym said.code_is ∙ code_is) (sym said.statics_are ∙ statics_are) (sym said.notes_are)
          said.text;
      is_image = subst IsImage (sym parts.same) is_image;
      is_fit = noted_fits 1 image no_notes notes lines refl o;
    }

pub read_is_written : (lines : List (List ℕ)) (n : NotedImage) → noted_of_lines lines ≡ Ok n → AssemblyText lines n
read_is_written lines n h =
    let s = ok_then (surveyed 1 no_lines lines) (λ survey. and_then (linked_cells 1 survey.labels [] lines)
    (λ code. and_then (sealed_image code survey.statics) (with_notes lines))) n h in
    let c = ok_then (linked_cells 1 s.0.labels [] lines) (λ code. and_then (sealed_image code s.0.statics)
    (with_notes lines)) n s.2
    in
    let i = ok_then (sealed_image c.0 s.0.statics) (with_notes lines) n c.2 in
    let o = ok_then (noted_lines 1 i.0 no_notes lines) (λ notes. Ok (noted_image i.0 notes)) n i.2 in
    let same : noted_image i.0 o.0 ≡ n = cc (o.2) in
    subst (AssemblyText lines) same (image_is_written lines s.0 c.0 i.0 o.0 s.1 c.1 i.1 o.1)

-- what is written is read

record ItemRead (line : ℕ) (labels : Labels) (words : List (List ℕ)) (image : Segments) (survey : Surveyed)
    (code cells : List Cell) (statics : List ℕ) (before behind : NoteLists) : Type 0 where
  item : Item
  read : item_from line words ≡ Ok item
  links : linked_item line labels code item ≡ Ok (code ++ cells)
  notes : noted_item line image before item ≡ Ok behind
  counts : counted_item line survey item ≡ Ok (record survey {
    cells = survey.cells + length cells;
    statics = survey.statics ++ statics;
  })

is_below : (n end : ℕ) → n < end → nat_lt n end ≡ true
is_below n end h = grind (arith, nat_tests)

abbrev accepted : Surveyed → Result Surveyed AsmError
accepted survey = Ok survey

nothing_more : (survey : Surveyed) → accepted survey ≡ Ok
    (record survey { cells = survey.cells + 0; statics = survey.statics ++ [] })
nothing_more survey = let same : survey.cells + 0 ≡ survey.cells = omega arith in
    rw (same, append-nil survey.statics) refl

one_more_static : (survey : Surveyed) (n : ℕ)
    → accepted (record survey { statics = survey.statics ++ n ∷ [] })
    ≡ Ok (record survey { cells = survey.cells + 0; statics = survey.statics ++ n ∷ [] })
one_more_static survey n = let same : survey.cells + 0 ≡ survey.cells = omega arith in rw same refl

one_more_cell : (survey : Surveyed)
    → accepted (record survey { cells = survey.cells + 1 })
    ≡ Ok (record survey { cells = survey.cells + 1; statics = survey.statics ++ [] })
one_more_cell survey = rw (append-nil survey.statics) refl

cell_read : (line : ℕ) (labels : Labels) (words : List (List ℕ)) (image : Segments) (survey : Surveyed)
    (code : List Cell) (cell : Cell) (before behind : NoteLists)
    → InstructionRead labels (length code) words cell → is_one_to_one cell ≡ true → survey.cells < MOST_CELLS
    → before ≡ behind
    → ItemRead line labels words image survey code (cell ∷ []) [] before behind
cell_read line labels words image survey code cell before behind r one room same =
    let fits : CellFits r.given cell = resolved_fits labels (length code) r.given cell
    (given_fits cell.op r.behind r.given r.read) r.resolves in
    record {
      item = Code r.given;
      read = rw (r.all, row_read cell.op, r.read) refl;
      links = rw r.resolves refl;
      counts = rw (sym fits.same ∙ one, is_below survey.cells MOST_CELLS room) (one_more_cell survey);
      notes = ap Ok same;
    }

-- notes after which no others were joined
none_joined : (before here behind : NoteLists) → here ≡ no_notes → behind ≡ joined_notes before here → before ≡ behind
none_joined before here behind e h = sym (h ∙ ap (λ n. joined_notes before n) e ∙ joined-nil before)

-- notes after which one was joined
mark_joined : (before here behind : NoteLists) (m : Mark) → here ≡ one_mark m → behind ≡ joined_notes before here
    → with_mark before m ≡ behind
mark_joined before here behind m e h = marks_joined before (m ∷ []) ∙ sym (h ∙ ap (λ n. joined_notes before n) e)

name_joined : (before here behind : NoteLists) (n : FieldName) → here ≡ one_name n → behind ≡ joined_notes before here
    → with_field_name before n ≡ behind
name_joined before here behind n e h = names_joined before (n ∷ []) ∙ sym (h ∙ ap (λ x. joined_notes before x) e)

-- a note that fits passes
passes_as : (line : ℕ) (image : Segments) (a b : NoteLists) → a ≡ b → fits image b ≡ true → if_fits line image a ≡ Ok b
passes_as line image a b e f = let_pass line image a (same_fits image b a (sym e) f) ∙ ap Ok e

item_reads : (line : ℕ) (labels : Labels) (words : List (List ℕ)) (image : Segments) (survey : Surveyed)
    (code cells : List Cell) (statics : List ℕ) (before here behind : NoteLists)
    → ItemText labels (length code) words cells statics here → list_all is_one_to_one cells ≡ true
    → survey.cells + length cells ≤ MOST_CELLS
    → length survey.statics + length statics ≤ MOST_STATICS → behind ≡ joined_notes before here
    → fits image behind ≡ true
    → ItemRead line labels words image survey code cells statics before behind
item_reads line labels words image survey code cells statics before here behind (nothing w c s n) one room static_room j
    f = record {
      item = Nothing;
      read = rw w refl;
      links = rw c (ap Ok (sym (append-nil code)));
      counts = rw (c, s) (nothing_more survey);
      notes = ap Ok (none_joined before here behind n j);
    }
item_reads line labels words image survey code cells statics before here behind (marked m t c s n) one room static_room
    j f = record {
      item = Marked m;
      read = rw (t.written, mark_no_row, mark_complete words m t) refl;
      links = rw c (ap Ok (sym (append-nil code)));
      counts = rw (c, s) (nothing_more survey);
      notes = passes_as line image (with_mark before m) behind (mark_joined before here behind m n j) f;
    }
item_reads line labels words image survey code cells statics before here behind (named field t c s n) one room
    static_room j f = record {
      item = Named field;
      read = rw (t.written, name_no_row, name_complete words field t) refl;
      links = rw c (ap Ok (sym (append-nil code)));
      counts = rw (c, s) (nothing_more survey);
      notes = passes_as line image (with_field_name before field) behind (name_joined before here behind field n j) f;
    }
item_reads line labels words image survey code cells statics before here behind (instruction cell i c s n) one room
    static_room j f =
    let Read : List Cell → List ℕ → Type 0 = λ cs ws. ItemRead line labels words image survey code cs ws before behind
    in
    let P : List Cell → Type 0 = λ cs. list_all is_one_to_one cs ≡ true in
    let p = both (is_one_to_one cell) true (subst P c one) in
    let few : length cells ≡ 1 = ap length c in
    let read : Read (cell ∷ []) [] = cell_read line labels words image survey code cell before behind
    (instruction_complete labels (length code) words cell i) p.0 (omega arith)
    (none_joined before here behind n j) in
    let C : List Cell → Type 0 = λ cs. Read cs [] in
    let S : List ℕ → Type 0 = λ ws. Read cells ws in
    subst S (sym s) (subst C (sym c) read)
item_reads line labels words image survey code cells statics before here behind (static word n w t c s o) one room
    static_room j f =
    let few : length statics ≡ 1 = ap length s in
    record {
      item = Static n;
      read = rw (w, static_no_row, number_complete (2 ^ 31) (2 ^ 32) word n t) refl;
      links = rw c (ap Ok (sym (append-nil code)));
      counts = rw (is_below (length survey.statics) MOST_STATICS (omega arith), c, s) (one_more_static survey n);
      notes = ap Ok (none_joined before here behind o j);
    }

record LinesRead (number : ℕ) (labels : Labels) (image : Segments) (survey : Surveyed) (code : List Cell)
    (before : NoteLists) (lines : List (List ℕ)) (written : Labels) (more : List Cell)
    (statics : List ℕ) (behind : NoteLists) : Type 0 where
  first : surveyed number survey lines ≡ Ok (record {
    labels = survey.labels ++ written;
    cells = survey.cells + length more;
    statics = survey.statics ++ statics;
  })
  second : linked_cells number labels code lines ≡ Ok (code ++ more)
  third : noted_lines number image before lines ≡ Ok behind

same_survey : (l l' : Labels) (c c' : ℕ) (s s' : List ℕ) → l ≡ l' → c ≡ c' → s ≡ s'
    → accepted (record { labels = l; cells = c; statics = s }) ≡ Ok (record { labels = l'; cells = c'; statics = s' })
same_survey l l' c c' s s' el ec es =
    ap (λ (x : Labels). Ok (record { labels = x; cells = c; statics = s })) el
    ∙ ap (λ (x : ℕ). Ok (record { labels = l'; cells = x; statics = s })) ec
    ∙ ap (λ (x : List ℕ). Ok (record { labels = l'; cells = c'; statics = x })) es

lines_read : (labels : Labels) (at : ℕ) (lines : List (List ℕ)) (written : Labels) (more : List Cell) (statics : List ℕ)
    (notes : NoteLists)
    → LinesText labels at lines written more statics notes
    → (number : ℕ) (image : Segments) (survey : Surveyed) (code : List Cell) (before behind : NoteLists)
    → at ≡ length code → survey.cells ≡ length code → AreNew survey.labels written
    → list_all is_one_to_one more ≡ true → survey.cells + length more ≤ MOST_CELLS
    → length survey.statics + length statics ≤ MOST_STATICS
    → behind ≡ joined_notes before notes → fits image behind ≡ true
    → LinesRead number labels image survey code before lines written more statics behind
lines_read labels at lines written more statics notes (finish at0) number image survey code before behind at_is count
    new one room static_room j f = record {
      first = same_survey survey.labels (survey.labels ++ []) survey.cells (survey.cells + 0) survey.statics
          (survey.statics ++ [])
          (sym (append-nil survey.labels)) (omega arith) (sym (append-nil survey.statics));
      second = ap Ok (sym (append-nil code));
      third = ap Ok (none_joined before no_notes behind refl j);
    }
lines_read labels at lines written more statics notes (one_line at0 line rest names words after_written cells after here
    after_statics notes_here after_notes labeled item text)
    number image survey code before behind at_is count new one room static_room j f =
    let at_count : at0 ≡ survey.cells = at_is ∙ sym count in
    let no : NoLabels words = item_no_labels labels at0 words cells here notes_here item in
    let words_are : after_labels (line_words (content_of line)) ≡ words =
    rw labeled.written (after_complete names words labeled.are_names no) in
    let names_are : label_names (line_words (content_of line)) ≡ names =
    rw labeled.written (names_complete names words labeled.are_names no) in
    let Item_at : ℕ → Type 0 = λ a. ItemText labels a words cells here notes_here in
    let New_at : ℕ → Type 0 = λ a. AreNew survey.labels (placed a names) in
    let New_behind : ℕ → Type 0 = λ a. AreNew (survey.labels ++ placed a names) after_written in
    let new_here = subst New_at at_count (new_front survey.labels (placed at0 names) after_written new) in
    let new_after = subst New_behind at_count (new_behind survey.labels (placed at0 names) after_written new) in
    let ones = both (list_all is_one_to_one cells) (list_all is_one_to_one after)
    (sym (list_all-append is_one_to_one cells after) ∙ one) in
    let count_all : length (cells ++ after) ≡ length cells + length after = length-append cells after in
    let count_statics : length (here ++ after_statics) ≡ length here + length after_statics =
    length-append here after_statics in
    let labeled_survey : Surveyed = record survey { labels = survey.labels ++ placed survey.cells names } in
    let noted_here : NoteLists = joined_notes before notes_here in
    let all_notes : behind ≡ joined_notes noted_here after_notes = j
    ∙ sym (joined_assoc before notes_here after_notes) in
    let fit_here : fits image noted_here ≡ true = fits_front image noted_here after_notes
    (same_fits image behind (joined_notes noted_here after_notes) all_notes f) in
    let read : ItemRead number labels words image labeled_survey code cells here before noted_here =
    item_reads number labels words image labeled_survey code cells here before notes_here noted_here
    (subst Item_at at_is item) ones.0 (omega arith) (omega arith) refl fit_here in
    let longer : Surveyed = record labeled_survey {
      cells = survey.cells + length cells;
      statics = survey.statics ++ here;
    } in
    let step : surveyed_words number survey (line_words (content_of line)) ≡ Ok longer =
    rw (words_are, names_are, read.read, labels_complete number survey.cells survey.labels names new_here) read.counts
    in
    let length_is : length (code ++ cells) ≡ length code + length cells = length-append code cells in
    let length_statics : length (survey.statics ++ here) ≡ length survey.statics + length here =
    length-append survey.statics here in
    let on : LinesRead (number + 1) labels image longer (code ++ cells) noted_here rest after_written after
    after_statics behind =
    lines_read labels (at0 + length cells) rest after_written after after_statics after_notes text (number + 1) image
    longer (code ++ cells) noted_here behind
    (ap (λ n. n + length cells) at_is ∙ sym length_is) (ap (λ n. n + length cells) count ∙ sym length_is) new_after
    ones.1 (omega arith) (omega arith) all_notes f in
    record {
      first = rw step (on.first ∙ same_survey ((survey.labels ++ placed survey.cells names) ++ after_written)
          (survey.labels ++ (placed at0 names ++ after_written))
          (survey.cells + length cells + length after) (survey.cells + length (cells ++ after))
          ((survey.statics ++ here) ++ after_statics) (survey.statics ++ (here ++ after_statics))
          (append_assoc survey.labels (placed survey.cells names) after_written
          ∙ ap (λ a. survey.labels ++ (placed a names ++ after_written)) (sym at_count))
          (omega arith) (append_assoc survey.statics here after_statics));
      second = rw (words_are, read.read, read.links) (on.second ∙ ap Ok (append_assoc code cells after));
      third = rw (words_are, read.read, read.notes) on.third;
    }

all_one_to_one : (code : List Cell) → All IsCell code → list_all is_one_to_one code ≡ true
all_one_to_one code cells = list_all-from_AllPass is_one_to_one code (λ k d h. (cells k d h).one_to_one)

pub written_is_read : (lines : List (List ℕ)) (n : NotedImage) → AssemblyText lines n → noted_of_lines lines ≡ Ok n
written_is_read lines n t =
    let i = t.is_image in
    let code_few = i.is_code.in_limit in
    let statics_few = i.statics_in_limit in
    let read : LinesRead 1 t.labels n.image no_lines [] no_notes lines t.labels n.image.code n.image.statics n.notes =
    lines_read t.labels 0 lines t.labels n.image.code n.image.statics n.notes t.written 1 n.image no_lines [] no_notes
    n.notes refl refl t.are_new
    (all_one_to_one n.image.code i.is_code.cells) (omega arith) (omega arith) refl t.is_fit in
    let third : noted_lines 1 (record { code = n.image.code; statics = n.image.statics }) no_notes lines ≡ Ok n.notes =
    read.third in
    rw (read.first, read.second, i.one_start, i.one_finish, third) refl
