-- A listing reads as its image with its notes.
use Rattle.std.proofs.Common.{◌≡◌, ◌∙◌, ap, sym, refl, ℕ, suc, ◌+◌, ◌-◌, ◌<◌, ◌≤◌, ◌^◌, true, false, arith, List, []}
use Rattle.std.proofs.Common.{◌∷◌, ◌++◌, length, get_or, None, Ok, length-append}
use Rattle.std.specs.Prelude.{nat_le, nat_lt, ◌&&◌}
use Rattle.std.specs.List.{All, list_all}
use Rattle.std.proofs.lemmas.Bool.Decides.{nat_tests}
use Rattle.std.proofs.lemmas.List.Elements.{All-cons}
use Rattle.std.proofs.lemmas.List.Sums.{AllPass-from_list_all}
use mathlib.Core.List.{append_assoc, append-nil}
use Rattle.pisa_isa.specs.rpp_words.Words.{IsWord}
use Rattle.pisa_isa.specs.rpp_words.declared.input.TheConstants.{FIXED_CELLS}
use Rattle.pisa_isa.specs.declared.cell.Cell.{Cell}
use Rattle.pisa_isa.specs.declared.image.TheConstants.{MOST_CELLS, MOST_STATICS}
use Rattle.pisa_isa.specs.declared.notes.TheConstants.{LAST_PLACE, MOST_NAME_BYTES}
use Rattle.pisa_isa.specs.declared.notes.Mark.{Mark}
use Rattle.pisa_isa.specs.declared.notes.FieldName.{FieldName}
use Rattle.pisa_isa.specs.Table.{IsInRange, IsCell}
use Rattle.pisa_isa.specs.Image.{Segments, IsImage}
use Rattle.pisa_isa.specs.Notes.{NoteLists, NotedImage, no_notes, is_name, is_within, mark_fits, name_fits, names_fit}
use Rattle.pisa_isa.specs.Notes.{fits}
use Rattle.pisa_isa.proofs.Ranges.{a_below, b_below, c_below, imm_word}
use Rattle.pisa_isa.proofs.Noting.{fitting, notes}
use Rattle.pisa_asm.specs.declared.item.Item.{Item}
use Rattle.pisa_asm.specs.declared.item.Item.TheVariants.{Code, Static, Marked, Named}
use Rattle.pisa_asm.specs.Lines.{lines_of, content_of, line_words}
use Rattle.pisa_asm.specs.Mnemonics.{mnemonic, static_mnemonic, mark_word, name_word}
use Rattle.pisa_asm.specs.LabelNames.{Labels, is_label, label_names, after_labels}
use Rattle.pisa_asm.specs.Items.{item_from}
use Rattle.pisa_asm.specs.Passes.{Surveyed, no_lines, counted_item, surveyed_words, surveyed, linked_item, linked_cells}
use Rattle.pisa_asm.specs.Passes.{noted_item, noted_lines, noted_of_text}
use Rattle.pisa_asm.specs.AssemblyText.{joined_notes}
use Rattle.pisa_asm.specs.Listing.{signed_text, cell_text, static_text, mark_text, name_text, lines_by, listing}
use Rattle.pisa_asm.proofs.Spelling.{is_clean, operand_words, mark_words, name_words, cell_spaced, static_spaced}
use Rattle.pisa_asm.proofs.Spelling.{mark_spaced, name_spaced, mnemonic_word, operands_are_words, static_is_word}
use Rattle.pisa_asm.proofs.Spelling.{mark_is_words, name_is_words, both}
use Rattle.pisa_asm.proofs.Respacing.{IsSpacedLine, spaced_line, line_front}
use Rattle.pisa_asm.proofs.Rereading.{item_read, static_read, mark_read, name_read, no_label}
use Rattle.pisa_asm.proofs.Noting.{same_fits, fits_front, names_joined, marks_joined}

-- a line without labels that reads as an item
record ReadsAs (line : List ℕ) (item : Item) : Type 0 where
  clean : list_all is_clean line ≡ true
  read : (number : ℕ) → item_from number (after_labels (line_words (content_of line))) ≡ Ok item
  no_names : label_names (line_words (content_of line)) ≡ []

reads_as : (line first : List ℕ) (words : List (List ℕ)) (item : Item) → IsSpacedLine line first words
    → is_label first ≡ false
    → ((number : ℕ) → item_from number (first ∷ words) ≡ Ok item) → ReadsAs line item
reads_as line first words item s n r = record {
  clean = s.clean;
  read = λ number. rw (s.reads, n) (r number);
  no_names = rw (s.reads, n) refl;
}

abbrev code_item : Cell → Item
code_item c = Code (record { cell = c; target = None })

cell_reads : (c : Cell) → IsInRange c → ReadsAs (cell_text c) (code_item c)
cell_reads c i =
    let line : IsSpacedLine (cell_text c) (mnemonic c.op) (operand_words c) =
    rw (cell_spaced c) (spaced_line (mnemonic c.op) (operand_words c) (mnemonic_word c.op)
    (operands_are_words c (a_below c i) (b_below c i) (c_below c i) (imm_word c i))) in
    reads_as (cell_text c) (mnemonic c.op) (operand_words c) (code_item c) line (no_label c.op)
    (λ number. item_read number c i)

static_reads : (word : ℕ) → word < 2 ^ 32 → ReadsAs (static_text word) (Static word)
static_reads word h =
    let line : IsSpacedLine (static_text word) static_mnemonic (signed_text word ∷ []) =
    rw (static_spaced word) (spaced_line static_mnemonic (signed_text word ∷ []) refl (static_is_word word h)) in
    reads_as (static_text word) static_mnemonic (signed_text word ∷ []) (Static word) line refl
    (λ number. static_read number word h)

mark_reads : (m : Mark) → m.first < 2 ^ 32 → m.end < 2 ^ 32 → m.at < 2 ^ 32 → ReadsAs (mark_text m) (Marked m)
mark_reads m first end at =
    let line : IsSpacedLine (mark_text m) mark_word (mark_words m) =
    rw (mark_spaced m) (spaced_line mark_word (mark_words m) refl (mark_is_words m first end at)) in
    reads_as (mark_text m) mark_word (mark_words m) (Marked m) line refl (λ number. mark_read number m first end at)

name_reads : (n : FieldName) → n.cell < 2 ^ 32 → is_name n.text ≡ true → ReadsAs (name_text n) (Named n)
name_reads n cell text =
    let line : IsSpacedLine (name_text n) name_word (name_words n) =
    rw (name_spaced n) (spaced_line name_word (name_words n) refl (name_is_words n cell text)) in
    reads_as (name_text n) name_word (name_words n) (Named n) line refl (λ number. name_read number n cell text)

-- the numbers of notes that fit

pub record MarkIn (m : Mark) : Type 0 where
  pub first : m.first < 2 ^ 32
  pub end : m.end < 2 ^ 32
  pub at : m.at < 2 ^ 32

pub mark_in : (cells : ℕ) (m : Mark) → cells ≤ MOST_CELLS → mark_fits cells m ≡ true → MarkIn m
mark_in cells m few h =
    let p = both (is_within cells m) (nat_le m.at LAST_PLACE) h in
    let q = both (nat_le m.first m.end) (nat_le m.end cells) p.0 in
    let ordered : m.first ≤ m.end = grind (arith, nat_tests) in
    let in_code : m.end ≤ cells = grind (arith, nat_tests) in
    let in_source : m.at ≤ LAST_PLACE = grind (arith, nat_tests) in
    record { first = omega arith; end = omega arith; at = omega arith }

pub record NameIn (left : ℕ) (n : FieldName) : Type 0 where
  pub cell : n.cell < 2 ^ 32
  pub short : length n.text ≤ left
  pub text : is_name n.text ≡ true

pub name_in : (statics left : ℕ) (n : FieldName) → statics ≤ MOST_STATICS → name_fits statics left n ≡ true
    → NameIn left n
name_in statics left n few h =
    let p = both (nat_le FIXED_CELLS n.cell && nat_lt (n.cell - FIXED_CELLS) statics && nat_le (length n.text) left)
    (is_name n.text) h in
    let q = both (nat_le FIXED_CELLS n.cell && nat_lt (n.cell - FIXED_CELLS) statics) (nat_le (length n.text) left) p.0
    in
    let r = both (nat_le FIXED_CELLS n.cell) (nat_lt (n.cell - FIXED_CELLS) statics) q.0 in
    let in_statics : n.cell - FIXED_CELLS < statics = grind (arith, nat_tests) in
    record { cell = omega arith; short = grind (arith, nat_tests); text = p.1 }

marks_read : (cells : ℕ) (marks : List Mark) → cells ≤ MOST_CELLS → list_all (mark_fits cells) marks ≡ true
    → All (λ m. ReadsAs (mark_text m) (Marked m)) marks
marks_read cells marks few h = λ k d inside.
    let m = mark_in cells (get_or marks k d) few (AllPass-from_list_all (mark_fits cells) marks h k d inside) in
    mark_reads (get_or marks k d) m.first m.end m.at

names_read : (statics left : ℕ) (names : List FieldName) → statics ≤ MOST_STATICS → names_fit statics left names ≡ true
    → All (λ n. ReadsAs (name_text n) (Named n)) names
names_read statics left [] few h = λ k d inside. absurd (omega arith)
names_read statics left (n ∷ names) few h =
    let p = both (name_fits statics left n) (names_fit statics (left - length n.text) names) h in
    let i = name_in statics left n few p.0 in
    All-cons (λ n. ReadsAs (name_text n) (Named n)) n names (name_reads n i.cell i.text)
    (names_read statics (left - length n.text) names few p.1)

-- lines after one another

-- a number that goes up by one at each line
abbrev after : {X : Type 0} → ℕ → List X → ℕ
after n [] = n
after n (x ∷ xs) = after (n + 1) xs

pub head : {X : Type 0} (P : X → Type 0) (x : X) (xs : List X) → All P (x ∷ xs) → P x
head P x xs all = all 0 x (omega arith)

pub tail : {X : Type 0} (P : X → Type 0) (x : X) (xs : List X) → All P (x ∷ xs) → All P xs
tail P x xs all = λ k d h. all (suc k) d (omega arith)

front : {X : Type 0} (text : X → List ℕ) (x : X) (xs : List X) (rest : List ℕ) → list_all is_clean (text x) ≡ true
    → lines_of (lines_by text (x ∷ xs) ++ rest) ≡ text x ∷ lines_of (lines_by text xs ++ rest)
front text x xs rest clean =
    ap lines_of (append_assoc (text x) (10 ∷ lines_by text xs) rest)
    ∙ line_front (text x) (lines_by text xs ++ rest) clean

is_below : (n end : ℕ) → n < end → nat_lt n end ≡ true
is_below n end h = grind (arith, nat_tests)

-- the first pass

cell_surveyed : (number : ℕ) (survey : Surveyed) (c : Cell) → IsCell c → survey.cells < MOST_CELLS
    → surveyed_words number survey (line_words (content_of (cell_text c)))
    ≡ Ok (record survey { cells = survey.cells + 1 })
cell_surveyed number survey c i room =
    let r = cell_reads c i.in_range in
    rw (r.read number, r.no_names, i.one_to_one, is_below survey.cells MOST_CELLS room) refl

code_surveyed : (number : ℕ) (survey : Surveyed) (code : List Cell) (rest : List ℕ) → All IsCell code
    → survey.cells + length code ≤ MOST_CELLS
    → surveyed number survey (lines_of (lines_by cell_text code ++ rest))
    ≡ surveyed (after number code) (record survey { cells = after survey.cells code }) (lines_of rest)
code_surveyed number survey [] rest all room = refl
code_surveyed number survey (c ∷ code) rest all room =
    let i : IsCell c = head IsCell c code all in
    rw (front cell_text c code rest (cell_reads c i.in_range).clean, cell_surveyed number survey c i (omega arith))
    (code_surveyed (number + 1) (record survey { cells = survey.cells + 1 }) code rest (tail IsCell c code all)
    (omega arith))

static_surveyed : (number : ℕ) (survey : Surveyed) (word : ℕ) → word < 2 ^ 32 → length survey.statics < MOST_STATICS
    → surveyed_words number survey (line_words (content_of (static_text word)))
    ≡ Ok (record survey { statics = survey.statics ++ word ∷ [] })
static_surveyed number survey word small room =
    let r = static_reads word small in
    rw (r.read number, r.no_names, is_below (length survey.statics) MOST_STATICS room) refl

statics_surveyed : (number : ℕ) (survey : Surveyed) (statics : List ℕ) (rest : List ℕ) → All IsWord statics
    → length survey.statics + length statics ≤ MOST_STATICS
    → surveyed number survey (lines_of (lines_by static_text statics ++ rest))
    ≡ surveyed (after number statics) (record survey { statics = survey.statics ++ statics }) (lines_of rest)
statics_surveyed number survey [] rest all room =
    ap (λ (ws : List ℕ). surveyed number (record survey { statics = ws }) (lines_of rest))
    (sym (append-nil survey.statics))
statics_surveyed number survey (word ∷ statics) rest all room =
    let small : word < 2 ^ 32 = head IsWord word statics all in
    rw (
      front static_text word statics rest (static_reads word small).clean,
      static_surveyed number survey word small (omega arith),
    )
    (statics_surveyed (number + 1) (record survey { statics = survey.statics ++ word ∷ [] }) statics rest
    (tail IsWord word statics all) (rw length-append (omega arith))
    ∙ ap (λ (ws : List ℕ). surveyed (after (number + 1) statics) (record survey { statics = ws }) (lines_of rest))
    (append_assoc survey.statics (word ∷ []) statics))

-- lines of which it counts nothing
skip_surveyed : {X : Type 0} (text : X → List ℕ) (item : X → Item) (number : ℕ) (survey : Surveyed) (xs : List X)
    (rest : List ℕ) → All (λ x. ReadsAs (text x) (item x)) xs
    → ((line : ℕ) (so_far : Surveyed) (x : X) → counted_item line so_far (item x) ≡ Ok so_far)
    → surveyed number survey (lines_of (lines_by text xs ++ rest)) ≡ surveyed (after number xs) survey (lines_of rest)
skip_surveyed text item number survey [] rest all skip = refl
skip_surveyed text item number survey (x ∷ xs) rest all skip =
    let r : ReadsAs (text x) (item x) = head (λ x. ReadsAs (text x) (item x)) x xs all in
    rw (
      front text x xs rest r.clean,
      r.read number,
      r.no_names,
      skip number (record survey { labels = survey.labels }) x,
    )
    (skip_surveyed text item (number + 1) survey xs rest (tail (λ x. ReadsAs (text x) (item x)) x xs all) skip)

-- the second pass

code_linked : (number : ℕ) (labels : Labels) (code more : List Cell) (rest : List ℕ) → All IsCell more
    → linked_cells number labels code (lines_of (lines_by cell_text more ++ rest))
    ≡ linked_cells (after number more) labels (code ++ more) (lines_of rest)
code_linked number labels code [] rest all = ap (λ (cs : List Cell). linked_cells number labels cs (lines_of rest))
    (sym (append-nil code))
code_linked number labels code (c ∷ more) rest all =
    let i : IsCell c = head IsCell c more all in
    let r = cell_reads c i.in_range in
    rw (front cell_text c more rest r.clean, r.read number)
    (code_linked (number + 1) labels (code ++ c ∷ []) more rest (tail IsCell c more all)
    ∙ ap (λ (cs : List Cell). linked_cells (after (number + 1) more) labels cs (lines_of rest))
    (append_assoc code (c ∷ []) more))

-- lines that give no cell
skip_linked : {X : Type 0} (text : X → List ℕ) (item : X → Item) (number : ℕ) (labels : Labels) (code : List Cell)
    (xs : List X) (rest : List ℕ)
    → All (λ x. ReadsAs (text x) (item x)) xs → ((line : ℕ) (x : X) → linked_item line labels code (item x) ≡ Ok code)
    → linked_cells number labels code (lines_of (lines_by text xs ++ rest))
    ≡ linked_cells (after number xs) labels code (lines_of rest)
skip_linked text item number labels code [] rest all skip = refl
skip_linked text item number labels code (x ∷ xs) rest all skip =
    let r : ReadsAs (text x) (item x) = head (λ x. ReadsAs (text x) (item x)) x xs all in
    rw (front text x xs rest r.clean, r.read number, skip number x)
    (skip_linked text item (number + 1) labels code xs rest (tail (λ x. ReadsAs (text x) (item x)) x xs all) skip)

-- the third pass

-- lines that are no notes
skip_noted : {X : Type 0} (text : X → List ℕ) (item : X → Item) (number : ℕ) (image : Segments) (so_far : NoteLists)
    (xs : List X) (rest : List ℕ)
    → All (λ x. ReadsAs (text x) (item x)) xs → ((line : ℕ) (x : X) → noted_item line image so_far (item x) ≡ Ok so_far)
    → noted_lines number image so_far (lines_of (lines_by text xs ++ rest))
    ≡ noted_lines (after number xs) image so_far (lines_of rest)
skip_noted text item number image so_far [] rest all skip = refl
skip_noted text item number image so_far (x ∷ xs) rest all skip =
    let r : ReadsAs (text x) (item x) = head (λ x. ReadsAs (text x) (item x)) x xs all in
    rw (front text x xs rest r.clean, r.read number, skip number x)
    (skip_noted text item (number + 1) image so_far xs rest (tail (λ x. ReadsAs (text x) (item x)) x xs all) skip)

marks_noted : (number : ℕ) (image : Segments) (so_far : NoteLists) (marks : List Mark) (rest : List ℕ)
    → All (λ m. ReadsAs (mark_text m) (Marked m)) marks
    → fits image (notes (so_far.marks ++ marks) so_far.names) ≡ true
    → noted_lines number image so_far (lines_of (lines_by mark_text marks ++ rest))
    ≡ noted_lines (after number marks) image (notes (so_far.marks ++ marks) so_far.names) (lines_of rest)
marks_noted number image so_far [] rest all h =
    ap (λ (ms : List Mark). noted_lines number image (notes ms so_far.names) (lines_of rest))
    (sym (append-nil so_far.marks))
marks_noted number image so_far (m ∷ marks) rest all h =
    let r : ReadsAs (mark_text m) (Marked m) = head (λ m. ReadsAs (mark_text m) (Marked m)) m marks all in
    let longer : NoteLists = notes (so_far.marks ++ m ∷ []) so_far.names in
    let same : so_far.marks ++ m ∷ marks ≡ (so_far.marks ++ m ∷ []) ++ marks =
    sym (append_assoc so_far.marks (m ∷ []) marks) in
    let whole : fits image (notes (longer.marks ++ marks) longer.names) ≡ true =
    same_fits image (notes (so_far.marks ++ m ∷ marks) so_far.names) (notes (longer.marks ++ marks) longer.names)
    (ap (λ ms. notes ms so_far.names) same) h in
    let here : fits image longer ≡ true =
    fits_front image longer (notes marks []) (same_fits image (notes (longer.marks ++ marks) longer.names)
    (joined_notes longer (notes marks [])) (marks_joined longer marks) whole) in
    rw (front mark_text m marks rest r.clean, r.read number, here)
    (marks_noted (number + 1) image longer marks rest (tail (λ m. ReadsAs (mark_text m) (Marked m)) m marks all) whole
    ∙ ap (λ (ms : List Mark). noted_lines (after (number + 1) marks) image (notes ms so_far.names) (lines_of rest))
    (sym same))

names_noted : (number : ℕ) (image : Segments) (so_far : NoteLists) (names : List FieldName) (rest : List ℕ)
    → All (λ n. ReadsAs (name_text n) (Named n)) names
    → fits image (notes so_far.marks (so_far.names ++ names)) ≡ true
    → noted_lines number image so_far (lines_of (lines_by name_text names ++ rest))
    ≡ noted_lines (after number names) image (notes so_far.marks (so_far.names ++ names)) (lines_of rest)
names_noted number image so_far [] rest all h =
    ap (λ (ns : List FieldName). noted_lines number image (notes so_far.marks ns) (lines_of rest))
    (sym (append-nil so_far.names))
names_noted number image so_far (n ∷ names) rest all h =
    let r : ReadsAs (name_text n) (Named n) = head (λ n. ReadsAs (name_text n) (Named n)) n names all in
    let longer : NoteLists = notes so_far.marks (so_far.names ++ n ∷ []) in
    let same : so_far.names ++ n ∷ names ≡ (so_far.names ++ n ∷ []) ++ names =
    sym (append_assoc so_far.names (n ∷ []) names) in
    let whole : fits image (notes longer.marks (longer.names ++ names)) ≡ true =
    same_fits image (notes so_far.marks (so_far.names ++ n ∷ names)) (notes longer.marks (longer.names ++ names))
    (ap (λ ns. notes so_far.marks ns) same) h in
    let here : fits image longer ≡ true =
    fits_front image longer (notes [] names) (same_fits image (notes longer.marks (longer.names ++ names))
    (joined_notes longer (notes [] names)) (names_joined longer names) whole) in
    rw (front name_text n names rest r.clean, r.read number, here)
    (names_noted (number + 1) image longer names rest (tail (λ n. ReadsAs (name_text n) (Named n)) n names all) whole
    ∙ ap (λ (ns : List FieldName). noted_lines (after (number + 1) names) image (notes so_far.marks ns) (lines_of rest))
    (sym same))

-- all together

-- the parts of a listing, each before the rest
abbrev names_on : NotedImage → List ℕ
names_on n = lines_by name_text n.notes.names ++ []

abbrev marks_on : NotedImage → List ℕ
marks_on n = lines_by mark_text n.notes.marks ++ names_on n

abbrev statics_on : NotedImage → List ℕ
statics_on n = lines_by static_text n.image.statics ++ marks_on n

four_parts : (a b c d : List ℕ) → ((a ++ b) ++ c) ++ d ≡ a ++ (b ++ (c ++ (d ++ [])))
four_parts a b c d = rw (append-nil d) (simp append_assoc)

regrouped : (n : NotedImage) → listing n ≡ lines_by cell_text n.image.code ++ statics_on n
regrouped n = four_parts (lines_by cell_text n.image.code) (lines_by static_text n.image.statics)
    (lines_by mark_text n.notes.marks) (lines_by name_text n.notes.names)

-- every line reads as its item
record EachReads (n : NotedImage) : Type 0 where
  code : All (λ c. ReadsAs (cell_text c) (code_item c)) n.image.code
  statics : All (λ w. ReadsAs (static_text w) (Static w)) n.image.statics
  marks : All (λ m. ReadsAs (mark_text m) (Marked m)) n.notes.marks
  names : All (λ n. ReadsAs (name_text n) (Named n)) n.notes.names

each_reads : (n : NotedImage) → IsImage n.image → All IsWord n.image.statics → fits n.image n.notes ≡ true → EachReads n
each_reads n i words h =
    let f = fitting n.image n.notes h in
    record {
      code = λ k d inside. cell_reads (get_or n.image.code k d) (i.is_code.cells k d inside).in_range;
      statics = λ k d inside. static_reads (get_or n.image.statics k d) (words k d inside);
      marks = marks_read (length n.image.code) n.notes.marks i.is_code.in_limit f.each_mark;
      names = names_read (length n.image.statics) MOST_NAME_BYTES n.notes.names i.statics_in_limit f.names;
    }

abbrev surveyed_image : NotedImage → Surveyed
surveyed_image n = record { labels = []; cells = after 0 n.image.code; statics = n.image.statics }

listing_surveyed : (n : NotedImage) → IsImage n.image → All IsWord n.image.statics → EachReads n
    → surveyed 1 no_lines (lines_of (lines_by cell_text n.image.code ++ statics_on n)) ≡ Ok (surveyed_image n)
listing_surveyed n i words r =
    let at_statics = after 1 n.image.code in
    let at_marks = after at_statics n.image.statics in
    code_surveyed 1 no_lines n.image.code (statics_on n) i.is_code.cells (let few = i.is_code.in_limit in omega arith)
    ∙ statics_surveyed at_statics (record { labels = []; cells = after 0 n.image.code; statics = [] }) n.image.statics
    (marks_on n) words (let few = i.statics_in_limit in omega arith)
    ∙ skip_surveyed mark_text Marked at_marks (surveyed_image n) n.notes.marks (names_on n) r.marks
    (λ line so_far m. refl)
    ∙ skip_surveyed name_text Named (after at_marks n.notes.marks) (surveyed_image n) n.notes.names [] r.names
    (λ line so_far n. refl)

listing_linked : (n : NotedImage) → IsImage n.image → EachReads n
    → linked_cells 1 [] [] (lines_of (lines_by cell_text n.image.code ++ statics_on n)) ≡ Ok n.image.code
listing_linked n i r =
    let at_statics = after 1 n.image.code in
    let at_marks = after at_statics n.image.statics in
    code_linked 1 [] [] n.image.code (statics_on n) i.is_code.cells
    ∙ skip_linked static_text Static at_statics [] n.image.code n.image.statics (marks_on n) r.statics (λ line w. refl)
    ∙ skip_linked mark_text Marked at_marks [] n.image.code n.notes.marks (names_on n) r.marks (λ line m. refl)
    ∙ skip_linked name_text Named (after at_marks n.notes.marks) [] n.image.code n.notes.names [] r.names
    (λ line m. refl)

listing_noted : (n : NotedImage) → fits n.image n.notes ≡ true → EachReads n
    → noted_lines 1 n.image no_notes (lines_of (lines_by cell_text n.image.code ++ statics_on n)) ≡ Ok n.notes
listing_noted n h r =
    let at_statics = after 1 n.image.code in
    let at_marks = after at_statics n.image.statics in
    let only_marks : fits n.image (notes n.notes.marks []) ≡ true =
    fits_front n.image (notes n.notes.marks []) (notes [] n.notes.names)
    (same_fits n.image n.notes (joined_notes (notes n.notes.marks []) (notes [] n.notes.names))
    (names_joined (notes n.notes.marks []) n.notes.names) h) in
    skip_noted cell_text code_item 1 n.image no_notes n.image.code (statics_on n) r.code (λ line c. refl)
    ∙ skip_noted static_text Static at_statics n.image no_notes n.image.statics (marks_on n) r.statics (λ line w. refl)
    ∙ marks_noted at_marks n.image no_notes n.notes.marks (names_on n) r.marks only_marks
    ∙ names_noted (after at_marks n.notes.marks) n.image (notes n.notes.marks []) n.notes.names [] r.names h

pub listing_read : (n : NotedImage) → IsImage n.image → All IsWord n.image.statics → fits n.image n.notes ≡ true
    → noted_of_text (listing n) ≡ Ok n
listing_read n i words h =
    let r = each_reads n i words h in
    let third : noted_lines 1 (record { code = n.image.code; statics = n.image.statics }) no_notes
    (lines_of (lines_by cell_text n.image.code ++ statics_on n)) ≡ Ok n.notes =
    listing_noted n h r in
    rw (regrouped n, listing_surveyed n i words r, listing_linked n i r, i.one_start, i.one_finish, third) refl
