-- The marks of a linked image, with the names of the main object's int fields, are notes that fit it.
use Rattle.std.proofs.Common.{◌≡◌, ◌∙◌, sym, ap, subst, refl, ℕ, suc, ◌+◌, ◌-◌, ◌*◌, ◌<◌, ◌≤◌, Bool, true, false, cond}
use Rattle.std.proofs.Common.{List, [], ◌∷◌, length, arith, lit≤, length-append, replicate}
use Rattle.std.specs.Prelude.{sum_by, nat_le, nat_lt, ◌&&◌, if◌then◌else◌}
use Rattle.std.specs.List.{list_all}
use Rattle.std.specs.Char.{is_ascii_alphabetic}
use Rattle.std.proofs.lemmas.Bool.{and_from, le-leb}
use Rattle.std.proofs.lemmas.Bool.Decides.{nat_tests}
use Rattle.std.proofs.lemmas.List.{length-replicate}
use Rattle.std.proofs.lemmas.List.Elements.{All-tail, All-weaker}
use Rattle.std.proofs.lemmas.List.Sums.{sum_by-cons, sum_by-le, list_all-from_AllPass}
use Rattle.refine_program.specs.code_conventions.declared.memory.TheConstants.{FIRST_FIELD, HEADER_WORDS}
use Rattle.refine_program.specs.rpp_words.declared.input.TheConstants.{FIXED_CELLS}
use Rattle.refine_program.specs.rpp_words.Names.{is_name_byte}
use Rattle.refine_program.specs.rpp_tree.declared.tree.Ident.{Ident}
use Rattle.refine_program.specs.rpp_tree.declared.tree.Var.{Var}
use Rattle.refine_program.specs.rpp_tree.Names.{IsName}
use Rattle.refine_program.specs.rpp_tree.Parts.{source_names}
use Rattle.refine_program.specs.rpp_tree.Tree.{Source}
use Rattle.refine_program.specs.class_rules.Classes.{main_of}
use Rattle.refine_program.specs.class_rules.Program.{IsAccepted}
use Rattle.refine_program.specs.pisa_isa.declared.notes.TheConstants.{MOST_NAMES, MOST_NAME_BYTES}
use Rattle.refine_program.specs.pisa_isa.declared.notes.FieldName.{FieldName}
use Rattle.refine_program.specs.pisa_isa.declared.notes.Mark.{Mark}
use Rattle.refine_program.specs.pisa_isa.Image.{Segments}
use Rattle.refine_program.specs.pisa_isa.Notes.{NoteLists, NotedImage, is_name, name_fits, names_fit, fits}
use Rattle.refine_program.proofs.pisa_isa_laws.Noting.{fitting, fits_by}
use Rattle.refine_program.specs.roopl_semantics.Layout.{tables}
use Rattle.refine_program.specs.roopl_semantics.Source.{main_fields, is_int_type}
use Rattle.refine_program.specs.roopl_semantics.StandsFor.{StandsFor}
use Rattle.refine_program.proofs.roopl_semantics_laws.MainPlace.{class_inside}
use Rattle.program_codegen.specs.Notes.{field_names, HasMarks, AreNotes}
use Rattle.program_codegen.proofs.FieldSums.{field_count, name_count, field_names_sum}

-- ---- names

-- 1 for what is no name
abbrev no_name : List ℕ → ℕ
no_name text = cond (is_name text) 0 1

name_is : (text : List ℕ) → IsName text → is_name text ≡ true
name_is [] named = let letter = named.letter in absurd (cc)
name_is (first ∷ rest) named = and_from (is_ascii_alphabetic first) (list_all is_name_byte rest) named.letter
    (list_all-from_AllPass is_name_byte rest (All-tail (λ b. is_name_byte b ≡ true) first rest named.name_bytes))

counts_none : (name : Ident) → IsName name.text → name_count no_name name ≤ 0
counts_none name named = subst (λ b. cond b 0 1 ≤ 0) (sym (name_is name.text named)) (lit≤ tt)

is_one : (b : Bool) → cond b 0 1 ≤ 0 → b ≡ true
is_one true h = refl
is_one false h = absurd (omega arith)

length-field_names : (cell : ℕ) (vars : List Var) → length (field_names cell vars) ≤ length vars
length-field_names cell [] = omega arith
length-field_names cell (var ∷ vars) = by (is_int_type var.kind) (length-field_names (cell + 1) vars)
  where
    by : (b : Bool) → length (field_names (cell + 1) vars) ≤ length vars
        → length (if b then record { cell = cell; text = var.name.text }
        ∷ field_names (cell + 1) vars else field_names (cell + 1) vars) ≤ suc (length vars)
    by true rest = omega arith
    by false rest = omega arith

abbrev name_in : (cell : ℕ) → Var → FieldName
name_in cell var = record { cell = cell; text = var.name.text }

each_name : (statics left cell : ℕ) (vars : List Var) → FIXED_CELLS ≤ cell → cell + length vars ≤ FIXED_CELLS + statics
    → sum_by (field_count length) vars ≤ left → sum_by (field_count no_name) vars ≤ 0
    → names_fit statics left (field_names cell vars) ≡ true
each_name statics left cell [] low within few named = refl
each_name statics left cell (var ∷ vars) low within few named =
    by (is_int_type var.kind) (λ less h. each_name statics less (cell + 1) vars (omega arith) (omega arith) h
    (omega (arith, names)))
  where
    sizes : sum_by (field_count length) (var ∷ vars) ≡ length var.name.text + sum_by (field_count length) vars
    sizes = sum_by-cons (field_count length) var vars

    names : sum_by (field_count no_name) (var ∷ vars) ≡ no_name var.name.text + sum_by (field_count no_name) vars
    names = sum_by-cons (field_count no_name) var vars

    own_fits : name_fits statics left (name_in cell var) ≡ true
    own_fits =
        and_from (nat_le FIXED_CELLS cell && nat_lt (cell - FIXED_CELLS) statics && nat_le (length var.name.text) left)
        (is_name var.name.text)
        (and_from (nat_le FIXED_CELLS cell && nat_lt (cell - FIXED_CELLS) statics) (nat_le (length var.name.text) left)
        (and_from (nat_le FIXED_CELLS cell) (nat_lt (cell - FIXED_CELLS) statics) (le-leb FIXED_CELLS cell low)
        (let h : cell - FIXED_CELLS < statics = omega arith in grind (arith, nat_tests)))
        (le-leb (length var.name.text) left (omega (arith, sizes))))
        (is_one (is_name var.name.text) (omega (arith, names)))

    by : (b : Bool) → ((less : ℕ) → sum_by (field_count length) vars ≤ less
        → names_fit statics less (field_names (cell + 1) vars) ≡ true)
        → names_fit statics left (if b then name_in cell var
        ∷ field_names (cell + 1) vars else field_names (cell + 1) vars) ≡ true
    by true rest = and_from (name_fits statics left (name_in cell var)) _ own_fits
        (rest (left - length var.name.text) (omega (arith, sizes)))
    by false rest = rest left (omega (arith, sizes))

-- ---- the notes of a program

-- the main object is before the class tables
long_enough : (program : Source) (image : Segments) → StandsFor program image
    → HEADER_WORDS + length (main_fields program) ≤ length image.statics
long_enough program image stands =
    let words = ap length stands.statics.words in
    let main = length-append (replicate (length (main_fields program)) 0) (tables 1 stands.statics.places) in
    omega (arith, words, main, length-replicate {A = ℕ} (length (main_fields program)) 0)

pub notes_fit : (program : Source) (image : Segments) (notes : NoteLists) → IsAccepted program → fits image notes ≡ true
    → StandsFor program image → length (main_fields program) ≤ 64
    → fits image (record { marks = notes.marks; names = field_names FIRST_FIELD (main_fields program) }) ≡ true
notes_fit program image notes accepted fit stands few =
    let fields = main_fields program in
    let long = long_enough program image stands in
    let bytes = field_names_sum length program (main_of program).class (class_inside program accepted) in
    let names = field_names_sum no_name program (main_of program).class (class_inside program accepted) in
    let limits = accepted.limits in
    let none : sum_by (name_count no_name) (source_names program) ≤ length (source_names program) * 0 =
    sum_by-le (name_count no_name) 0 (source_names program)
    (All-weaker (λ name. IsName name.text) (λ name. name_count no_name name ≤ 0) counts_none (source_names program)
    limits.names)
    in
    let before = fitting image notes fit in
    fits_by image (record { marks = notes.marks; names = field_names FIRST_FIELD fields }) (record {
      few_marks = before.few_marks;
      each_mark = before.each_mark;
      few_names = le-leb (length (field_names FIRST_FIELD fields)) MOST_NAMES
          (omega (arith, length-field_names FIRST_FIELD fields, few));
      names = each_name (length image.statics) MOST_NAME_BYTES FIRST_FIELD fields (lit≤ tt) (omega (arith, long))
          (omega (arith, bytes, limits.name_bytes)) (omega (arith, names, none));
    })

-- the same of an image and notes that are these
pub sealed_fit : (program : Source) (whole image : Segments) (notes : NoteLists) (marks : List Mark)
    (names : List FieldName) → IsAccepted program → fits image notes ≡ true → StandsFor program image
    → length (main_fields program) ≤ 64 → whole ≡ image → marks ≡ notes.marks
    → names ≡ field_names FIRST_FIELD (main_fields program)
    → fits whole (record { marks = marks; names = names }) ≡ true
sealed_fit program whole image notes marks names accepted fit stands few whole_is marks_are names_are =
    ap (λ i. fits i (record { marks = marks; names = names })) whole_is
    ∙ ap (λ ms. fits image (record { marks = ms; names = names })) marks_are
    ∙ ap (λ ns. fits image (record { marks = notes.marks; names = ns })) names_are
    ∙ notes_fit program image notes accepted fit stands few

pub sealed_notes : (program : Source) (sealed : NotedImage) (whole image : Segments) (notes : NoteLists)
    (marks : List Mark) (names : List FieldName) → sealed
    ≡ record { image = whole; notes = record { marks = marks; names = names } }
    → whole ≡ image → marks ≡ notes.marks → names ≡ field_names FIRST_FIELD (main_fields program)
    → HasMarks program image notes.marks → AreNotes program sealed.image sealed.notes
sealed_notes program sealed whole image notes marks names sealed_is whole_is marks_are names_are has =
    let same : sealed ≡ record {
      image = image;
      notes = record
          { marks = notes.marks; names = field_names FIRST_FIELD (main_fields program) };
    } =
    sealed_is
    ∙ ap (λ i. record { image = i; notes = record { marks = marks; names = names } }) whole_is
    ∙ ap (λ ms. record { image = image; notes = record { marks = ms; names = names } }) marks_are
    ∙ ap (λ ns. record { image = image; notes = record { marks = notes.marks; names = ns } }) names_are
    in
    subst (λ (n : NotedImage). AreNotes program n.image n.notes) (sym same) (record { marks = has; names = refl })
