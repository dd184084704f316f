-- The words that are read from an input are a valid input of the program, and their fields are
-- static cells.
use Rattle.std.proofs.Common.{◌≡◌, ◌∙◌, sym, ap, subst, refl, ℕ, zero, suc, ◌+◌, ◌<◌, ◌≤◌, Bool, true, false, ◌||◌}
use Rattle.std.proofs.Common.{List, [], ◌∷◌, length, arith, slice_get, length-append}
use Rattle.std.specs.Prelude.{IsTrue, nat_eq, if◌then◌else◌}
use Rattle.std.specs.List.{All, slice_index_or}
use Rattle.std.proofs.lemmas.Bool.Decides.{nat_tests}
use Rattle.std.proofs.lemmas.List.{length-replicate}
use Rattle.roopl_judge.specs.rpp_words.declared.input.FieldWord.{FieldWord}
use Rattle.roopl_judge.specs.rpp_words.declared.input.TheConstants.{HEADER_WORDS}
use Rattle.roopl_judge.specs.rpp_tree.declared.tree.Var.{Var}
use Rattle.roopl_judge.specs.rpp_tree.Tree.{Source}
use Rattle.roopl_semantics.specs.pisa_isa.Image.{Segments}
use Rattle.command_plan.specs.pisa_loader.InputLines.{is_field, AreInput}
use Rattle.roopl_semantics.specs.Layout.{HasStatics, main_statics, tables}
use Rattle.roopl_semantics.specs.Source.{main_fields, is_int_type, is_int_field, IsValid}
use Rattle.run_settings.specs.Inputs.{fields_from, input_fields}

-- ---- a field that can be set is an int field

pub record IsIntAt (vars : List Var) (from field : ℕ) : Type 0 where
  pub index : ℕ
  pub is : field ≡ from + index
  pub int : IsTrue (is_int_field (slice_get vars index))

later_field : (var : Var) (vars : List Var) (from field : ℕ) → IsIntAt vars (from + 1) field
    → IsIntAt (var ∷ vars) from field
later_field var vars from field found = record {
  index = suc found.index;
  is = found.is ∙ (let e : from + 1 + found.index ≡ from + suc found.index = omega arith in e);
  int = found.int;
}

known_by : (b : Bool) (var : Var) (vars : List Var) (from field : ℕ) → is_int_type var.kind ≡ b
    → (is_field (fields_from (from + 1) vars) field ≡ true → IsIntAt vars (from + 1) field)
    → is_field (if b then record { name = var.name.text; field = from }
    ∷ fields_from (from + 1) vars else fields_from (from + 1) vars) field ≡ true
    → IsIntAt (var ∷ vars) from field
known_by false var vars from field int below e = later_field var vars from field (below e)
known_by true var vars from field int below e = by_number (nat_eq from field) refl e
  where
    by_number : (c : Bool) → nat_eq from field ≡ c → (c || is_field (fields_from (from + 1) vars) field) ≡ true
        → IsIntAt (var ∷ vars) from field
    by_number true is e = let same : field ≡ from + 0 = grind (arith, nat_tests) in
        record { index = 0; is = same; int = int }
    by_number false is e = later_field var vars from field (below e)

known_int : (vars : List Var) (from field : ℕ) → is_field (fields_from from vars) field ≡ true → IsIntAt vars from field
known_int [] from field e = absurd (cc)
known_int (var ∷ vars) from field e = known_by (is_int_type var.kind) var vars from field refl
    (known_int vars (from + 1) field) e

int_there : (vars : List Var) (field : ℕ) → IsIntAt vars 0 field → IsTrue (is_int_field (slice_get vars field))
int_there vars field found =
    let z : 0 + found.index ≡ found.index = omega arith in
    subst (λ k. IsTrue (is_int_field (slice_get vars k))) (sym (found.is ∙ z)) found.int

-- a field that can be set is an int field of the main class
pub int_field : (program : Source) (field : ℕ) → is_field (input_fields program) field ≡ true
    → IsTrue (is_int_field (slice_get (main_fields program) field))
int_field program field e = int_there (main_fields program) field (known_int (main_fields program) 0 field e)

-- words for int fields, for none twice, are a valid input
pub valid_input : (program : Source) (words : List FieldWord) → AreInput (input_fields program) words
    → IsValid program words
valid_input program words are = record {
  ints = λ k d h. int_field program (slice_index_or words k d).field (are.known k d h);
  once = are.once;
  words = are.are_words;
}

-- ---- the fields of a valid input are static cells

below : (vars : List Var) (i : ℕ) → IsTrue (is_int_field (slice_get vars i)) → i < length vars
below [] i h = let no : false ≡ true = h in absurd (cc)
below (var ∷ vars) zero h = omega arith
below (var ∷ vars) (suc i) h = omega (arith, below vars i h)

length-statics : (program : Source) (image : Segments) → HasStatics program image
    → HEADER_WORDS + length (main_fields program) ≤ length image.statics
length-statics program image has =
    let is = ap length has.words in
    omega (
      arith,
      length-append {A = ℕ} (main_statics program) (tables 1 has.places),
      length-replicate {A = ℕ} (length (main_fields program)) 0,
    )

-- an int field of the main object is a static cell
pub field_fits : (program : Source) (image : Segments) (field : ℕ) → HasStatics program image
    → IsTrue (is_int_field (slice_get (main_fields program) field)) → HEADER_WORDS + field < length image.statics
field_fits program image field has int = let in_fields = below (main_fields program) field int in
    omega (arith, length-statics program image has)

pub input_fits : (program : Source) (image : Segments) (words : List FieldWord) → HasStatics program image
    → IsValid program words → All (λ (entry : FieldWord). HEADER_WORDS + entry.field < length image.statics) words
input_fits program image words has valid = λ k d h. field_fits program image (slice_index_or words k d).field has
    (valid.ints k d h)
