-- The fields that names name are int fields of the main class, with their names, and no more than these.
use Rattle.std.proofs.Common.{◌≡◌, ◌∙◌, refl, sym, ap, subst, ℕ, ◌+◌, ◌≤◌, Bool, true, false, ◌||◌, List, [], ◌∷◌, ◌++◌}
use Rattle.std.proofs.Common.{length, map, Option, Result, Some, None, Ok, Err, arith}
use Rattle.std.specs.Prelude.{nat_eq, IsTrue, if◌then◌else◌, slice_get}
use Rattle.std.specs.List.{All, IsDistinct, list_any}
use Rattle.std.specs.Set.{is_member}
use Rattle.std.specs.Str.{bytes_eq}
use Rattle.std.proofs.lemmas.Bool.{eqb-true}
use Rattle.std.proofs.lemmas.Cmp.{nat_eq_equiv}
use Rattle.std.proofs.lemmas.List.{length-map}
use Rattle.std.proofs.lemmas.List.Elements.{All-head, All-tail, All-nil, All-cons, All-append}
use Rattle.std.proofs.lemmas.Map.Keys.{IsDistinct-push}
use Rattle.std.proofs.lemmas.Map.Made.{All-is_member, length-le_from_is_member}
use Rattle.command_plan.specs.rpp_tree.declared.tree.Var.{Var}
use Rattle.command_plan.specs.rpp_tree.Tree.{Source}
use Rattle.command_plan.specs.class_rules.Program.{IsAccepted}
use Rattle.command_plan.specs.pisa_scripts.Lines.{pieces}
use Rattle.command_plan.specs.pisa_image.Numbers.{◌>>=◌}
use Rattle.command_plan.specs.pisa_loader.declared.input.InputField.{InputField}
use Rattle.command_plan.specs.pisa_loader.InputLines.{is_field}
use Rattle.program_runs.specs.run_settings.roopl_semantics.Source.{main_fields, is_int_type, is_int_field}
use Rattle.store_report.specs.Ascii.{HasAsciiName as HasAsciiVar}
use Rattle.store_report.proofs.Names.{ascii_main_fields}
use Rattle.program_runs.specs.run_settings.Inputs.{fields_from, input_fields}
use Rattle.program_runs.proofs.run_settings_laws.ValidInput.{int_field}
use Rattle.wrap_commands.specs.declared.error.NamesError.{NamesError}
use Rattle.wrap_commands.specs.declared.error.NamesError.TheVariants.{UnknownResult}
use Rattle.wrap_commands.specs.WrapNames.{field_of_name, with_result, results_from, results_of}
use Rattle.wrap_commands.specs.WrapShown.{HasAsciiFieldName}
use Rattle.wrap_commands.specs.WrapPlans.{AreResults}

-- ---- what a name adds

record Added (results all : List InputField) (next : List InputField → Result (List InputField) NamesError)
    (o : Option InputField) : Type 0 where
  field : InputField
  found : o ≡ Some field
  new : is_field results field.field ≡ false
  rest : next (results ++ field ∷ []) ≡ Ok all

added : (results all : List InputField) (next : List InputField → Result (List InputField) NamesError)
    (o : Option InputField) → (with_result results o >>= next) ≡ Ok all → Added results all next o
added results all next None e = absurd (cc)
added results all next (Some field) e = by (is_field results field.field) refl e
  where
    by : (b : Bool) → is_field results field.field ≡ b → ((if b then Err (UnknownResult (length results + 1)) else Ok
        (results ++ field ∷ [])) >>= next) ≡ Ok all → Added results all next (Some field)
    by true is e = absurd (cc)
    by false is e = record { field = field; found = refl; new = is; rest = e }

same_some : {x y : InputField} → Some x ≡ Some y → x ≡ y
same_some e = cc

field_in : (P : InputField → Type 0) (fields : List InputField) (name : List ℕ) (field : InputField) → All P fields
    → field_of_name fields name ≡ Some field → P field
field_in P [] name field all e = absurd (cc)
field_in P (x ∷ fields) name field all e = by (bytes_eq x.name name)
    (λ later. field_in P fields name field (All-tail P x fields all) later) e
  where
    by : (b : Bool) → (field_of_name fields name ≡ Some field → P field)
        → (if b then Some x else field_of_name fields name) ≡ Some field → P field
    by true below e = subst P (same_some e) (All-head P x fields all)
    by false below e = below e

-- what holds for each field holds for each result
all_results : (P : InputField → Type 0) (fields results all : List InputField) (names : List (List ℕ)) → All P fields
    → All P results → results_from fields results names ≡ Ok all → All P all
unfolding results_from
all_results P fields results all [] of_fields of_results e = let same : results ≡ all = cc in
    subst (All P) same of_results
all_results P fields results all (name ∷ names) of_fields of_results e =
    let a = added results all (λ more. results_from fields more names) (field_of_name fields name) e in
    all_results P fields (results ++ a.field ∷ []) all names of_fields
    (All-append P results (a.field ∷ []) of_results (All-cons P a.field []
    (field_in P fields name a.field of_fields a.found) (All-nil P))) a.rest

-- ---- no field is named twice

abbrev numbers : List InputField → List ℕ
numbers fields = map (λ field. field.field) fields

numbers_more : (results : List InputField) (field : InputField)
    → numbers (results ++ field ∷ []) ≡ numbers results ++ field.field ∷ []
numbers_more [] field = refl
numbers_more (x ∷ results) field = ap (λ l. x.field ∷ l) (numbers_more results field)

same_test : (results : List InputField) (y : ℕ) → list_any (nat_eq y) (numbers results) ≡ is_field results y
same_test [] y = refl
same_test (x ∷ results) y =
    ap (λ b. b || list_any (nat_eq y) (numbers results)) (nat_eq_equiv.symm y x.field)
    ∙ ap (λ b. nat_eq x.field y || b) (same_test results y)

distinct_results : (fields results all : List InputField) (names : List (List ℕ)) → IsDistinct nat_eq (numbers results)
    → results_from fields results names ≡ Ok all → IsDistinct nat_eq (numbers all)
unfolding results_from
distinct_results fields results all [] apart e = let same : results ≡ all = cc in
    subst (λ (xs : List InputField). IsDistinct nat_eq (numbers xs)) same apart
distinct_results fields results all (name ∷ names) apart e =
    let a = added results all (λ more. results_from fields more names) (field_of_name fields name) e in
    distinct_results fields (results ++ a.field ∷ []) all names
    (subst (IsDistinct nat_eq) (sym (numbers_more results a.field))
    (IsDistinct-push nat_eq_equiv (numbers results) a.field.field apart
    (same_test results a.field.field ∙ a.new))) a.rest

none_twice : IsDistinct nat_eq []
unfolding IsDistinct
none_twice = tt

-- ---- so there are no more results than fields

all_unmapped : (P : ℕ → Type 0) (fields : List InputField) → All P (numbers fields)
    → All (λ field. P field.field) fields
all_unmapped P [] all = All-nil (λ field. P field.field)
all_unmapped P (x ∷ fields) all = All-cons (λ field. P field.field) x fields (All-head P x.field (numbers fields) all)
    (all_unmapped P fields (All-tail P x.field (numbers fields) all))

abbrev IsOneOf : List ℕ → InputField → Type 0
IsOneOf ys field = is_member nat_eq ys field.field ≡ true

members : (ys : List ℕ) (results : List InputField) → All (IsOneOf ys) results → (q : ℕ)
    → is_member nat_eq (numbers results) q ≡ true → is_member nat_eq ys q ≡ true
members ys [] all q there = absurd (cc)
members ys (x ∷ results) all q there = by (nat_eq q x.field) refl
    (members ys results (All-tail (IsOneOf ys) x results all) q) there
  where
    by : (b : Bool) → nat_eq q x.field ≡ b → (is_member nat_eq (numbers results) q ≡ true
        → is_member nat_eq ys q ≡ true)
        → (b || is_member nat_eq (numbers results) q) ≡ true → is_member nat_eq ys q ≡ true
    by true is below h = ap (is_member nat_eq ys) (eqb-true q x.field is) ∙ All-head (IsOneOf ys) x results all
    by false is below h = below h

fields_are_own : (fields : List InputField) → All (IsOneOf (numbers fields)) fields
fields_are_own fields = all_unmapped (λ k. is_member nat_eq (numbers fields) k ≡ true) fields
    (All-is_member nat_eq_equiv (numbers fields))

no_more : (fields all : List InputField) (names : List (List ℕ)) → results_from fields [] names ≡ Ok all
    → length all ≤ length fields
no_more fields all names e =
    let apart = distinct_results fields [] all names none_twice e in
    let own = all_results (IsOneOf (numbers fields)) fields [] all names (fields_are_own fields)
    (All-nil (IsOneOf (numbers fields))) e in
    let le = length-le_from_is_member nat_eq_equiv (numbers all) (numbers fields) apart
    (members (numbers fields) all own) in
    omega (arith, le, length-map all (λ field. field.field), length-map fields (λ field. field.field))

-- ---- they are int fields with names

abbrev IsIntIn : Source → InputField → Type 0
IsIntIn program field = IsTrue (is_int_field (slice_get (main_fields program) field.field))

fields_are_int : (program : Source) → All (IsIntIn program) (input_fields program)
fields_are_int program =
    let own = fields_are_own (input_fields program) in
    λ k d h. int_field program _ (sym (same_test (input_fields program) _) ∙ own k d h)

ascii_next : (own : InputField) (fields : List InputField) (b : Bool) → HasAsciiFieldName own
    → All HasAsciiFieldName fields
    → All HasAsciiFieldName (if b then own ∷ fields else fields)
ascii_next own fields true first rest = All-cons HasAsciiFieldName own fields first rest
ascii_next own fields false first rest = rest

ascii_from : (number : ℕ) (vars : List Var) → All HasAsciiVar vars → All HasAsciiFieldName (fields_from number vars)
ascii_from number [] all = All-nil HasAsciiFieldName
ascii_from number (var ∷ vars) all =
    ascii_next (record { name = var.name.text; field = number }) (fields_from (number + 1) vars) (is_int_type var.kind)
    (All-head HasAsciiVar var vars all)
    (ascii_from (number + 1) vars (All-tail HasAsciiVar var vars all))

pub are_results : (program : Source) (names : List ℕ) (results : List InputField) → IsAccepted program
    → length (input_fields program) ≤ 64 → results_of (input_fields program) names ≡ Ok results
    → AreResults program results
are_results program names results accepted small e =
    let parts = pieces 44 names in
    let fields = input_fields program in
    record {
      ints = all_results (IsIntIn program) fields [] results parts (fields_are_int program) (All-nil (IsIntIn program))
          e;
      names = all_results HasAsciiFieldName fields [] results parts
          (ascii_from 0 (main_fields program) (ascii_main_fields program accepted)) (All-nil HasAsciiFieldName) e;
      few = let le = no_more fields results parts e in omega (arith, le, small);
    }
