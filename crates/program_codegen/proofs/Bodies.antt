-- The body of each method of an accepted program is in the scope of the method.
use Rattle.std.proofs.Common.{◌≡◌, ◌∙◌, sym, ap, subst, refl, ℕ, zero, suc, ◌<◌, List, [], ◌∷◌, ◌++◌, length, map, Some}
use Rattle.std.proofs.Common.{arith, slice_get}
use Rattle.std.specs.Prelude.{All}
use Rattle.std.specs.List.{flat_map}
use Rattle.std.specs.Option.{unwrap_or}
use Rattle.refine_program.specs.rpp_tree.declared.tree.Program.{Program}
use Rattle.refine_program.specs.rpp_tree.declared.tree.Var.{Var}
use Rattle.refine_program.specs.rpp_tree.declared.limits.TheConstants.{MOST_BYTES}
use Rattle.refine_program.specs.rpp_tree.Parts.{name_places, parent_names, var_places, block_places, procedure_places, class_places}
use Rattle.refine_program.specs.rpp_tree.Parts.{source_places}
use Rattle.refine_program.specs.rpp_tree.Tree.{Procedure, ClassText, Source}
use Rattle.refine_program.specs.rpp_tree.Views.{source_of}
use Rattle.refine_program.specs.class_rules.declared.method.MethodId.{MethodId}
use Rattle.refine_program.specs.class_rules.Members.{class_at, no_procedure}
use Rattle.refine_program.specs.class_rules.Classes.{procedure_at}
use Rattle.refine_program.specs.class_rules.Inheritance.{kind_of_var}
use Rattle.refine_program.specs.class_rules.Table.{table_of}
use Rattle.refine_program.specs.class_rules.Statements.{verdict_passed, each_passes_after, check_statements}
use Rattle.refine_program.specs.class_rules.Program.{IsAccepted, parameter_new, with_parameters, setting_in}
use Rattle.refine_program.proofs.class_rules_laws.PassedRules.{both_passed}
use Rattle.refine_program.proofs.class_rules_laws.InheritedSlots.{class_there}
use Rattle.refine_program.proofs.class_rules_laws.FoundMethods.{all_at, method_checked, method_small}
use Rattle.refine_program.specs.meaning_sound.Plain.{IsPlain, BlockHasWords}
use Rattle.refine_program.proofs.meaning_sound_laws.Invocations.{params_mean}
use Rattle.refine_program.proofs.meaning_sound_laws.Numbered.{program_words}
use Rattle.refine_program.proofs.meaning_sound_laws.Plainness.{program_plain}
use Rattle.statement_codegen.specs.code_scope.Visible.{Visible}
use Rattle.statement_codegen.specs.Pieces.{StandsIn}
use Rattle.statement_codegen.proofs.Standing.{left, right}
use Rattle.program_codegen.proofs.SameRules.{block_same}

-- ---- parts of what holds for all

part : {A B : Type 0} (P : B → Type 0) (f : A → List B) (xs : List A) (k : ℕ) (x : A) → slice_get xs k ≡ Some x
    → All P (flat_map f xs) → All P (f x)
part P f [] k x at all = absurd (cc)
part P f (y ∷ xs) zero x at all = let e : y ≡ x = cc in subst (λ z. All P (f z)) e (left P (f y) (flat_map f xs) all)
part P f (y ∷ xs) (suc k) x at all = part P f xs k x at (right P (f y) (flat_map f xs) all)

abbrev IsPlace : ℕ → Type 0
IsPlace at = at < MOST_BYTES

body_places : (program : Source) (k n : ℕ) (class : ClassText) (method : Procedure)
    → slice_get program.classes k ≡ Some class → slice_get class.methods n ≡ Some method
    → All IsPlace (source_places program) → All IsPlace (block_places method.body)
body_places program k n class method at there all =
    let in_class = part IsPlace class_places program.classes k class at all in
    let in_methods = right IsPlace (class.name.at ∷ name_places (parent_names class.parent)
    ++ flat_map var_places class.fields) (flat_map procedure_places class.methods) in_class in
    let in_method = part IsPlace procedure_places class.methods n method there in_methods in
    right IsPlace (method.name.at ∷ flat_map var_places method.params) (block_places method.body) in_method

-- ---- the scope of a method

module _ (program : Program) (accepted : IsAccepted (source_of program)) (id : MethodId) (method : Procedure)
    (inside : id.class < length (source_of program).classes)
    (there : slice_get (class_at (source_of program) id.class).methods id.method ≡ Some method) where
  abbrev text : Source
  text = source_of program

  -- the scope at the beginning of its body
  abbrev pub begun : Visible
  begun = record { program = program; method = id; variables = (procedure_at text id).params }

  pub params_are : (procedure_at text id).params ≡ method.params
  params_are = ap (λ o. (unwrap_or o no_procedure).params) there

  class_is : slice_get text.classes id.class ≡ Some (class_at text id.class)
  class_is = class_there text.classes id.class inside

  rules : check_statements (setting_in text (table_of text) id.class)
      (map (λ (var : Var). record { name = var.name.text; kind = kind_of_var text var }) method.params) method.body
      ≡ verdict_passed
  rules =
      let checked = method_checked text accepted id.class id.method method inside there in
      let both = both_passed (each_passes_after parameter_new [] method.params)
      (check_statements (setting_in text (table_of text) id.class)
      (with_parameters (setting_in text (table_of text) id.class) [] method.params) method.body) checked in
      sym (block_same (setting_in text (table_of text) id.class)
      (with_parameters (setting_in text (table_of text) id.class) [] method.params)
      (map (λ (var : Var). record { name = var.name.text; kind = kind_of_var text var }) method.params)
      (params_mean text id.class method.params both.0) method.body)
      ∙ both.1

  has_words : BlockHasWords method.body
  has_words =
      all_at (λ (m : Procedure). BlockHasWords m.body) (class_at text id.class).methods id.method method
      (all_at (λ (c : ClassText). All (λ (m : Procedure). BlockHasWords m.body) c.methods) text.classes id.class
      (class_at text id.class) (program_words text accepted.limits.numbers) class_is) there

  is_plain : IsPlain method.body
  is_plain =
      all_at (λ (m : Procedure). IsPlain m.body) (class_at text id.class).methods id.method method
      (all_at (λ (c : ClassText). All (λ (m : Procedure). IsPlain m.body) c.methods) text.classes id.class
      (class_at text id.class) (program_plain text accepted) class_is) there

  pub stands_in : StandsIn begun method.body
  stands_in =
      let small = method_small text accepted id.class id.method method inside there in
      subst (λ (vars : List Var). StandsIn (record { program = program; method = id; variables = vars }) method.body)
      (sym params_are) (record {
        rules = rules;
        has_words = has_words;
        plain = is_plain;
        small = small.statements;
        places = body_places text id.class id.method (class_at text id.class) method class_is there
            accepted.limits.places;
        room = (let a = small.parameters in let b = small.locals_nested in omega arith);
      })
