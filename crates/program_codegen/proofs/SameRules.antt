-- The rules of types pass the same statements under two lists of variables in which names mean the same.
use Rattle.std.proofs.Common.{◌≡◌, ◌∙◌, ap, refl, ℕ, Bool, List, [], ◌∷◌, length, Option, Some, None}
use Rattle.std.specs.Prelude.{Result, Ok, Err, nat_eq}
use Rattle.std.specs.Option.{option_or, ok_or, unwrap_or, is_none}
use Rattle.refine_program.specs.rpp_tree.declared.tree.Ident.{Ident}
use Rattle.refine_program.specs.rpp_tree.declared.tree.Var.{Var}
use Rattle.refine_program.specs.rpp_tree.declared.tree.VarType.{VarType}
use Rattle.refine_program.specs.rpp_tree.Places.{place_name}
use Rattle.refine_program.specs.rpp_tree.Tree.{Expression, Number, Null, Variable, Element, Binary, Lvalue, Whole, Item, Creation}
use Rattle.refine_program.specs.rpp_tree.Tree.{Object, Ints, Objects, Statement, Statements, Update, Swap, If, From, Construct, Local}
use Rattle.refine_program.specs.rpp_tree.Tree.{New, Delete, Copy, Uncopy, Call, Skip, End, Then}
use Rattle.refine_program.specs.class_rules.declared.kind.Kind.TheVariants as kind
use Rattle.refine_program.specs.class_rules.Overrides.{parameters_of}
use Rattle.refine_program.specs.class_rules.Refusal.{Refusal, unknown_name, type_differs, wrong_arity}
use Rattle.refine_program.specs.class_rules.Scope.{Typing, Locals, kind_of, local_kind, field_kind, kind_in, class_kind}
use Rattle.refine_program.specs.class_rules.Table.{class_of, slot_in, dispatch_in}
use Rattle.refine_program.specs.class_rules.Expressions.{then_checked, is_int, type_of, place_type, variable_type, element_kind_of}
use Rattle.refine_program.specs.class_rules.Expressions.{operator_type, index_is_int, first_token}
use Rattle.refine_program.specs.class_rules.Statements.{Verdict, required, in_turn, each_passes, each_passes_after, same_kind}
use Rattle.refine_program.specs.class_rules.Statements.{update_rules, swap_rules, test_rules, local_rules, length_is_int, make_rules}
use Rattle.refine_program.specs.class_rules.Statements.{construct_rules, copy_rules, argument_known, argument_new, argument_fits}
use Rattle.refine_program.specs.class_rules.Statements.{arguments_fit, receiver_kind, place_class, receiver_class, plain_receiver}
use Rattle.refine_program.specs.class_rules.Statements.{slot_rules, call_rules, check_statement, check_statements}
use Rattle.refine_program.specs.meaning_sound.Kept.{MeansSame}
use Rattle.refine_program.proofs.meaning_sound_laws.Locals.{means_under}

-- ---- expressions

module _ (setting : Typing) (locals shape : Locals) (means : MeansSame locals shape) where
  local_same : (name : List ℕ) → local_kind locals name ≡ local_kind shape name
  local_same name = means.same name

  kind_same : (name : List ℕ) → kind_in setting locals name ≡ kind_in setting shape name
  kind_same name = ap (λ z. option_or z (field_kind setting.table setting.class name)) (means.same name)

  variable_same : (name : Ident) → variable_type setting locals name ≡ variable_type setting shape name
  variable_same name = ap (λ z. ok_or z (unknown_name name.at)) (kind_same name.text)

  type_same : (e : Expression) → type_of setting locals e ≡ type_of setting shape e
  type_same (Number at word) = refl
  type_same (Null at) = refl
  type_same (Variable name) = variable_same name
  type_same (Element name index) =
      ap (λ z. then_checked z (λ array. then_checked (element_kind_of name array)
      (λ element. then_checked (type_of setting locals index) (index_is_int element (first_token index)))))
      (variable_same name)
      ∙ ap (λ z. then_checked (variable_type setting shape name)
      (λ array. then_checked (element_kind_of name array) (λ element. then_checked z
      (index_is_int element (first_token index))))) (type_same index)
  type_same (Binary at operator left right) =
      ap (λ z. then_checked z (λ a. then_checked (type_of setting locals right)
      (λ b. operator_type setting.table at operator a b))) (type_same left)
      ∙ ap (λ z. then_checked (type_of setting shape left) (λ a. then_checked z
      (λ b. operator_type setting.table at operator a b))) (type_same right)

  place_same : (place : Lvalue) → place_type setting locals place ≡ place_type setting shape place
  place_same (Whole name) = variable_same name
  place_same (Item name index) = type_same (Element name index)

  -- ---- the rules of single statements

  update_same : (at : ℕ) (place : Lvalue) (value : Expression)
      → update_rules setting locals at place value ≡ update_rules setting shape at place value
  update_same at place value = rw (place_same place, type_same value) refl

  swap_same : (at : ℕ) (left right : Lvalue) → swap_rules setting locals at left right
      ≡ swap_rules setting shape at left right
  swap_same at left right = rw (place_same left, place_same right) refl

  tests_same : (first last : Expression) → test_rules setting locals first last ≡ test_rules setting shape first last
  tests_same first last = rw (type_same first, type_same last) refl

  local_rules_same : (at : ℕ) (var : Var) (value : Expression) (end_var : Var) (end_value : Expression)
      → local_rules setting locals at var value end_var end_value
      ≡ local_rules setting shape at var value end_var end_value
  local_rules_same at var value end_var end_value = rw (local_same var.name.text, type_same value, type_same end_value)
      refl

  length_same : (made : Creation) → length_is_int setting locals made ≡ length_is_int setting shape made
  length_same (Object class) = refl
  length_same (Ints length) = ap (λ z. then_checked z (λ l. Ok (is_int l))) (type_same length)
  length_same (Objects class length) = ap (λ z. then_checked z (λ l. Ok (is_int l))) (type_same length)

  make_same : (at : ℕ) (made : Creation) (place : Lvalue)
      → make_rules setting locals at made place ≡ make_rules setting shape at made place
  make_same at made place = rw (place_same place, length_same made) refl

  construct_same : (class name end : Ident) → construct_rules setting locals class name end
      ≡ construct_rules setting shape class name end
  construct_same class name end = rw (local_same name.text) refl

  copy_same : (at : ℕ) (written : VarType) (source target : Lvalue)
      → copy_rules setting locals at written source target ≡ copy_rules setting shape at written source target
  copy_same at written source target = rw (place_same source, place_same target) refl

  -- ---- calls

  each_same : {A : Type 0} (f g : A → Verdict) → ((x : A) → f x ≡ g x) → (xs : List A)
      → each_passes f xs ≡ each_passes g xs
  each_same f g same [] = refl
  each_same f g same (x ∷ xs) = ap (λ z. in_turn z (each_passes f xs)) (same x)
      ∙ ap (in_turn (g x)) (each_same f g same xs)

  argument_same : (own : Bool) (at : ℕ) (argument : Ident)
      → argument_known setting locals own at argument ≡ argument_known setting shape own at argument
  argument_same own at argument = rw (kind_same argument.text, local_same argument.text) refl

  fits_same : (parameter : Var) (argument : Ident) → argument_fits setting locals parameter argument
      ≡ argument_fits setting shape parameter argument
  fits_same parameter argument =
      ap (λ z. required (same_kind (kind_of setting.table parameter.kind) (unwrap_or z kind.Nil))
      (type_differs argument.at)) (kind_same argument.text)

  arguments_same : (parameters : List Var) (arguments : List Ident)
      → arguments_fit setting locals parameters arguments ≡ arguments_fit setting shape parameters arguments
  arguments_same [] arguments = refl
  arguments_same (parameter ∷ parameters) [] = refl
  arguments_same (parameter ∷ parameters) (argument ∷ arguments) =
      ap (λ z. in_turn z (arguments_fit setting locals parameters arguments)) (fits_same parameter argument)
      ∙ ap (in_turn (argument_fits setting shape parameter argument)) (arguments_same parameters arguments)

  receiver_same : (receiver : Option Lvalue) → receiver_class setting locals receiver
      ≡ receiver_class setting shape receiver
  receiver_same None = refl
  receiver_same (Some place) =
      ap (λ z. then_checked z (λ k. then_checked (receiver_kind (place_name place).at k)
      (place_class (place_name place).at place))) (place_same place)

  slot_same : (at : ℕ) (receiver : Option Lvalue) (method : Ident) (arguments : List Ident) (class : ℕ)
      (slot : Option ℕ)
      → slot_rules setting locals at receiver method arguments class slot
      ≡ slot_rules setting shape at receiver method arguments class slot
  slot_same at receiver method arguments class None = refl
  slot_same at receiver method arguments class (Some slot) =
      let parameters = parameters_of setting.program (dispatch_in setting.table class slot) in
      ap (λ z. in_turn z (in_turn (each_passes_after argument_new (plain_receiver receiver) arguments)
      (in_turn (required (nat_eq (length arguments) (length parameters)) (wrong_arity method.at))
      (arguments_fit setting locals parameters arguments))))
      (each_same (argument_known setting locals (is_none receiver) at)
      (argument_known setting shape (is_none receiver) at) (argument_same (is_none receiver) at) arguments)
      ∙ ap (λ z. in_turn (each_passes (argument_known setting shape (is_none receiver) at) arguments)
      (in_turn (each_passes_after argument_new (plain_receiver receiver) arguments)
      (in_turn (required (nat_eq (length arguments) (length parameters)) (wrong_arity method.at)) z)))
      (arguments_same parameters arguments)

  call_same : (at : ℕ) (receiver : Option Lvalue) (method : Ident) (arguments : List Ident)
      → call_rules setting locals at receiver method arguments ≡ call_rules setting shape at receiver method arguments
  call_same at receiver method arguments =
      ap (λ z. then_checked z (λ class. slot_rules setting locals at receiver method arguments class
      (slot_in setting.table class method.text))) (receiver_same receiver)
      ∙ by (receiver_class setting shape receiver)
    where
      by : (r : Result ℕ Refusal) → then_checked r (λ class. slot_rules setting locals at receiver method arguments class
          (slot_in setting.table class method.text)) ≡ then_checked r
          (λ class. slot_rules setting shape at receiver method arguments class
          (slot_in setting.table class method.text))
      by (Ok class) = slot_same at receiver method arguments class (slot_in setting.table class method.text)
      by (Err e) = refl

-- ---- statements and blocks

module _ (setting : Typing) where
  mutual
    pub statement_same : (locals shape : Locals) → MeansSame locals shape → (s : Statement)
        → check_statement setting locals s ≡ check_statement setting shape s
    statement_same locals shape means (Update at op target value) =
        update_same setting locals shape means at target value
    statement_same locals shape means (Swap at left right) = swap_same setting locals shape means at left right
    statement_same locals shape means (If at test taken other after) =
        ap (λ z. in_turn z (in_turn (check_statements setting locals taken) (check_statements setting locals other)))
        (tests_same setting locals shape means test after)
        ∙ ap (λ z. in_turn (test_rules setting shape test after) (in_turn z (check_statements setting locals other)))
        (block_same locals shape means taken)
        ∙ ap (λ z. in_turn (test_rules setting shape test after) (in_turn (check_statements setting shape taken) z))
        (block_same locals shape means other)
    statement_same locals shape means (From at entry first again exit) =
        ap (λ z. in_turn z (in_turn (check_statements setting locals first) (check_statements setting locals again)))
        (tests_same setting locals shape means entry exit)
        ∙ ap (λ z. in_turn (test_rules setting shape entry exit) (in_turn z (check_statements setting locals again)))
        (block_same locals shape means first)
        ∙ ap (λ z. in_turn (test_rules setting shape entry exit) (in_turn (check_statements setting shape first) z))
        (block_same locals shape means again)
    statement_same locals shape means (Construct at class name body end) =
        let l : Rattle.refine_program.specs.class_rules.Scope.Local = record
        { name = name.text; kind = class_kind (class_of setting.table class.text) } in
        ap (λ z. in_turn z (check_statements setting (l ∷ locals) body))
        (construct_same setting locals shape means class name end)
        ∙ ap (in_turn (construct_rules setting shape class name end))
        (block_same (l ∷ locals) (l ∷ shape) (means_under l locals shape means) body)
    statement_same locals shape means (Local at var value body end_var end_value) =
        let l : Rattle.refine_program.specs.class_rules.Scope.Local = record
        { name = var.name.text; kind = kind_of setting.table var.kind } in
        ap (λ z. in_turn z (check_statements setting (l ∷ locals) body))
        (local_rules_same setting locals shape means at var value end_var end_value)
        ∙ ap (in_turn (local_rules setting shape at var value end_var end_value))
        (block_same (l ∷ locals) (l ∷ shape) (means_under l locals shape means) body)
    statement_same locals shape means (New at made target) = make_same setting locals shape means at made target
    statement_same locals shape means (Delete at made target) = make_same setting locals shape means at made target
    statement_same locals shape means (Copy at written source target) =
        copy_same setting locals shape means at written source target
    statement_same locals shape means (Uncopy at written source target) =
        copy_same setting locals shape means at written source target
    statement_same locals shape means (Call at back receiver method args) =
        call_same setting locals shape means at receiver method args
    statement_same locals shape means (Skip at) = refl

    pub block_same : (locals shape : Locals) → MeansSame locals shape → (block : Statements)
        → check_statements setting locals block ≡ check_statements setting shape block
    block_same locals shape means End = refl
    block_same locals shape means (Then first rest) =
        ap (λ z. in_turn z (check_statements setting locals rest)) (statement_same locals shape means first)
        ∙ ap (in_turn (check_statement setting shape first)) (block_same locals shape means rest)
