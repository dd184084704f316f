-- What is known about the statements of a block, and about the blocks of a statement.
use Rattle.std.proofs.Common.{ℕ, List, [], ◌∷◌, ◌++◌, length, refl, subst, arith}
use Rattle.std.specs.Prelude.{All}
use Rattle.std.proofs.lemmas.List.{take_at, drop_at}
use Rattle.std.proofs.lemmas.List.Elements.{All-take, All-drop}
use Rattle.refine_objects.specs.rpp_tree.declared.tree.Ident.{Ident}
use Rattle.refine_objects.specs.rpp_tree.declared.tree.Var.{Var}
use Rattle.refine_objects.specs.rpp_tree.declared.tree.VarType.TheVariants as type
use Rattle.refine_objects.specs.rpp_tree.Tree.{Expression, Statement, Statements, Update, If, From, Construct, Local, Then}
use Rattle.refine_objects.specs.rpp_tree.Places.{statement_place}
use Rattle.refine_objects.specs.rpp_tree.Views.{source_of}
use Rattle.refine_objects.specs.rpp_tree.Parts.{expression_places, var_places, statement_places, block_places}
use Rattle.branch_codegen.specs.class_rules.Scope.{Typing, Locals}
use Rattle.branch_codegen.specs.class_rules.Statements.{test_rules, local_rules, construct_rules, with_local}
use Rattle.branch_codegen.specs.class_rules.Statements.{with_object}
use Rattle.branch_codegen.specs.class_rules.Statements.{check_statement, check_statements}
use Rattle.branch_codegen.proofs.class_rules_laws.PassedRules.{both_passed}
use Rattle.refine_form.specs.Stands.{shape_of}
use Rattle.branch_codegen.specs.code_scope.Visible.{Visible}
use Rattle.branch_codegen.specs.refine_expressions.Typing.{typing_in}
use Rattle.statement_codegen.specs.Codes.{scope_of, with_variable}
use Rattle.statement_codegen.specs.Pieces.{IsSourceOffset, StatementStands, StandsIn}

-- ---- parts of what holds for all

pub left : {A : Type 0} (P : A → Type 0) (xs ys : List A) → All P (xs ++ ys) → All P xs
left P xs ys all = subst (All P) (take_at xs ys (length xs) refl) (All-take P (length xs) (xs ++ ys) all)

pub right : {A : Type 0} (P : A → Type 0) (xs ys : List A) → All P (xs ++ ys) → All P ys
right P xs ys all = subst (All P) (drop_at xs ys (length xs) refl) (All-drop P (length xs) (xs ++ ys) all)

pub own_place : (x : Statement) → All IsSourceOffset (statement_places x) → IsSourceOffset (statement_place x)
own_place (Update at op target value) all = all 0 0 (omega arith)
own_place _ all = all 0 0 (omega arith)

-- the places of two blocks between others
first_of_two : (before one two after : List ℕ) → All IsSourceOffset (before ++ one ++ two ++ after)
    → All IsSourceOffset one
first_of_two before one two after all = right IsSourceOffset before one
    (left IsSourceOffset (before ++ one) two (left IsSourceOffset (before ++ one ++ two) after all))

second_of_two : (before one two after : List ℕ) → All IsSourceOffset (before ++ one ++ two ++ after)
    → All IsSourceOffset two
second_of_two before one two after all = right IsSourceOffset (before ++ one) two
    (left IsSourceOffset (before ++ one ++ two) after all)

-- ---- the parts

module _ (v : Visible) where
  abbrev typing : Typing
  typing = typing_in (source_of v.program) (scope_of v)

  abbrev shape : Locals
  shape = shape_of (source_of v.program) (scope_of v)

  pub first_stands : (first : Statement) (rest : Statements) → StandsIn v (Then first rest) → StatementStands v first
  first_stands first rest h = record {
    allowed = record {
      rules = (both_passed (check_statement typing shape first) (check_statements typing shape rest) h.rules).0;
      has_words = h.has_words.0;
      few_nodes = h.small.0.nodes;
      few_locals = let r = h.room in omega (arith, r);
    };
    plain = h.plain.0;
    inner_small = h.small.1;
    places = left IsSourceOffset (statement_places first) (block_places rest) h.places;
  }

  pub rest_stands : (first : Statement) (rest : Statements) → StandsIn v (Then first rest) → StandsIn v rest
  rest_stands first rest h = record {
    rules = (both_passed (check_statement typing shape first) (check_statements typing shape rest) h.rules).1;
    has_words = h.has_words.1;
    plain = h.plain.1;
    small = h.small.2;
    places = right IsSourceOffset (statement_places first) (block_places rest) h.places;
    room = let r = h.room in omega (arith, r);
  }

  -- the two blocks of a conditional
  pub taken_stands : (at : ℕ) (test : Expression) (taken other : Statements) (after : Expression)
      → StatementStands v (If at test taken other after) → StandsIn v taken
  taken_stands at test taken other after h = record {
    rules = (both_passed (check_statements typing shape taken) (check_statements typing shape other)
        (both_passed (test_rules typing shape test after) _ h.allowed.rules).1).0;
    has_words = h.allowed.has_words.1;
    plain = h.plain.1;
    small = h.inner_small.0;
    places = first_of_two (at ∷ expression_places test) (block_places taken) (block_places other)
        (expression_places after) h.places;
    room = let r = h.allowed.few_locals in omega (arith, r);
  }

  pub other_stands : (at : ℕ) (test : Expression) (taken other : Statements) (after : Expression)
      → StatementStands v (If at test taken other after) → StandsIn v other
  other_stands at test taken other after h = record {
    rules = (both_passed (check_statements typing shape taken) (check_statements typing shape other)
        (both_passed (test_rules typing shape test after) _ h.allowed.rules).1).1;
    has_words = h.allowed.has_words.2;
    plain = h.plain.2;
    small = h.inner_small.1;
    places = second_of_two (at ∷ expression_places test) (block_places taken) (block_places other)
        (expression_places after) h.places;
    room = let r = h.allowed.few_locals in omega (arith, r);
  }

  -- those of a loop
  pub entered_stands : (at : ℕ) (entry : Expression) (first again : Statements) (exit : Expression)
      → StatementStands v (From at entry first again exit) → StandsIn v first
  entered_stands at entry first again exit h = record {
    rules = (both_passed (check_statements typing shape first) (check_statements typing shape again)
        (both_passed (test_rules typing shape entry exit) _ h.allowed.rules).1).0;
    has_words = h.allowed.has_words.1;
    plain = h.plain.1;
    small = h.inner_small.0;
    places = first_of_two (at ∷ expression_places entry) (block_places first) (block_places again)
        (expression_places exit) h.places;
    room = let r = h.allowed.few_locals in omega (arith, r);
  }

  pub repeated_stands : (at : ℕ) (entry : Expression) (first again : Statements) (exit : Expression)
      → StatementStands v (From at entry first again exit) → StandsIn v again
  repeated_stands at entry first again exit h = record {
    rules = (both_passed (check_statements typing shape first) (check_statements typing shape again)
        (both_passed (test_rules typing shape entry exit) _ h.allowed.rules).1).1;
    has_words = h.allowed.has_words.2;
    plain = h.plain.2;
    small = h.inner_small.1;
    places = second_of_two (at ∷ expression_places entry) (block_places first) (block_places again)
        (expression_places exit) h.places;
    room = let r = h.allowed.few_locals in omega (arith, r);
  }

  -- the block of a local variable
  pub inside_stands : (at : ℕ) (var : Var) (value : Expression) (body : Statements) (end_var : Var)
      (end_value : Expression) → StatementStands v (Local at var value body end_var end_value)
      → StandsIn (with_variable v var) body
  inside_stands at var value body end_var end_value h = record {
    rules = (both_passed (local_rules typing shape at var value end_var end_value)
        (check_statements typing (with_local typing shape var) body) h.allowed.rules).1;
    has_words = h.allowed.has_words.1;
    plain = h.plain.1;
    small = h.inner_small;
    places =
        right IsSourceOffset (at ∷ var_places var ++ expression_places value) (block_places body)
        (left IsSourceOffset (at ∷ var_places var ++ expression_places value ++ block_places body) (var_places end_var)
        (left IsSourceOffset (at ∷ var_places var ++ expression_places value ++ block_places body ++ var_places end_var)
        (expression_places end_value) h.places));
    room = let r = h.allowed.few_locals in omega (arith, r);
  }

  -- the block of an object that is constructed
  pub constructed_stands : (at : ℕ) (class name : Ident) (body : Statements) (end : Ident)
      → StatementStands v (Construct at class name body end)
      → StandsIn (with_variable v (record { kind = type.Class class; name = name })) body
  constructed_stands at class name body end h = record {
    rules = (both_passed (construct_rules typing shape class name end)
        (check_statements typing (with_object typing shape class name) body) h.allowed.rules).1;
    has_words = h.allowed.has_words;
    plain = h.plain;
    small = h.inner_small;
    places = right IsSourceOffset (at ∷ class.at ∷ name.at ∷ []) (block_places body)
        (left IsSourceOffset (at ∷ class.at ∷ name.at ∷ block_places body) (end.at ∷ []) h.places);
    room = let r = h.allowed.few_locals in omega (arith, r);
  }
