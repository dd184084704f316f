-- The rules of types refuse nothing of an inverse program if they refuse nothing of the program.
use Rattle.std.proofs.Common.{◌≡◌, ℕ, ◌+◌, refl, sym, ap, ◌∙◌, false, List, [], ◌∷◌, map, Option, Some, None}
use Rattle.std.proofs.Math.Path.{fun_ext}
use Rattle.std.specs.Prelude.{nat_eq, length}
use Rattle.std.specs.Option.{is_none}
use Rattle.meaning_reached.specs.rpp_tree.declared.tree.Ident.{Ident}
use Rattle.meaning_reached.specs.rpp_tree.Tree.{Lvalue, Statement, Statements, Update, If, From, Construct, Local, Call, End, Then}
use Rattle.meaning_reached.specs.rpp_tree.Tree.{Procedure, ClassText, Source}
use Rattle.meaning_reached.specs.class_rules.Scope.{Typing, Locals}
use Rattle.meaning_reached.specs.class_rules.Refusal.{wrong_arity}
use Rattle.meaning_reached.specs.class_rules.Table.{Table, table_of, slot_in, dispatch_in}
use Rattle.meaning_reached.specs.class_rules.Expressions.{then_checked}
use Rattle.meaning_reached.specs.class_rules.Statements.{verdict_passed, required, in_turn, each_passes, each_passes_after, test_rules}
use Rattle.meaning_reached.specs.class_rules.Statements.{local_rules, construct_rules, with_local, with_object, argument_known}
use Rattle.meaning_reached.specs.class_rules.Statements.{argument_new, arguments_fit, plain_receiver, receiver_class, slot_rules}
use Rattle.meaning_reached.specs.class_rules.Statements.{call_rules, check_statement, check_statements}
use Rattle.meaning_reached.specs.class_rules.Program.{parameter_new, with_parameters, check_method, check_class, check_classes}
use Rattle.meaning_reached.specs.class_rules.Program.{IsAccepted}
use Rattle.meaning_reached.proofs.class_rules_laws.PassedRules.{both_passed, in_turn_passes}
use Rattle.meaning_reached.specs.inverse_rules.Inverse.{inverse_as, inverse_procedure, inverse_class, inverse_program}
use Rattle.meaning_reached.proofs.meaning_sound_laws.Undone.{inverse_checks}
use Rattle.meaning_inverse.proofs.SameTable.{table_kept, has_table, parameters_kept}
use Rattle.meaning_inverse.proofs.SameLimits.{within_limits}
use Rattle.meaning_inverse.proofs.Turned.{turned_inverse, checks_turned}

module _ (program : Source) (table : Table) (class : ℕ) where
  abbrev here : Typing
  here = record { program = program; table = table; class = class }

  abbrev there : Typing
  there = record { program = inverse_program program; table = table; class = class }

  slots_same : (locals : Locals) (at : ℕ) (receiver : Option Lvalue) (method : Ident) (args : List Ident) (own : ℕ)
      (slot : Option ℕ) → slot_rules there locals at receiver method args own slot
      ≡ slot_rules here locals at receiver method args own slot
  slots_same locals at receiver method args own None = refl
  slots_same locals at receiver method args own (Some slot) =
      ap (λ parameters. in_turn (each_passes (argument_known here locals (is_none receiver) at) args)
      (in_turn (each_passes_after argument_new (plain_receiver receiver) args)
      (in_turn (required (nat_eq (length args) (length parameters)) (wrong_arity method.at))
      (arguments_fit here locals parameters args))))
      (parameters_kept program (dispatch_in table own slot))

  calls_same : (locals : Locals) (at : ℕ) (receiver : Option Lvalue) (method : Ident) (args : List Ident)
      → call_rules there locals at receiver method args ≡ call_rules here locals at receiver method args
  calls_same locals at receiver method args =
      ap (λ k. then_checked (receiver_class here locals receiver) k)
      (fun_ext (λ own. slots_same locals at receiver method args own (slot_in table own method.text)))

  mutual
    statement_same : (locals : Locals) (s : Statement) → check_statement there locals s ≡ check_statement here locals s
    statement_same locals (Update at op target value) = refl
    statement_same locals (If at test taken other after) =
        ap (λ r. in_turn (test_rules here locals test after) (in_turn r (check_statements there locals other)))
        (statements_same locals taken)
        ∙ ap (λ r. in_turn (test_rules here locals test after) (in_turn (check_statements here locals taken) r))
        (statements_same locals other)
    statement_same locals (From at entry first again exit) =
        ap (λ r. in_turn (test_rules here locals entry exit) (in_turn r (check_statements there locals again)))
        (statements_same locals first)
        ∙ ap (λ r. in_turn (test_rules here locals entry exit) (in_turn (check_statements here locals first) r))
        (statements_same locals again)
    statement_same locals (Construct at named name body end) =
        ap (λ r. in_turn (construct_rules here locals named name end) r)
        (statements_same (with_object here locals named name) body)
    statement_same locals (Local at var value body end_var end_value) =
        ap (λ r. in_turn (local_rules here locals at var value end_var end_value) r)
        (statements_same (with_local here locals var) body)
    statement_same locals (Call at back receiver method args) = calls_same locals at receiver method args
    statement_same locals _ = refl

    statements_same : (locals : Locals) (b : Statements) → check_statements there locals b
        ≡ check_statements here locals b
    statements_same locals End = refl
    statements_same locals (Then s b) =
        ap (λ r. in_turn r (check_statements there locals b)) (statement_same locals s)
        ∙ ap (in_turn (check_statement here locals s)) (statements_same locals b)

  method_passes : (method : Procedure) → check_method here method ≡ verdict_passed
      → check_method there (inverse_procedure method) ≡ verdict_passed
  method_passes method h =
      let locals = with_parameters here [] method.params in
      let both = both_passed (each_passes_after parameter_new [] method.params)
      (check_statements here locals method.body) h in
      in_turn_passes (each_passes_after parameter_new [] method.params)
      (check_statements there locals (inverse_as false method.body)) both.0
      (statements_same locals (inverse_as false method.body)
      ∙ sym (checks_turned here locals (inverse_as false method.body))
      ∙ ap (check_statements here locals) (turned_inverse method.body)
      ∙ inverse_checks here locals method.body both.1)

  methods_pass : (methods : List Procedure) → each_passes (check_method here) methods ≡ verdict_passed
      → each_passes (check_method there) (map inverse_procedure methods) ≡ verdict_passed
  methods_pass [] h = refl
  methods_pass (method ∷ methods) h =
      let both = both_passed (check_method here method) (each_passes (check_method here) methods) h in
      in_turn_passes (check_method there (inverse_procedure method)) _ (method_passes method both.0)
      (methods_pass methods both.1)

classes_pass : (program : Source) (table : Table) (number : ℕ) (classes : List ClassText)
    → check_classes program table number classes ≡ verdict_passed
    → check_classes (inverse_program program) table number (map inverse_class classes) ≡ verdict_passed
classes_pass program table number [] h = refl
classes_pass program table number (class ∷ classes) h =
    let both = both_passed (check_class program table number class) (check_classes program table (number + 1) classes) h
    in
    in_turn_passes (check_class (inverse_program program) table number (inverse_class class)) _
    (methods_pass program table number class.methods both.0)
    (classes_pass program table (number + 1) classes both.1)

-- the inverse program of an accepted program is accepted
pub inverse_accepted : (program : Source) → IsAccepted program → IsAccepted (inverse_program program)
inverse_accepted program accepted =
    record {
      limits = within_limits program accepted.limits;
      classes = has_table program accepted.classes;
      types = ap (λ table. check_classes (inverse_program program) table 0 (inverse_program program).classes)
          (table_kept program) ∙ classes_pass program (table_of program) 0 program.classes accepted.types;
    }
