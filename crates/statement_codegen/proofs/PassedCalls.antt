-- What the rules of types say of a call that they pass: its class has the method, and its arguments
-- are variables of the types of the parameters, no two of one name.
use Rattle.std.proofs.Common.{◌≡◌, ℕ, ◌<◌, Bool, true, List, [], ◌∷◌, length, map, Option, Some, None, refl, sym, ap}
use Rattle.std.proofs.Common.{◌∙◌, arith}
use Rattle.std.proofs.lemmas.Bool.{eqb-true}
use Rattle.std.specs.Prelude.{nat_eq, is_some, Ok}
use Rattle.std.specs.Option.{unwrap_or, is_none, ok_or}
use Rattle.refine_objects.specs.rpp_tree.declared.tree.Ident.{Ident}
use Rattle.refine_objects.specs.rpp_tree.declared.tree.Var.{Var}
use Rattle.refine_objects.specs.rpp_tree.Tree.{Lvalue, Whole, Source}
use Rattle.branch_codegen.specs.class_rules.declared.kind.Kind.{Kind}
use Rattle.branch_codegen.specs.class_rules.declared.kind.Kind.TheVariants as kind
use Rattle.branch_codegen.specs.class_rules.Overrides.{parameters_of}
use Rattle.branch_codegen.specs.class_rules.Table.{Table, table_of, slot_in, dispatch_in}
use Rattle.branch_codegen.specs.class_rules.Refusal.{unknown_name, type_differs, wrong_arity}
use Rattle.branch_codegen.specs.class_rules.Scope.{Typing, Locals, kind_of, kind_in}
use Rattle.branch_codegen.specs.class_rules.Inheritance.{kind_of_var}
use Rattle.branch_codegen.specs.class_rules.Expressions.{then_checked, variable_type}
use Rattle.branch_codegen.specs.class_rules.Statements.{verdict_passed, required, each_passes, each_passes_after}
use Rattle.branch_codegen.specs.class_rules.Statements.{argument_known, argument_new}
use Rattle.branch_codegen.specs.class_rules.Statements.{argument_fits, arguments_fit, receiver_kind, place_class}
use Rattle.branch_codegen.specs.class_rules.Statements.{receiver_class}
use Rattle.branch_codegen.specs.class_rules.Statements.{plain_receiver, slot_rules, call_rules}
use Rattle.branch_codegen.proofs.class_rules_laws.PassedRules.{both_passed, held, handed_on, kinds_same}
use Rattle.branch_codegen.proofs.class_rules_laws.FoundMethods.{slot_inside}
use Rattle.refine_form.specs.Form.{Scope}
use Rattle.refine_form.specs.Stands.{shape_of}
use Rattle.branch_codegen.specs.method_calls.Names.{AllTyped}
use Rattle.branch_codegen.specs.refine_expressions.Typing.{typing_in}

a_kind : (o : Option Kind) → is_some o ≡ true → o ≡ Some (unwrap_or o kind.Nil)
a_kind None h = absurd (cc)
a_kind (Some k) h = refl

class_kind_is : (at : ℕ) (x : Ident) (k : Kind) (class : ℕ)
    → then_checked (receiver_kind at k) (place_class at (Whole x)) ≡ Ok class → k ≡ kind.Class class
class_kind_is at x kind.Int class h = absurd (cc)
class_kind_is at x kind.Nil class h = absurd (cc)
class_kind_is at x (kind.Class c) class h = let e : c ≡ class = cc in ap kind.Class e
class_kind_is at x kind.IntArray class h = absurd (cc)
class_kind_is at x (kind.ClassArray c) class h = absurd (cc)

module _ (program : Source) (s : Scope) where
  abbrev table : Table
  table = table_of program

  abbrev typing : Typing
  typing = typing_in program s

  abbrev shape : Locals
  shape = shape_of program s

  all_typed : (own : Bool) (at : ℕ) (params : List Var) (args : List Ident)
      → each_passes (argument_known typing shape own at) args ≡ verdict_passed
      → arguments_fit typing shape params args ≡ verdict_passed
      → length args ≡ length params → AllTyped program s args (map (kind_of_var program) params)
  all_typed own at [] [] h f l = tt
  all_typed own at [] (a ∷ args) h f l = absurd (omega arith)
  all_typed own at (p ∷ params) [] h f l = absurd (omega arith)
  all_typed own at (p ∷ params) (a ∷ args) h f l =
      let both = both_passed (argument_known typing shape own at a)
      (each_passes (argument_known typing shape own at) args) h in
      let known = both_passed (required (is_some (kind_in typing shape a.text)) (unknown_name a.at)) _ both.0 in
      let fit = both_passed (argument_fits typing shape p a) (arguments_fit typing shape params args) f in
      let same = kinds_same (kind_of table p.kind) (unwrap_or (kind_in typing shape a.text) kind.Nil)
      (held _ (type_differs a.at) fit.0) in
      let is : kind_in typing shape a.text ≡ Some (kind_of_var program p) =
      a_kind (kind_in typing shape a.text) (held _ (unknown_name a.at) known.0) ∙ ap (λ z. Some z) (sym same) in
      (ap (λ o. ok_or o (unknown_name a.at)) is, all_typed own at params args both.1 fit.1 (omega arith))

  -- a method of a class, and arguments
  pub record PassedCall (before : List Ident) (class : ℕ) (method : Ident) (args : List Ident) : Type 0 where
    pub slot : ℕ
    pub is_slot : slot_in table class method.text ≡ Some slot
    pub inside : class < length program.classes
    pub types : AllTyped program s args (map (kind_of_var program)
        (parameters_of program (dispatch_in table class slot)))
    pub new : each_passes_after argument_new before args ≡ verdict_passed

  pub passed_call : (at : ℕ) (receiver : Option Lvalue) (method : Ident) (args : List Ident) (class : ℕ)
      → slot_rules typing shape at receiver method args class (slot_in table class method.text) ≡ verdict_passed
      → PassedCall (plain_receiver receiver) class method args
  passed_call at receiver method args class h = by (slot_in table class method.text) refl h
    where
      by : (o : Option ℕ) → slot_in table class method.text ≡ o
          → slot_rules typing shape at receiver method args class o ≡ verdict_passed
          → PassedCall (plain_receiver receiver) class method args
      by None e q = absurd (cc)
      by (Some slot) e q =
          let params = parameters_of program (dispatch_in table class slot) in
          let a = both_passed (each_passes (argument_known typing shape (is_none receiver) at) args) _ q in
          let b = both_passed (each_passes_after argument_new (plain_receiver receiver) args) _ a.1 in
          let c = both_passed (required (nat_eq (length args) (length params)) (wrong_arity method.at))
          (arguments_fit typing shape params args) b.1 in
          record {
            slot = slot;
            is_slot = e;
            inside = slot_inside program class slot method.text e;
            types = all_typed (is_none receiver) at params args a.0 c.1
                (eqb-true (length args) (length params) (held _ (wrong_arity method.at) c.0));
            new = b.0;
          }

  -- a receiver, and the call
  pub record PassedReceiver (x method : Ident) (args : List Ident) : Type 0 where
    pub class : ℕ
    pub typed : variable_type typing shape x ≡ Ok (kind.Class class)
    pub call : PassedCall (x ∷ []) class method args

  pub passed_receiver : (at : ℕ) (x method : Ident) (args : List Ident)
      → call_rules typing shape at (Some (Whole x)) method args ≡ verdict_passed → PassedReceiver x method args
  passed_receiver at x method args h =
      let c = handed_on (receiver_class typing shape (Some (Whole x))) _ tt h in
      let k = handed_on (variable_type typing shape x) _ c.value c.is in
      record {
        class = c.value;
        typed = k.is ∙ ap (λ z. Ok z) (class_kind_is x.at x k.value c.value k.goes);
        call = passed_call at (Some (Whole x)) method args c.value c.goes;
      }
