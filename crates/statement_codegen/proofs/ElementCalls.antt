-- The code of a call on an element that the rules of types pass, wherever an image of the program
-- is linked.
use Rattle.std.proofs.Common.{◌≡◌, ℕ, suc, ◌+◌, ◌<◌, ◌≤◌, inr, Bool, List, [], ◌∷◌, ◌++◌, length, Option, Some, None}
use Rattle.std.proofs.Common.{refl, sym, ap, ◌∙◌, subst, arith, append-nil, ◌*◌, length-append}
use Rattle.std.specs.Prelude.{Result, Ok, Err, IfOk, Box}
use Rattle.std.specs.declared.alloc.Global.{Global}
use Rattle.std.specs.Option.{option_map}
use Rattle.branch_codegen.specs.code_conventions.declared.memory.TheConstants.{MOST_VARIABLES}
use Rattle.refine_objects.specs.rpp_tree.declared.tree.Ident.{Ident}
use Rattle.refine_objects.specs.rpp_tree.declared.tree.Expr.{Expr}
use Rattle.refine_objects.specs.rpp_tree.declared.tree.Place.{Place}
use Rattle.refine_objects.specs.rpp_tree.declared.tree.Var.{Var}
use Rattle.refine_objects.specs.rpp_tree.declared.tree.VarType.{VarType}
use Rattle.refine_objects.specs.rpp_tree.declared.tree.VarType.TheVariants as type
use Rattle.refine_objects.specs.rpp_tree.Tree.{Expression, Null, Lvalue, Whole, Item, Swap, Call, End, Then, Source}
use Rattle.refine_objects.specs.rpp_tree.Places.{place_name}
use Rattle.refine_objects.specs.rpp_tree.Views.{lvalue_with, lvalue_of, source_of}
use Rattle.branch_codegen.specs.class_rules.declared.kind.Kind.TheVariants as kind
use Rattle.branch_codegen.specs.class_rules.Expressions.{is_int}
use Rattle.branch_codegen.specs.class_rules.Inheritance.{kind_of_var}
use Rattle.branch_codegen.specs.class_rules.Refusal.{unknown_name}
use Rattle.branch_codegen.specs.class_rules.Scope.{Typing, Locals, kind_of, kind_in, class_kind, array_kind}
use Rattle.branch_codegen.specs.class_rules.Statements.{verdict_passed, check_statement}
use Rattle.branch_codegen.specs.class_rules.Table.{Table, table_of, class_of}
use Rattle.branch_codegen.proofs.class_rules_laws.PassedRules.{some_of}
use Rattle.branch_codegen.specs.paired_code.Code.{Code, seq_code}
use Rattle.branch_codegen.specs.paired_code.declared.part.Symbol.{Symbol}
use Rattle.branch_codegen.specs.roopl_semantics.Execution.{element_name, element_call}
use Rattle.branch_codegen.specs.meaning_sound.Plain.{ReceiverIsPlain}
use Rattle.refine_form.specs.Form.{BlockLaw}
use Rattle.refine_form.specs.Stands.{shape_of}
use Rattle.refine_form.specs.Worlds.{world_of}
use Rattle.refine_form.proofs.Stated.{nothing_is_a_block, blocks_are_rows}
use Rattle.branch_codegen.specs.code_scope.Visible.{Visible, kind_named, known_in, outer_of}
use Rattle.branch_codegen.specs.refine_expressions.Typing.{typing_in}
use Rattle.statement_codegen.specs.Codes.{scope_of, with_variable, IsStatementCode, IsBlockCode, IsAllowed}
use Rattle.statement_codegen.specs.Laws.{LocalLaw, ExchangedCall, element_type, element_var, ElementLaw}
use Rattle.statement_codegen.proofs.Names.{kind_is}
use Rattle.statement_codegen.proofs.Stands.{laid_out, names_same, swap_stands}
use Rattle.statement_codegen.proofs.ElementRules.{ElementRules, element_rules}

-- ---- the type of the variable

object_is : (o : Option ℕ) (class : ℕ) → array_kind o ≡ kind.ClassArray class → class_kind o ≡ kind.Class class
object_is None class h = absurd (cc)
object_is (Some c) class h = let e : c ≡ class = cc in ap kind.Class e

no_array : (o : Option ℕ) (class : ℕ) → class_kind o ≡ kind.ClassArray class → ⊥
no_array None class h = absurd (cc)
no_array (Some c) class h = absurd (cc)

type_is : (table : Table) (o : Option VarType) (class : ℕ) → option_map (kind_of table) o ≡ Some (kind.ClassArray class)
    → kind_of table (element_type o) ≡ kind.Class class
type_is table None class h = absurd (cc)
type_is table (Some type.Int) class h = absurd (cc)
type_is table (Some (type.Class c)) class h = absurd (no_array (class_of table c.text) class
    (let e : class_kind (class_of table c.text) ≡ kind.ClassArray class = cc in e))
type_is table (Some type.IntArray) class h = absurd (cc)
type_is table (Some (type.ClassArray c)) class h = object_is (class_of table c.text) class
    (let e : array_kind (class_of table c.text) ≡ kind.ClassArray class = cc in e)

module _ (v : Visible) (at : ℕ) (back : Bool) (array : Ident) (index : Expression) (method : Ident) (args : List Ident)
    (plain : ReceiverIsPlain (Some (Item array index)) args)
    (fine : IsAllowed v (Call at back (Some (Item array index)) method args)) where
  abbrev program : Source
  program = source_of v.program

  abbrev typing : Typing
  typing = typing_in program (scope_of v)

  abbrev shape : Locals
  shape = shape_of program (scope_of v)

  abbrev var : Var
  var = element_var v at array

  abbrev inside : Visible
  inside = with_variable v var

  rules : ElementRules typing shape at array index method args
  rules = element_rules typing shape at array index method args plain.1 plain.2 plain.3 fine.rules

  kind_there : kind_of_var program var ≡ kind.Class rules.class
  kind_there =
      type_is (table_of program) (kind_named (known_in v) array.text) rules.class
      (sym (kind_is program (scope_of v) array.text) ∙ some_of (kind_in typing shape array.text) (unknown_name array.at)
      (kind.ClassArray rules.class) rules.array)

  few : length v.variables < MOST_VARIABLES
  few = let f = fine.few_locals in omega (arith, f)

  swap_allowed : IsAllowed inside (Swap at (Whole (element_name at)) (Item array index))
  swap_allowed = record {
    rules = subst (λ k. check_statement typing (record { name = []; kind = k } ∷ shape)
        (Swap at (Whole (element_name at)) (Item array index)) ≡ verdict_passed) (sym kind_there) rules.swapped;
    has_words = (tt, plain.0);
    few_nodes = let n = fine.few_nodes in omega (arith, n);
    few_locals = let f = fine.few_locals in omega (arith, f);
  }

  exchanged : (p : List Symbol) → ExchangedCall inside at back (Item array index) method args p
      → IsBlockCode inside (element_call at back array index method args) p
  exchanged p h = record {
    law = λ place routine linked same.
        let s = scope_of inside in
        let exchange = Swap at (Whole (element_name at)) (Item array index) in
        let call = Call at back (Some (Whole (element_name at))) method args in
        let swaps_in = (swap_stands inside at (Whole (element_name at)) (Item array index) h.first h.swaps_in
        swap_allowed).law place routine linked same in
        let swaps_out = (swap_stands inside at (Whole (element_name at)) (Item array index) h.last h.swaps_out
        swap_allowed).law place routine linked same in
        let calls =
        (h.calls.law at (subst (λ k. check_statement typing (record { name = []; kind = k } ∷ shape) call
        ≡ verdict_passed)
        (sym kind_there) rules.called)).law place routine linked same in
        subst (λ z. BlockLaw (world_of place) s (element_call at back array index method args) z)
        (ap (λ z. h.first ++ (h.call ++ z)) (append-nil h.last) ∙ sym h.cells)
        (blocks_are_rows place s exchange (Then call (Then exchange End)) h.first (h.call ++ (h.last ++ [])) swaps_in
        (blocks_are_rows place s call (Then exchange End) h.call (h.last ++ []) calls
        (blocks_are_rows place s exchange End h.last [] swaps_out (nothing_is_a_block place s))));
  }

  element_stands : (p all : List Symbol) → ExchangedCall inside at back (Item array index) method args p
      → LocalLaw (known_in v) var (Null at) (Null at) p all
      → IsStatementCode v (Call at back (Some (Item array index)) method args) all
  element_stands p all h made = record {
    law = λ place routine linked same.
        let no_int : is_int (kind_of_var place.setting.program var) ≡ Rattle.std.proofs.Common.false =
        ap (λ z. is_int (kind_of_var z var)) same ∙ ap is_int kind_there in
        made.element place (laid_out place routine linked) (scope_of v) (names_same v place same) at back array index
        method args refl refl refl
        (record { few = few; value = inr (record { no_int = no_int; null = tt }) })
        ((exchanged p h).law place routine linked same);
  }

-- ---- what the call returns

pub place_name_is : (place : Place) → place_name (lvalue_of place) ≡ place.name
place_name_is place = by place.index
  where
    by : (o : Option (Box Expr Global)) → place_name (lvalue_with place.name o) ≡ place.name
    by None = refl
    by (Some index) = refl

-- without the innermost variable
abbrev pub popped : Visible → Visible
popped v = record v { variables = outer_of v.variables }

pub element_clause : (v : Visible) (at : ℕ) (back : Bool) (element : Lvalue) (method : Ident) (args : List Ident)
    (p all : List Symbol) → ExchangedCall (with_variable v (element_var v at (place_name element))) at back element
    method args p → LocalLaw (known_in v) (element_var v at (place_name element)) (Null at) (Null at) p all
    → ElementLaw v at back element method args all
element_clause v at back element method args p all h made = record {
  law = λ x index is plain fine.
      subst (λ e. IsStatementCode v (Call at back (Some e) method args) all) (sym is)
      (element_stands v at back x index method args (subst (λ e. ReceiverIsPlain (Some e) args) is plain)
      (subst (λ e. IsAllowed v (Call at back (Some e) method args)) is fine) p all
      (subst (λ e. ExchangedCall (with_variable v (element_var v at (place_name e))) at back e method args p) is h)
      (subst (λ e. LocalLaw (known_in v) (element_var v at (place_name e)) (Null at) (Null at) p all) is made));
}

pub element_returns : {E : Type 0} (v inside back_out : Visible) (at : ℕ) (back : Bool) (element : Lvalue) (var : Var)
    (method : Ident) (args : List Ident) (p : List Symbol) (r : Result Code E)
    → var ≡ element_var v at (place_name element) → inside ≡ with_variable v var → back_out ≡ v
    → ExchangedCall inside at back element method args p → IfOk r
    (λ x. LocalLaw (known_in back_out) var (Null at) (Null at) p x.cells)
    → IfOk r (λ x. ElementLaw v at back element method args x.cells)
element_returns v inside back_out at back element var method args p (Ok x) var_is in_is out_is h made =
    element_clause v at back element method args p x.cells
    (subst (λ w. ExchangedCall (with_variable v w) at back element method args p) var_is
    (subst (λ z. ExchangedCall z at back element method args p) in_is h))
    (subst (λ w. LocalLaw (known_in v) w (Null at) (Null at) p x.cells) var_is
    (subst (λ z. LocalLaw (known_in z) var (Null at) (Null at) p x.cells) out_is made))
element_returns v inside back_out at back element var method args p (Err e) var_is in_is out_is h made = tt

-- the cells of the element in, the call, and the element out
pub exchanged_size : {E : Type 0} (t n : ℕ) (first called last inner : Code) (r : Result Code E)
    → length first.cells ≤ 80 * (2 + t) → length called.cells ≤ 18 * n + 77 → length last.cells ≤ 80 * (2 + t)
    → inner ≡ seq_code called last → IfOk r (λ p. p ≡ seq_code first inner)
    → IfOk r (λ p. length p.cells ≤ 160 * (2 + t) + 18 * n + 77)
exchanged_size t n first called last inner (Err e) a b c is made = tt
exchanged_size t n first called last inner (Ok p) a b c is made =
    let e : length p.cells ≡ length first.cells + length inner.cells =
    ap (λ (z : Code). length z.cells) made ∙ length-append first.cells inner.cells in
    let f : length inner.cells ≡ length called.cells + length last.cells =
    ap (λ (z : Code). length z.cells) is ∙ length-append called.cells last.cells in
    omega (arith, a, b, c, e, f)
