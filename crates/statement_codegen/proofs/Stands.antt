-- The codes of updates, swaps, conditionals, loops and locals are those of their statements, if the
-- rules of types and the limits accept these. The laws of the code need no more.
use Rattle.std.proofs.Common.{◌≡◌, ℕ, ◌+◌, ◌<◌, ◌≤◌, inl, inr, Bool, true, false, List, length, refl, sym, ap, ◌∙◌}
use Rattle.std.proofs.Common.{subst, arith}
use Rattle.std.specs.Prelude.{Ok, not, ◌&&◌, ◌||◌, if◌then◌else◌}
use Rattle.std.specs.Option.{is_none}
use Rattle.std.specs.Str.{bytes_eq}
use Rattle.branch_codegen.specs.code_conventions.declared.memory.TheConstants.{MOST_VARIABLES}
use Rattle.refine_objects.specs.rpp_tree.declared.tree.Var.{Var}
use Rattle.refine_objects.specs.rpp_tree.declared.tree.VarType.{VarType}
use Rattle.refine_objects.specs.rpp_tree.declared.tree.VarType.TheVariants as type
use Rattle.refine_objects.specs.rpp_tree.declared.tree.UpdateOp.{UpdateOp}
use Rattle.refine_objects.specs.rpp_tree.Tree.{Expression, Number, Null, Variable, Element, Binary, Lvalue, Statements, Update, Swap}
use Rattle.refine_objects.specs.rpp_tree.Tree.{If, From, Local, Source, nodes}
use Rattle.refine_objects.specs.rpp_tree.Views.{source_of}
use Rattle.branch_codegen.specs.class_rules.declared.kind.Kind.{Kind}
use Rattle.branch_codegen.specs.class_rules.declared.kind.Kind.TheVariants as kind
use Rattle.branch_codegen.specs.class_rules.Overrides.{is_type_int, same_type}
use Rattle.branch_codegen.specs.class_rules.Table.{table_of, class_of}
use Rattle.branch_codegen.specs.class_rules.Refusal.{redeclared, type_differs, local_in_own_expression}
use Rattle.branch_codegen.specs.class_rules.Scope.{Typing, Locals, local_kind, kind_of}
use Rattle.branch_codegen.specs.class_rules.Expressions.{is_int, type_of, occurs, first_token}
use Rattle.branch_codegen.specs.class_rules.Statements.{verdict_passed, required, in_turn, test_rules, type_known}
use Rattle.branch_codegen.specs.class_rules.Statements.{is_nil_word, local_rules}
use Rattle.branch_codegen.specs.class_rules.Statements.{with_local, check_statements}
use Rattle.branch_codegen.proofs.class_rules_laws.FirstPlaces.{same_name}
use Rattle.branch_codegen.proofs.class_rules_laws.PassedRules.{both_passed, held, handed_on, both_true, neither_true}
use Rattle.branch_codegen.proofs.class_rules_laws.PassedRules.{int_kind}
use Rattle.branch_codegen.specs.paired_code.declared.part.Symbol.{Symbol}
use Rattle.branch_codegen.specs.meaning_sound.Plain.{HasWords}
use Rattle.branch_codegen.proofs.meaning_sound_laws.Locals.{no_int_class, no_int_array}
use Rattle.refine_form.specs.Form.{Scope}
use Rattle.refine_form.specs.Stands.{shape_of}
use Rattle.refine_form.specs.Worlds.{Place}
use Rattle.branch_codegen.specs.code_scope.Visible.{Visible, Known, spot_of, free_words_of, known_in}
use Rattle.branch_codegen.specs.register_expressions.Code.{words}
use Rattle.branch_codegen.specs.expr_uncompute.Code.{place_words}
use Rattle.branch_codegen.specs.expr_uncompute.Promises as code
use Rattle.branch_codegen.proofs.expr_uncompute_laws.Bounds.{words_most, place_words_most}
use Rattle.branch_codegen.specs.method_calls.Names.{IsNull, IsInit}
use Rattle.branch_codegen.specs.refine_calls.Laws.{IsLinked}
use Rattle.branch_codegen.specs.refine_expressions.Typing.{known_of, HasFrameSpace, typing_in, IsTyped, IsPassed}
use Rattle.branch_codegen.specs.refine_expressions.Laws.{IsLaidOut}
use Rattle.branch_codegen.proofs.refine_expressions_laws.Stated.{updates_are_told, swaps_are_told}
use Rattle.statement_codegen.specs.Codes.{scope_of, with_variable, IsStatementCode, IsBlockCode, IsAllowed}
use Rattle.branch_codegen.specs.Laws.{IfLaw, FromLaw}
use Rattle.statement_codegen.specs.Laws.{LocalLaw}

pub laid_out : (place : Place) (routine : ℕ → Rattle.refine_objects.specs.rpp_tree.declared.tree.Ident.Ident → ℕ)
    → IsLinked place routine → IsLaidOut place
laid_out place routine linked = record { accepted = linked.accepted; few = linked.routed.few }

pub names_same : (v : Visible) (place : Place) → place.setting.program ≡ source_of v.program
    → known_of place.setting.program (scope_of v) ≡ known_in v
names_same v place same = ap (λ program. known_of program (scope_of v)) same

-- ---- space in the frame

pub room_for : (v : Visible) (n : ℕ) → length v.variables ≤ MOST_VARIABLES → n ≤ 64
    → HasFrameSpace (source_of v.program) (scope_of v) n
room_for v n few small = let q : 16 + length v.variables + n ≤ 512 = omega (arith, few, small) in q

few_words : (e : Expression) → nodes e ≤ 64 → words e ≤ 64
few_words e h = let w = words_most e in omega (arith, w, h)

test_in : (v : Visible) (e : Expression) → type_of (typing_in (source_of v.program) (scope_of v))
    (shape_of (source_of v.program) (scope_of v)) e ≡ Ok kind.Int → HasWords e → nodes e ≤ 64
    → length v.variables ≤ MOST_VARIABLES
    → IsTyped (source_of v.program) (scope_of v) e kind.Int
test_in v e typed has small few = record {
  typed = typed;
  has_words = has;
  room = room_for v (words e) few (few_words e small);
}

-- ---- updates and swaps

pub update_stands : (v : Visible) (at : ℕ) (op : UpdateOp) (target : Lvalue) (value : Expression) (all : List Symbol)
    → code.UpdateLaw (spot_of (known_in v)) (free_words_of (known_in v)) op target value all
    → IsAllowed v (Update at op target value) → IsStatementCode v (Update at op target value) all
update_stands v at op target value all made fine = record {
  law = λ place routine linked same.
      let few = fine.few_locals in
      let small = fine.few_nodes in
      let t = place_words_most target in
      let w = words_most value in
      let ok : IsPassed (source_of v.program) (scope_of v) (Update at op target value)
      (place_words target + words value) =
      record {
        rules = fine.rules;
        has_words = fine.has_words;
        room = room_for v (place_words target + words value) (omega (arith, few)) (omega (arith, small, t, w));
      } in
      updates_are_told place (laid_out place routine linked) (scope_of v) at op target value
      (subst (λ program. IsPassed program (scope_of v) (Update at op target value) (place_words target + words value))
      (sym same) ok) all
      (subst (λ (k : Known). code.UpdateLaw (spot_of k) (free_words_of k) op target value all)
      (sym (names_same v place same))
      made);
}

pub swap_stands : (v : Visible) (at : ℕ) (left right : Lvalue) (all : List Symbol)
    → code.SwapLaw (spot_of (known_in v)) (free_words_of (known_in v)) left right all → IsAllowed v (Swap at left right)
    → IsStatementCode v (Swap at left right) all
swap_stands v at left right all made fine = record {
  law = λ place routine linked same.
      let few = fine.few_locals in
      let small = fine.few_nodes in
      let l = place_words_most left in
      let r = place_words_most right in
      let ok : IsPassed (source_of v.program) (scope_of v) (Swap at left right) (place_words left + place_words right) =
      record {
        rules = fine.rules;
        has_words = fine.has_words;
        room = room_for v (place_words left + place_words right) (omega (arith, few)) (omega (arith, small, l, r));
      }
      in
      swaps_are_told place (laid_out place routine linked) (scope_of v) at left right
      (subst (λ program. IsPassed program (scope_of v) (Swap at left right) (place_words left + place_words right))
      (sym same) ok) all
      (subst (λ (k : Known). code.SwapLaw (spot_of k) (free_words_of k) left right all) (sym (names_same v place same))
      made);
}

-- ---- conditionals and loops

both_ints : (typing : Typing) (shape : Locals) (first last : Expression)
    → test_rules typing shape first last ≡ verdict_passed
    → (type_of typing shape first ≡ Ok kind.Int) × (type_of typing shape last ≡ Ok kind.Int)
both_ints typing shape first last h =
    let f = handed_on (type_of typing shape first) _ tt h in
    let l = handed_on (type_of typing shape last) _ tt f.goes in
    let both = both_passed (required (is_int f.value) (type_differs (first_token first)))
    (required (is_int l.value) (type_differs (first_token last))) l.goes in (
      f.is ∙ ap (λ k. Ok k) (int_kind f.value (held _ (type_differs (first_token first)) both.0)),
      l.is ∙ ap (λ k. Ok k) (int_kind l.value (held _ (type_differs (first_token last)) both.1)),
    )

pub if_stands : (v : Visible) (at : ℕ) (test after : Expression) (taken other : Statements) (p q all : List Symbol)
    → IfLaw (known_in v) test after p q all → IsAllowed v (If at test taken other after) → IsBlockCode v taken p
    → IsBlockCode v other q → IsStatementCode v (If at test taken other after) all
if_stands v at test after taken other p q all made fine hp hq = record {
  law = λ place routine linked same.
      let typing = typing_in (source_of v.program) (scope_of v) in
      let shape = shape_of (source_of v.program) (scope_of v) in
      let rules = both_passed (test_rules typing shape test after)
      (in_turn (check_statements typing shape taken) (check_statements typing shape other)) fine.rules in
      let ints = both_ints typing shape test after rules.0 in
      let few = fine.few_locals in
      let few' : length v.variables ≤ MOST_VARIABLES = omega (arith, few) in
      let small = fine.few_nodes in
      let small_test : nodes test ≤ 64 = omega (arith, small) in
      let small_after : nodes after ≤ 64 = omega (arith, small) in
      let has = fine.has_words in
      made.law place (laid_out place routine linked) (scope_of v) (names_same v place same) at taken other
      (subst (λ program. IsTyped program (scope_of v) test kind.Int) (sym same)
      (test_in v test ints.0 has.0 small_test few'))
      (subst (λ program. IsTyped program (scope_of v) after kind.Int) (sym same)
      (test_in v after ints.1 has.3 small_after few'))
      (hp.law place routine linked same) (hq.law place routine linked same);
}

pub from_stands : (v : Visible) (at : ℕ) (entry exit : Expression) (first again : Statements) (p q all : List Symbol)
    → FromLaw (known_in v) entry exit p q all → IsAllowed v (From at entry first again exit) → IsBlockCode v first p
    → IsBlockCode v again q → IsStatementCode v (From at entry first again exit) all
from_stands v at entry exit first again p q all made fine hp hq = record {
  law = λ place routine linked same.
      let typing = typing_in (source_of v.program) (scope_of v) in
      let shape = shape_of (source_of v.program) (scope_of v) in
      let rules = both_passed (test_rules typing shape entry exit)
      (in_turn (check_statements typing shape first) (check_statements typing shape again)) fine.rules in
      let ints = both_ints typing shape entry exit rules.0 in
      let few = fine.few_locals in
      let few' : length v.variables ≤ MOST_VARIABLES = omega (arith, few) in
      let small = fine.few_nodes in
      let small_entry : nodes entry ≤ 64 = omega (arith, small) in
      let small_exit : nodes exit ≤ 64 = omega (arith, small) in
      let has = fine.has_words in
      made.law place (laid_out place routine linked) (scope_of v) (names_same v place same) at first again
      (subst (λ program. IsTyped program (scope_of v) entry kind.Int) (sym same)
      (test_in v entry ints.0 has.0 small_entry few'))
      (subst (λ program. IsTyped program (scope_of v) exit kind.Int) (sym same)
      (test_in v exit ints.1 has.3 small_exit few'))
      (hp.law place routine linked same) (hq.law place routine linked same);
}

-- ---- locals

null_is : (e : Expression) → is_nil_word e ≡ true → IsNull e
null_is (Number at word) h = absurd (cc)
null_is (Null at) h = tt
null_is (Variable name) h = absurd (cc)
null_is (Element name index) h = absurd (cc)
null_is (Binary at op left right) h = absurd (cc)

-- what the rules say of one value of a local
init_is : (program : Source) (s : Scope) (var : Var) (e : Expression) (k : Kind) → length s.vars < MOST_VARIABLES
    → type_of (typing_in program s) (shape_of program s) e ≡ Ok k → HasWords e → occurs var.name.text e ≡ false
    → (if is_type_int var.kind then is_int k else is_nil_word e) ≡ true → IsInit program s var e
init_is program s var e k few typed has apart fits = by var.kind refl fits
  where
    nil : (t : VarType) → var.kind ≡ t → is_int (kind_of (table_of program) t) ≡ false → is_nil_word e ≡ true
        → IsInit program s var e
    nil t same no_int null = record {
      few = few;
      value = inr
          (record { no_int = ap (λ z. is_int (kind_of (table_of program) z)) same ∙ no_int; null = null_is e null });
    }

    by : (t : VarType) → var.kind ≡ t → (if is_type_int t then is_int k else is_nil_word e) ≡ true
        → IsInit program s var e
    by type.Int same h = record {
      few = few;
      value = inl (record {
        is_int = ap (kind_of (table_of program)) same;
        typed = typed
            ∙ ap (λ z. Ok z) (int_kind k h);
        has_words = has;
        apart = apart;
      });
    }
    by (type.Class c) same h = nil (type.Class c) same (no_int_class (class_of (table_of program) c.text)) h
    by type.IntArray same h = nil type.IntArray same refl h
    by (type.ClassArray c) same h = nil (type.ClassArray c) same (no_int_array (class_of (table_of program) c.text)) h

each_fits : (b x y z w : Bool) → (if b then x && y else z && w) ≡ true
    → ((if b then x else z) ≡ true) × ((if b then y else w) ≡ true)
each_fits true x y z w h = both_true x y h
each_fits false x y z w h = both_true z w h

-- the two values of a local
record LocalValues (v : Visible) (var : Var) (value : Expression) (end_var : Var) (end_value : Expression) : Type 0
  where
    same_name : end_var.name.text ≡ var.name.text
    begins : IsInit (source_of v.program) (scope_of v) var value
    ends : IsInit (source_of v.program) (scope_of v) var end_value

local_values : (v : Visible) (at : ℕ) (var : Var) (value : Expression) (body : Statements) (end_var : Var)
    (end_value : Expression) → IsAllowed v (Local at var value body end_var end_value)
    → LocalValues v var value end_var end_value
local_values v at var value body end_var end_value fine =
    let program = source_of v.program in
    let typing = typing_in program (scope_of v) in
    let shape = shape_of program (scope_of v) in
    let few = fine.few_locals in
    let few' : length v.variables < MOST_VARIABLES = omega (arith, few) in
    let has = fine.has_words in
    let a = both_passed (local_rules typing shape at var value end_var end_value)
    (check_statements typing (with_local typing shape var) body) fine.rules in
    let b = both_passed (type_known (table_of program) var.kind) _ a.0 in
    let c = both_passed (required (is_none (local_kind shape var.name.text)) (redeclared var.name.at)) _ b.1 in
    let d = both_passed (required (same_type var.kind end_var.kind && bytes_eq var.name.text end_var.name.text)
    (type_differs end_var.name.at)) _ c.1 in
    let e = both_passed (required (not (occurs var.name.text value || occurs var.name.text end_value))
    (local_in_own_expression at)) _ d.1 in
    let apart = neither_true (occurs var.name.text value) (occurs var.name.text end_value)
    (held _ (local_in_own_expression at) e.0) in
    let named = both_true (same_type var.kind end_var.kind) (bytes_eq var.name.text end_var.name.text)
    (held _ (type_differs end_var.name.at) d.0) in
    let f = handed_on (type_of typing shape value) _ tt e.1 in
    let g = handed_on (type_of typing shape end_value) _ tt f.goes in
    let fits = each_fits (is_type_int var.kind) (is_int f.value) (is_int g.value) (is_nil_word value)
    (is_nil_word end_value) (held _ (type_differs at) g.goes) in
    record {
      same_name = sym (same_name var.name.text end_var.name.text named.1);
      begins = init_is program (scope_of v) var value f.value few' f.is has.0 apart.0 fits.0;
      ends = init_is program (scope_of v) var end_value g.value few' g.is has.2 apart.1 fits.1;
    }

pub local_stands : (v : Visible) (at : ℕ) (var : Var) (value : Expression) (body : Statements) (end_var : Var)
    (end_value : Expression) (p all : List Symbol) → LocalLaw (known_in v) var value end_value p all
    → IsAllowed v (Local at var value body end_var end_value) → IsBlockCode (with_variable v var) body p
    → IsStatementCode v (Local at var value body end_var end_value) all
local_stands v at var value body end_var end_value p all made fine hp = record {
  law = λ place routine linked same.
      let x = local_values v at var value body end_var end_value fine in
      let few = fine.few_locals in
      let few' : length v.variables ≤ MOST_VARIABLES = omega (arith, few) in
      let small = fine.few_nodes in
      let small_value : nodes value ≤ 64 = omega (arith, small) in
      let small_end : nodes end_value ≤ 64 = omega (arith, small) in
      made.law place (laid_out place routine linked) (scope_of v) (names_same v place same) at body end_var x.same_name
      (subst (λ program. IsInit program (scope_of v) var value) (sym same) x.begins)
      (subst (λ program. IsInit program (scope_of v) var end_value) (sym same) x.ends)
      (subst (λ program. HasFrameSpace program (scope_of v) (words value)) (sym same)
      (room_for v (words value) few' (few_words value small_value)))
      (subst (λ program. HasFrameSpace program (scope_of v) (words end_value)) (sym same)
      (room_for v (words end_value) few' (few_words end_value small_end)))
      (hp.law place routine linked same);
}
