-- The inverse of a checked block is checked, and plain if the block is.
use Rattle.std.proofs.Common.{◌≡◌, ◌∙◌, sym, ap, subst, refl, ℕ, Bool, true, false, ◌∷◌}
use Rattle.std.proofs.lemmas.Bool.{and_from}
use Rattle.std.specs.Prelude.{not, ◌&&◌, ◌||◌, if◌then◌else◌}
use Rattle.std.specs.Option.{is_none}
use Rattle.std.specs.Str.{bytes_eq}
use Rattle.roopl_semantics.specs.rpp_tree.declared.tree.Var.{Var}
use Rattle.roopl_semantics.specs.rpp_tree.Tree.{Expression, Statement, Statements, Update, If, From, Construct, Local}
use Rattle.roopl_semantics.specs.rpp_tree.Tree.{End, Then}
use Rattle.roopl_semantics.specs.rpp_tree.Tree.{joined}
use Rattle.roopl_semantics.specs.class_rules.declared.kind.Kind.{Kind}
use Rattle.roopl_semantics.specs.class_rules.Overrides.{is_type_int, same_type}
use Rattle.roopl_semantics.specs.class_rules.Refusal.{type_differs, redeclared, local_in_own_expression}
use Rattle.roopl_semantics.specs.class_rules.Scope.{Typing, Locals, local_kind, kind_of}
use Rattle.roopl_semantics.specs.class_rules.Expressions.{is_int, type_of, occurs, first_token}
use Rattle.roopl_semantics.specs.class_rules.Statements.{verdict_passed, required, in_turn, test_rules, type_known}
use Rattle.roopl_semantics.specs.class_rules.Statements.{is_nil_word, local_rules}
use Rattle.roopl_semantics.specs.class_rules.Statements.{construct_rules, with_local, with_object, check_statement}
use Rattle.roopl_semantics.specs.class_rules.Statements.{check_statements}
use Rattle.roopl_semantics.specs.inverse_rules.Inverse.{inverse_statement_as, inverse_as, inverse}
use Rattle.roopl_semantics.proofs.inverse_rules_laws.InverseWalks.{IsTurned, block_turned as walk_block_turned}
use Rattle.roopl_semantics.proofs.class_rules_laws.SameTypes.{types_same}
use Rattle.meaning_sound.specs.Plain.{ReceiverIsPlain, words_and, IsPlain}
use Rattle.roopl_semantics.proofs.class_rules_laws.PassedRules.{both_passed, in_turn_passes, held, required_passes}
use Rattle.roopl_semantics.proofs.class_rules_laws.PassedRules.{handed_on, hands_on}
use Rattle.roopl_semantics.proofs.class_rules_laws.PassedRules.{both_true}
use Rattle.roopl_semantics.proofs.class_rules_laws.FirstPlaces.{same_name, bytes_turned}

or_turned : (a b : Bool) → (a || b) ≡ (b || a)
or_turned true true = refl
or_turned true false = refl
or_turned false true = refl
or_turned false false = refl

and_turned : (a b : Bool) → (a && b) ≡ (b && a)
and_turned true true = refl
and_turned true false = refl
and_turned false true = refl
and_turned false false = refl

-- ---- blocks one after the other

pub check_joined : (setting : Typing) (locals : Locals) (a b : Statements)
    → check_statements setting locals a ≡ verdict_passed
    → check_statements setting locals b ≡ verdict_passed → check_statements setting locals (joined a b) ≡ verdict_passed
check_joined setting locals End b h k = k
check_joined setting locals (Then first rest) b h k =
    let both = both_passed (check_statement setting locals first) (check_statements setting locals rest) h in
    in_turn_passes (check_statement setting locals first) (check_statements setting locals (joined rest b)) both.0
    (check_joined setting locals rest b both.1 k)

pub plain_joined : (a b : Statements) → IsPlain a → IsPlain b → IsPlain (joined a b)
plain_joined End b h k = k
plain_joined (Then first rest) b h k = (h.0, plain_joined rest b h.1 k)

-- ---- the rules of tests and locals, turned

test_turned : (setting : Typing) (locals : Locals) (first last : Expression)
    → test_rules setting locals first last ≡ verdict_passed → test_rules setting locals last first ≡ verdict_passed
test_turned setting locals first last h =
    let f = handed_on (type_of setting locals first) _ tt h in
    let l = handed_on (type_of setting locals last) _ tt f.goes in
    let both = both_passed (required (is_int f.value) (type_differs (first_token first)))
    (required (is_int l.value) (type_differs (first_token last))) l.goes in
    hands_on (type_of setting locals last) _ l.value verdict_passed l.is
    (hands_on (type_of setting locals first) _ f.value verdict_passed f.is
    (in_turn_passes (required (is_int l.value) (type_differs (first_token last)))
    (required (is_int f.value) (type_differs (first_token first))) both.1 both.0))

record LocalTurned (setting : Typing) (locals : Locals) (at : ℕ) (var : Var) (value : Expression) (end_var : Var)
    (end_value : Expression) : Type 0 where
  pub rules : local_rules setting locals at end_var end_value var value ≡ verdict_passed
  pub same : with_local setting locals var ≡ with_local setting locals end_var

local_turned : (setting : Typing) (locals : Locals) (at : ℕ) (var : Var) (value : Expression) (end_var : Var)
    (end_value : Expression) → local_rules setting locals at var value end_var end_value ≡ verdict_passed
    → LocalTurned setting locals at var value end_var end_value
local_turned setting locals at var value end_var end_value h =
    let a = both_passed (type_known setting.table var.kind) _ h in
    let b = both_passed (required (is_none (local_kind locals var.name.text)) (redeclared var.name.at)) _ a.1 in
    let c = both_passed (required (same_type var.kind end_var.kind && bytes_eq var.name.text end_var.name.text)
    (type_differs end_var.name.at)) _ b.1 in
    let d = both_passed (required (not (occurs var.name.text value || occurs var.name.text end_value))
    (local_in_own_expression at)) _ c.1 in
    let v = handed_on (type_of setting locals value) _ tt d.1 in
    let e = handed_on (type_of setting locals end_value) _ tt v.goes in
    let sames = both_true (same_type var.kind end_var.kind) (bytes_eq var.name.text end_var.name.text) (held _ _ c.0) in
    let types = types_same setting.table var.kind end_var.kind sames.0 in
    let name = same_name var.name.text end_var.name.text sames.1 in
    record {
      rules =
          in_turn_passes (type_known setting.table end_var.kind) _ (types.known a.0)
          (in_turn_passes (required (is_none (local_kind locals end_var.name.text)) (redeclared end_var.name.at)) _
          (required_passes _ _ (ap (λ n. is_none (local_kind locals n)) (sym name) ∙ held _ _ b.0))
          (in_turn_passes (required (same_type end_var.kind var.kind && bytes_eq end_var.name.text var.name.text)
          (type_differs var.name.at)) _ (required_passes _ _
          (and_from _ _ types.turned (bytes_turned end_var.name.text var.name.text ∙ sames.1)))
          (in_turn_passes (required (not (occurs end_var.name.text end_value || occurs end_var.name.text value))
          (local_in_own_expression at)) _
          (required_passes _ _ (ap (λ n. not (occurs n end_value || occurs n value)) (sym name)
          ∙ ap not (or_turned (occurs var.name.text end_value) (occurs var.name.text value)) ∙ held _ _ d.0))
          (hands_on (type_of setting locals end_value) _ e.value verdict_passed e.is
          (hands_on (type_of setting locals value) _ v.value verdict_passed v.is
          (required_passes _ (type_differs at) (turn v.value e.value (is_type_int var.kind) (is_type_int end_var.kind)
          types.ints (held _ _ e.goes))))))));
      same = ap (λ n. record { name = n; kind = kind_of setting.table var.kind } ∷ locals) name
          ∙ ap (λ k. record { name = end_var.name.text; kind = k } ∷ locals) (sym types.kinds);
    }
  where
    turn : (v e : Kind) (int end_int : Bool) → end_int ≡ int
        → (if int then is_int v && is_int e else is_nil_word value && is_nil_word end_value) ≡ true
        → (if end_int then is_int e && is_int v else is_nil_word end_value && is_nil_word value) ≡ true
    turn v e true true s h = and_turned (is_int e) (is_int v) ∙ h
    turn v e false false s h = and_turned (is_nil_word end_value) (is_nil_word value) ∙ h
    turn v e true false s h = absurd (cc)
    turn v e false true s h = absurd (cc)

-- ---- statements and blocks

mutual
  statement_undone : (setting : Typing) (locals : Locals) (s : Statement)
      → check_statement setting locals s ≡ verdict_passed
      → check_statement setting locals (inverse_statement_as true s) ≡ verdict_passed
  statement_undone setting locals (Update at op target value) h = h
  statement_undone setting locals (If at test taken other after) h =
      let a = both_passed (test_rules setting locals test after)
      (in_turn (check_statements setting locals taken) (check_statements setting locals other)) h in
      let b = both_passed (check_statements setting locals taken) (check_statements setting locals other) a.1 in
      in_turn_passes (test_rules setting locals after test) _ (test_turned setting locals test after a.0)
      (in_turn_passes (check_statements setting locals (inverse_as true taken))
      (check_statements setting locals (inverse_as true other)) (block_undone setting locals taken b.0)
      (block_undone setting locals other b.1))
  statement_undone setting locals (From at entry first again exit) h =
      let a = both_passed (test_rules setting locals entry exit)
      (in_turn (check_statements setting locals first) (check_statements setting locals again)) h in
      let b = both_passed (check_statements setting locals first) (check_statements setting locals again) a.1 in
      in_turn_passes (test_rules setting locals exit entry) _ (test_turned setting locals entry exit a.0)
      (in_turn_passes (check_statements setting locals (inverse_as true first))
      (check_statements setting locals (inverse_as true again)) (block_undone setting locals first b.0)
      (block_undone setting locals again b.1))
  statement_undone setting locals (Construct at class name body end) h =
      let a = both_passed (construct_rules setting locals class name end)
      (check_statements setting (with_object setting locals class name) body) h in
      in_turn_passes (construct_rules setting locals class name end) _ a.0
      (block_undone setting (with_object setting locals class name) body a.1)
  statement_undone setting locals (Local at var value body end_var end_value) h =
      let a = both_passed (local_rules setting locals at var value end_var end_value)
      (check_statements setting (with_local setting locals var) body) h in
      let t = local_turned setting locals at var value end_var end_value a.0 in
      in_turn_passes (local_rules setting locals at end_var end_value var value) _ t.rules
      (subst (λ (ls : Locals). check_statements setting ls (inverse_as true body) ≡ verdict_passed) t.same
      (block_undone setting (with_local setting locals var) body a.1))
  statement_undone setting locals _ h = h

  block_undone : (setting : Typing) (locals : Locals) (body : Statements)
      → check_statements setting locals body ≡ verdict_passed
      → check_statements setting locals (inverse_as true body) ≡ verdict_passed
  block_undone setting locals End h = h
  block_undone setting locals (Then first rest) h =
      let a = both_passed (check_statement setting locals first) (check_statements setting locals rest) h in
      check_joined setting locals (inverse_as true rest) (Then (inverse_statement_as true first) End)
      (block_undone setting locals rest a.1)
      (in_turn_passes (check_statement setting locals (inverse_statement_as true first)) verdict_passed
      (statement_undone setting locals first a.0) refl)

pub inverse_checks : (setting : Typing) (locals : Locals) (body : Statements)
    → check_statements setting locals body ≡ verdict_passed
    → check_statements setting locals (inverse body) ≡ verdict_passed
inverse_checks setting locals body h = block_undone setting locals body h

plain_turned : IsTurned (λ (A B : Type 0). B → A) (words_and ReceiverIsPlain) true
plain_turned = record {
  plain = λ at parts h. h;
  forked = λ at before a b c d after f g h. (h.3, f h.1, g h.2, h.0);
  construct = λ at class name a c end f. f;
  local = λ at var value a c end_var end_value f h. (h.2, f h.1, h.0);
  none = λ h. h;
  last = λ first body said rest f g h. plain_joined body (Then (inverse_statement_as true first) End) (g h.1)
      (f h.0, tt);
}

pub inverse_plain : (body : Statements) → IsPlain body → IsPlain (inverse body)
inverse_plain body h = walk_block_turned plain_turned body h
