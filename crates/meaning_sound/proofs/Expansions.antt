-- `construct` and calls on elements, as what they mean.
use Rattle.std.proofs.Common.{◌≡◌, ◌≢◌, ◌∙◌, sym, ap, subst, refl, ℕ, zero, suc, ◌+◌, ◌<◌, ◌≤◌, Bool, true, false, List}
use Rattle.std.proofs.Common.{[], ◌∷◌, ◌++◌, map, length, Option, Some, None, arith}
use Rattle.std.specs.Prelude.{nat_eq, is_some, not, ◌||◌, if◌then◌else◌, Ok}
use Rattle.std.specs.Option.{unwrap_or, ok_or, option_or}
use Rattle.std.specs.Str.{bytes_eq}
use Rattle.std.specs.List.{list_any}
use Rattle.roopl_semantics.specs.rpp_tree.declared.tree.Ident.{Ident}
use Rattle.roopl_semantics.specs.rpp_tree.declared.tree.Var.{Var}
use Rattle.roopl_semantics.specs.rpp_tree.Tree.{Expression, Number, Null, Variable, Element, Binary, Whole, Item}
use Rattle.roopl_semantics.specs.rpp_tree.Tree.{Object as AnObject}
use Rattle.roopl_semantics.specs.rpp_tree.Tree.{Statements, Swap, Construct, New, Delete, Call, End, Then, joined}
use Rattle.roopl_semantics.specs.rpp_tree.Tree.{Source}
use Rattle.roopl_semantics.specs.class_rules.declared.kind.Kind.{Kind}
use Rattle.roopl_semantics.specs.class_rules.declared.kind.Kind.TheVariants as kind
use Rattle.roopl_semantics.specs.class_rules.Overrides.{parameters_of}
use Rattle.roopl_semantics.specs.class_rules.Table.{Table, table_of, class_of, slot_in, dispatch_in, inherits_in}
use Rattle.roopl_semantics.specs.class_rules.Refusal.{unknown_name, type_differs, self_update, same_argument}
use Rattle.roopl_semantics.specs.class_rules.Refusal.{wrong_arity}
use Rattle.roopl_semantics.specs.class_rules.Scope.{Typing, Local, Locals, local_kind, kind_of, field_kind, class_kind}
use Rattle.roopl_semantics.specs.class_rules.Expressions.{then_checked, occurs, type_of, place_type}
use Rattle.roopl_semantics.specs.class_rules.Statements.{Verdict, receiver_kind, place_class, verdict_passed, required}
use Rattle.roopl_semantics.specs.class_rules.Statements.{in_turn, each_passes}
use Rattle.roopl_semantics.specs.class_rules.Statements.{each_passes_after, same_kind, in_either_index, swap_rules}
use Rattle.roopl_semantics.specs.class_rules.Statements.{class_known}
use Rattle.roopl_semantics.specs.class_rules.Statements.{takes_object_of, make_rules, construct_rules, argument_known}
use Rattle.roopl_semantics.specs.class_rules.Statements.{argument_new}
use Rattle.roopl_semantics.specs.class_rules.Statements.{argument_fits, arguments_fit, slot_rules, call_rules}
use Rattle.roopl_semantics.specs.class_rules.Statements.{receiver_class}
use Rattle.roopl_semantics.specs.class_rules.Statements.{with_object, check_statement, check_statements}
use Rattle.roopl_semantics.specs.class_rules.Program.{setting_in}
use Rattle.roopl_semantics.specs.Store.{State}
use Rattle.roopl_semantics.specs.Execution.{Setting, Runner, element_name, constructed, element_call, statement}
use Rattle.meaning_sound.specs.Sound.{Sound, Keeps}
use Rattle.meaning_sound.specs.Plain.{HasWords, IsNamed, HasNames, AreNamed, IsPlain}
use Rattle.meaning_sound.proofs.Classes.{KnowsClasses}
use Rattle.meaning_sound.specs.Kept.{MeansSame}
use Rattle.roopl_semantics.proofs.class_rules_laws.FirstPlaces.{bytes_turned, equal_name}
use Rattle.meaning_sound.proofs.Runs.{Ends}
use Rattle.roopl_semantics.proofs.class_rules_laws.PassedRules.{both_passed, in_turn_passes, held as was_held}
use Rattle.roopl_semantics.proofs.class_rules_laws.PassedRules.{required_passes, hands_on}
use Rattle.roopl_semantics.proofs.class_rules_laws.PassedRules.{same_as_itself}
use Rattle.meaning_sound.proofs.Blocks.{KeepsAll}
use Rattle.meaning_sound.proofs.Locals.{kind_in_under, type_of_under, nil_end, no_int_class, with_local_keeps}
use Rattle.meaning_sound.proofs.Undone.{check_joined, plain_joined}
use Rattle.meaning_sound.proofs.Calls.{receiver_parts}

-- the innermost variable's type
pub innermost : (typing : Typing) (locals : Locals) (name : Ident) (k : Kind)
    → type_of typing (record { name = name.text; kind = k } ∷ locals) (Variable name) ≡ Ok k
innermost typing locals name k = ap (λ b. ok_or (option_or (if b then Some k else local_kind locals name.text)
    (field_kind typing.table typing.class name.text)) (unknown_name name.at)) (equal_name name.text name.text refl)

nat_same : (n : ℕ) → nat_eq n n ≡ true
nat_same n = Rattle.std.proofs.Common.eq-eqb n n refl

-- ---- construct

takes_itself : (table : Table) (o : Option ℕ) → is_some o ≡ true → takes_object_of table o (class_kind o) ≡ true
takes_itself table None h = absurd (cc)
takes_itself table (Some c) h = ap (λ b. b || inherits_in table c c) (nat_same c)

pub made_in : (typing : Typing) (locals : Locals) (at : ℕ) (class name : Ident)
    → class_known typing.table class ≡ verdict_passed → make_rules typing (with_object typing locals class name) at
    (AnObject class) (Whole name) ≡ verdict_passed
made_in typing locals at class name known =
    let k = class_kind (class_of typing.table class.text) in
    in_turn_passes (class_known typing.table class) _ known
    (hands_on (place_type typing (with_object typing locals class name) (Whole name)) _ k verdict_passed
    (innermost typing locals name k)
    (in_turn_passes (required (takes_object_of typing.table (class_of typing.table class.text) k) (type_differs at))
    verdict_passed
    (required_passes _ (type_differs at) (takes_itself typing.table (class_of typing.table class.text)
    (was_held _ (unknown_name class.at) known))) refl))

module _ (setting : Setting) (classes : KnowsClasses setting.program) (run : Runner) (keeps : KeepsAll setting run)
    (extra : ℕ → ℕ) (locals shape : Locals) (class : ℕ) (inside : class < length setting.program.classes)
    (means : MeansSame locals shape) where
  abbrev program : Source
  program = setting.program

  abbrev typing : Typing
  typing = setting_in program (table_of program) class

  abbrev Kept : State → State → Type 0
  Kept st end = Keeps setting extra shape class st end

  pub construct_keeps : (n at : ℕ) (of_class name : Ident) (body : Statements) (end : Ident) (st : State)
      → construct_rules typing locals of_class name end ≡ verdict_passed
      → check_statements typing (with_object typing locals of_class name) body ≡ verdict_passed → IsPlain body
      → Sound setting extra shape class st → Ends (Kept st)
      (statement setting n run (Construct at of_class name body end) st)
  construct_keeps n at of_class name body end st h checked plain s =
      let a = both_passed (class_known typing.table of_class) _ h in
      let k = class_kind (class_of typing.table of_class.text) in
      let inner = with_object typing locals of_class name in
      let made = made_in typing locals at of_class name a.0 in
      let first = New at (AnObject of_class) (Whole name) in
      let last = Then (Delete at (AnObject of_class) (Whole name)) End in
      with_local_keeps setting classes run keeps extra locals shape class inside means name.text k (Null at)
      (constructed at of_class name body) (Null at) st
      (nil_end at (no_int_class (class_of typing.table of_class.text)))
      (nil_end at (no_int_class (class_of typing.table of_class.text)))
      (in_turn_passes (check_statement typing inner first) (check_statements typing inner (joined body last)) made
      (check_joined typing inner body last checked (in_turn_passes
      (check_statement typing inner (Delete at (AnObject of_class) (Whole name))) verdict_passed made refl)))
      ((tt, tt), plain_joined body last plain ((tt, tt), tt)) s

  -- ---- calls on elements

  pub not_in : (e : Expression) → HasNames e → occurs [] e ≡ false
  not_in (Number at word) h = refl
  not_in (Null at) h = refl
  not_in (Variable name) h = bytes_turned name.text [] ∙ h
  not_in (Element name index) h = ap (λ b. b || occurs [] index) (bytes_turned name.text [] ∙ h.0) ∙ not_in index h.1
  not_in (Binary at operator left right) h = ap (λ b. b || occurs [] right) (not_in left h.0) ∙ not_in right h.1

  module _ (at : ℕ) (k : Kind) where
    abbrev l : Local
    l = record { name = []; kind = k }

    pub known_under : (args : List Ident) → AreNamed args
        → each_passes (argument_known typing locals false at) args ≡ verdict_passed
        → each_passes (argument_known typing (l ∷ locals) false at) args ≡ verdict_passed
    known_under [] n h = refl
    known_under (a ∷ args) n h =
        let both = both_passed (argument_known typing locals false at a)
        (each_passes (argument_known typing locals false at) args) h in
        let same = kind_in_under typing l locals a.text (bytes_turned a.text [] ∙ n.0) in
        in_turn_passes (argument_known typing (l ∷ locals) false at a)
        (each_passes (argument_known typing (l ∷ locals) false at) args)
        (ap (λ z. in_turn (required (is_some z) (unknown_name a.at)) verdict_passed) same ∙ both.0)
        (known_under args n.1 both.1)

    pub fit_under : (params : List Var) (args : List Ident) → AreNamed args
        → arguments_fit typing locals params args ≡ verdict_passed
        → arguments_fit typing (l ∷ locals) params args ≡ verdict_passed
    fit_under [] args n h = refl
    fit_under (p ∷ params) [] n h = refl
    fit_under (p ∷ params) (a ∷ args) n h =
        let both = both_passed (argument_fits typing locals p a) (arguments_fit typing locals params args) h in
        let same = kind_in_under typing l locals a.text (bytes_turned a.text [] ∙ n.0) in
        in_turn_passes (argument_fits typing (l ∷ locals) p a) (arguments_fit typing (l ∷ locals) params args)
        (ap (λ z. required (same_kind (kind_of typing.table p.kind) (unwrap_or z kind.Nil)) (type_differs a.at)) same
        ∙ both.0)
        (fit_under params args n.1 both.1)

    pub new_after : (before args : List Ident) → AreNamed args
        → each_passes_after argument_new before args ≡ verdict_passed
        → each_passes_after argument_new (element_name at ∷ before) args ≡ verdict_passed
    new_after before [] n h = refl
    new_after before (a ∷ args) n h =
        let both = both_passed (argument_new before a) (each_passes_after argument_new (before ++ a ∷ []) args) h in
        in_turn_passes (argument_new (element_name at ∷ before) a)
        (each_passes_after argument_new (element_name at ∷ (before ++ a ∷ [])) args)
        (ap (λ b. required (not (b || list_any (λ (other : Ident). bytes_eq other.text a.text) before))
        (same_argument a.at)) n.0 ∙ both.0)
        (new_after (before ++ a ∷ []) args n.1 both.1)

  pub slots_under : (at : ℕ) (k : Kind) (name : Ident) (index : Expression) (method : Ident) (args : List Ident)
      (static : ℕ) → AreNamed args → (o : Option ℕ)
      → slot_rules typing locals at (Some (Item name index)) method args static o ≡ verdict_passed
      → slot_rules typing (record { name = []; kind = k } ∷ locals) at (Some (Whole (element_name at))) method args
      static o ≡ verdict_passed
  slots_under at k name index method args static n None h = absurd (cc)
  slots_under at k name index method args static n (Some slot) h =
      let params = parameters_of program (dispatch_in typing.table static slot) in
      let a = both_passed (each_passes (argument_known typing locals false at) args) _ h in
      let b = both_passed (each_passes_after argument_new [] args) _ a.1 in
      let c = both_passed (required (nat_eq (length args) (length params)) (wrong_arity method.at))
      (arguments_fit typing locals params args) b.1 in
      in_turn_passes (each_passes (argument_known typing (record { name = []; kind = k } ∷ locals) false at) args) _
      (known_under at k args n a.0)
      (in_turn_passes (each_passes_after argument_new (element_name at ∷ []) args) _ (new_after at k [] args n b.0)
      (in_turn_passes (required (nat_eq (length args) (length params)) (wrong_arity method.at)) _ c.0
      (fit_under at k params args n c.1)))

  pub call_element_keeps : (n at : ℕ) (back : Bool) (name : Ident) (index : Expression) (method : Ident)
      (args : List Ident) (st : State) → call_rules typing locals at (Some (Item name index)) method args
      ≡ verdict_passed
      → HasWords index → IsNamed name → HasNames index → AreNamed args
      → Sound setting extra shape class st → Ends (Kept st)
      (statement setting n run (Call at back (Some (Item name index)) method args) st)
  call_element_keeps n at back name index method args st h words named indexes all s =
      let r = receiver_parts setting classes run keeps extra locals shape class inside means at (Item name index) method
      args h in
      let k = kind.Class r.static in
      let l : Local = record { name = []; kind = k } in
      let inner : Locals = l ∷ locals in
      let e = element_name at in
      let exchange = Swap at (Whole e) (Item name index) in
      let call = Call at back (Some (Whole e)) method args in
      let receiver : place_type typing inner (Whole e) ≡ Ok k = innermost typing locals e k in
      let element : place_type typing inner (Item name index) ≡ Ok k =
      type_of_under typing l locals (Element name index) (not_in (Element name index) (named, indexes)) ∙ r.is in
      let swap_rest : Kind → Kind → Verdict = λ a b. in_turn (required (same_kind a b) (type_differs at))
      (required (not (in_either_index [] (Whole e) (Item name index) || in_either_index name.text (Whole e)
      (Item name index))) (self_update at)) in
      let swapped : swap_rules typing inner at (Whole e) (Item name index) ≡ verdict_passed =
      hands_on (place_type typing inner (Whole e)) (λ a. then_checked (place_type typing inner (Item name index))
      (λ b. swap_rest a b)) k verdict_passed receiver (hands_on (place_type typing inner (Item name index))
      (λ b. swap_rest k b) k verdict_passed element
      (in_turn_passes (required (same_kind k k) (type_differs at)) _
      (required_passes _ (type_differs at) (same_as_itself k))
      (required_passes _ (self_update at) (ap (λ b. not (b || occurs name.text index)) (not_in index indexes)
      ∙ ap not r.apart)))) in
      let called : call_rules typing inner at (Some (Whole e)) method args ≡ verdict_passed =
      hands_on (receiver_class typing inner (Some (Whole e)))
      (λ c. slot_rules typing inner at (Some (Whole e)) method args c (slot_in typing.table c method.text)) r.static
      verdict_passed
      (hands_on (place_type typing inner (Whole e)) (λ x. then_checked (receiver_kind at x) (place_class at (Whole e)))
      k
      (Ok r.static) receiver refl)
      (slots_under at k name index method args r.static all (slot_in typing.table r.static method.text) r.rules) in
      with_local_keeps setting classes run keeps extra locals shape class inside means [] k (Null at)
      (element_call at back name index method args) (Null at) st
      (nil_end at refl) (nil_end at refl)
      (in_turn_passes (check_statement typing inner exchange)
      (check_statements typing inner (Then call (Then exchange End))) swapped
      (in_turn_passes (check_statement typing inner call) (check_statements typing inner (Then exchange End)) called
      (in_turn_passes (check_statement typing inner exchange) verdict_passed swapped refl)))
      ((tt, words), (tt, ((tt, words), tt))) s
