-- What the rules of types say of an accepted call on an element. They accept the exchange with a
-- variable of the element's class, whose name is empty, and the call on that variable.
use Rattle.std.proofs.Common.{◌≡◌, ℕ, Bool, true, false, List, [], ◌∷◌, ◌++◌, length, Option, Some, None, refl, ap, ◌∙◌}
use Rattle.std.specs.Prelude.{nat_eq, is_some, not, ◌||◌, if◌then◌else◌, Ok, Err}
use Rattle.std.specs.Option.{unwrap_or}
use Rattle.std.specs.Str.{bytes_eq}
use Rattle.std.specs.List.{list_any}
use Rattle.refine_objects.specs.rpp_tree.declared.tree.Ident.{Ident}
use Rattle.refine_objects.specs.rpp_tree.declared.tree.Var.{Var}
use Rattle.refine_objects.specs.rpp_tree.Tree.{Expression, Number, Null, Variable, Element, Binary, Whole, Item}
use Rattle.branch_codegen.specs.class_rules.declared.kind.Kind.{Kind}
use Rattle.branch_codegen.specs.class_rules.declared.kind.Kind.TheVariants as kind
use Rattle.branch_codegen.specs.class_rules.Overrides.{parameters_of}
use Rattle.branch_codegen.specs.class_rules.Table.{slot_in, dispatch_in}
use Rattle.branch_codegen.specs.class_rules.Refusal.{unknown_name, type_differs, self_update, same_argument}
use Rattle.branch_codegen.specs.class_rules.Refusal.{wrong_arity}
use Rattle.branch_codegen.specs.class_rules.Scope.{Typing, Local, Locals, kind_of}
use Rattle.branch_codegen.specs.class_rules.Expressions.{then_checked, is_int, index_is_int, element_kind_of}
use Rattle.branch_codegen.specs.class_rules.Expressions.{variable_type, occurs, type_of}
use Rattle.branch_codegen.specs.class_rules.Expressions.{place_type, first_token}
use Rattle.branch_codegen.specs.class_rules.Statements.{Verdict, receiver_kind, place_class, verdict_passed, required}
use Rattle.branch_codegen.specs.class_rules.Statements.{in_turn, each_passes}
use Rattle.branch_codegen.specs.class_rules.Statements.{each_passes_after, same_kind, in_either_index, swap_rules}
use Rattle.branch_codegen.specs.class_rules.Statements.{argument_known}
use Rattle.branch_codegen.specs.class_rules.Statements.{argument_new, argument_fits, arguments_fit, slot_rules}
use Rattle.branch_codegen.specs.class_rules.Statements.{call_rules}
use Rattle.branch_codegen.specs.class_rules.Statements.{receiver_class}
use Rattle.branch_codegen.proofs.class_rules_laws.FirstPlaces.{bytes_turned}
use Rattle.branch_codegen.proofs.class_rules_laws.PassedRules.{both_passed, in_turn_passes, required_passes, handed_on}
use Rattle.branch_codegen.proofs.class_rules_laws.PassedRules.{hands_on}
use Rattle.branch_codegen.proofs.class_rules_laws.PassedRules.{same_as_itself}
use Rattle.branch_codegen.specs.roopl_semantics.Execution.{element_name}
use Rattle.branch_codegen.specs.meaning_sound.Plain.{IsNamed, HasNames, AreNamed}
use Rattle.branch_codegen.proofs.meaning_sound_laws.Expansions.{innermost}
use Rattle.branch_codegen.proofs.meaning_sound_laws.Locals.{kind_in_under, type_of_under}

-- the empty name does not occur if no name is empty
not_in : (e : Expression) → HasNames e → occurs [] e ≡ false
not_in (Number at word) h = refl
not_in (Null at) h = refl
not_in (Variable name) h = bytes_turned name.text [] ∙ h
not_in (Element name index) h = ap (λ b. b || occurs [] index) (bytes_turned name.text [] ∙ h.0) ∙ not_in index h.1
not_in (Binary at operator left right) h = ap (λ b. b || occurs [] right) (not_in left h.0) ∙ not_in right h.1

class_is : (at : ℕ) (k : Kind) (c : ℕ) → receiver_kind at k ≡ Ok c → k ≡ kind.Class c
class_is at kind.Int c h = absurd (cc)
class_is at kind.Nil c h = absurd (cc)
class_is at (kind.Class x) c h = let e : x ≡ c = cc in ap kind.Class e
class_is at kind.IntArray c h = absurd (cc)
class_is at (kind.ClassArray x) c h = absurd (cc)

-- an array with such elements
array_is : (name : Ident) (k : Kind) (c : ℕ) → element_kind_of name k ≡ Ok (kind.Class c) → k ≡ kind.ClassArray c
array_is name kind.Int c h = absurd (cc)
array_is name kind.Nil c h = absurd (cc)
array_is name (kind.Class x) c h = absurd (cc)
array_is name kind.IntArray c h = absurd (cc)
array_is name (kind.ClassArray x) c h = let e : x ≡ c = cc in ap kind.ClassArray e

index_is : (element : Kind) (at : ℕ) (i : Kind) (k : Kind) → index_is_int element at i ≡ Ok k → element ≡ k
index_is element at i k h = by (is_int i) h
  where
    by : (b : Bool) → (if b then Ok element else Err (type_differs at)) ≡ Ok k → element ≡ k
    by true h = cc
    by false h = absurd (cc)

own_index : (at : ℕ) (x y : ℕ) (b : Bool) → (if b then Err (self_update at) else Ok x) ≡ Ok y → (b ≡ false) × (x ≡ y)
own_index at x y true q = absurd (cc)
own_index at x y false q = (refl, cc)

module _ (typing : Typing) (locals : Locals) (at : ℕ) where
  -- with the variable
  abbrev pub inner : Kind → Locals
  inner k = record { name = []; kind = k } ∷ locals

  known_under : (k : Kind) (args : List Ident) → AreNamed args
      → each_passes (argument_known typing locals false at) args ≡ verdict_passed
      → each_passes (argument_known typing (inner k) false at) args ≡ verdict_passed
  known_under k [] n h = refl
  known_under k (a ∷ args) n h =
      let both = both_passed (argument_known typing locals false at a)
      (each_passes (argument_known typing locals false at) args) h in
      let same = kind_in_under typing (record { name = []; kind = k }) locals a.text (bytes_turned a.text [] ∙ n.0) in
      in_turn_passes (argument_known typing (inner k) false at a)
      (each_passes (argument_known typing (inner k) false at) args)
      (ap (λ z. in_turn (required (is_some z) (unknown_name a.at)) verdict_passed) same ∙ both.0)
      (known_under k args n.1 both.1)

  fit_under : (k : Kind) (params : List Var) (args : List Ident) → AreNamed args
      → arguments_fit typing locals params args ≡ verdict_passed
      → arguments_fit typing (inner k) params args ≡ verdict_passed
  fit_under k [] args n h = refl
  fit_under k (p ∷ params) [] n h = refl
  fit_under k (p ∷ params) (a ∷ args) n h =
      let both = both_passed (argument_fits typing locals p a) (arguments_fit typing locals params args) h in
      let same = kind_in_under typing (record { name = []; kind = k }) locals a.text (bytes_turned a.text [] ∙ n.0) in
      in_turn_passes (argument_fits typing (inner k) p a) (arguments_fit typing (inner k) params args)
      (ap (λ z. required (same_kind (kind_of typing.table p.kind) (unwrap_or z kind.Nil)) (type_differs a.at)) same
      ∙ both.0)
      (fit_under k params args n.1 both.1)

  new_after : (before args : List Ident) → AreNamed args → each_passes_after argument_new before args ≡ verdict_passed
      → each_passes_after argument_new (element_name at ∷ before) args ≡ verdict_passed
  new_after before [] n h = refl
  new_after before (a ∷ args) n h =
      let both = both_passed (argument_new before a) (each_passes_after argument_new (before ++ a ∷ []) args) h in
      in_turn_passes (argument_new (element_name at ∷ before) a)
      (each_passes_after argument_new (element_name at ∷ (before ++ a ∷ [])) args)
      (ap (λ b. required (not (b || list_any (λ (other : Ident). bytes_eq other.text a.text) before))
      (same_argument a.at)) n.0 ∙ both.0)
      (new_after (before ++ a ∷ []) args n.1 both.1)

  slots_under : (k : Kind) (name : Ident) (index : Expression) (method : Ident) (args : List Ident) (static : ℕ)
      → AreNamed args → (o : Option ℕ)
      → slot_rules typing locals at (Some (Item name index)) method args static o ≡ verdict_passed
      → slot_rules typing (inner k) at (Some (Whole (element_name at))) method args static o ≡ verdict_passed
  slots_under k name index method args static n None h = absurd (cc)
  slots_under k name index method args static n (Some slot) h =
      let params = parameters_of typing.program (dispatch_in typing.table static slot) in
      let a = both_passed (each_passes (argument_known typing locals false at) args) _ h in
      let b = both_passed (each_passes_after argument_new [] args) _ a.1 in
      let c = both_passed (required (nat_eq (length args) (length params)) (wrong_arity method.at))
      (arguments_fit typing locals params args) b.1 in
      in_turn_passes (each_passes (argument_known typing (inner k) false at) args) _ (known_under k args n a.0)
      (in_turn_passes (each_passes_after argument_new (element_name at ∷ []) args) _ (new_after [] args n b.0)
      (in_turn_passes (required (nat_eq (length args) (length params)) (wrong_arity method.at)) _ c.0
      (fit_under k params args n c.1)))

  pub record ElementRules (name : Ident) (index : Expression) (method : Ident) (args : List Ident) : Type 0 where
    pub class : ℕ
    pub array : variable_type typing locals name ≡ Ok (kind.ClassArray class)
    pub swapped : swap_rules typing (inner (kind.Class class)) at (Whole (element_name at)) (Item name index)
        ≡ verdict_passed
    pub called : call_rules typing (inner (kind.Class class)) at (Some (Whole (element_name at))) method args
        ≡ verdict_passed

  pub element_rules : (name : Ident) (index : Expression) (method : Ident) (args : List Ident) → IsNamed name
      → HasNames index → AreNamed args
      → call_rules typing locals at (Some (Item name index)) method args ≡ verdict_passed
      → ElementRules name index method args
  element_rules name index method args named indexes all h =
      let c = handed_on (receiver_class typing locals (Some (Item name index))) _ tt h in
      let p = handed_on (place_type typing locals (Item name index)) _ c.value c.is in
      let r = handed_on (receiver_kind name.at p.value) (place_class name.at (Item name index)) c.value p.goes in
      let own = own_index name.at r.value c.value (occurs name.text index) r.goes in
      let of_class : p.value ≡ kind.Class c.value = class_is name.at p.value r.value r.is ∙ ap kind.Class own.1 in
      let typed : place_type typing locals (Item name index) ≡ Ok (kind.Class c.value) = p.is
      ∙ ap (λ z. Ok z) of_class in
      let v = handed_on (variable_type typing locals name) _ (kind.Class c.value) typed in
      let e = handed_on (element_kind_of name v.value) _ (kind.Class c.value) v.goes in
      let i = handed_on (type_of typing locals index) (index_is_int e.value (first_token index)) (kind.Class c.value)
      e.goes in
      let is : e.value ≡ kind.Class c.value = index_is e.value (first_token index) i.value (kind.Class c.value) i.goes
      in
      let k = kind.Class c.value in
      let l : Local = record { name = []; kind = k } in
      let t = element_name at in
      let receiver : place_type typing (inner k) (Whole t) ≡ Ok k = innermost typing locals t k in
      let element : place_type typing (inner k) (Item name index) ≡ Ok k =
      type_of_under typing l locals (Element name index) (not_in (Element name index) (named, indexes)) ∙ typed in
      let swap_rest : Kind → Kind → Verdict = λ a b. in_turn (required (same_kind a b) (type_differs at))
      (required (not (in_either_index [] (Whole t) (Item name index) || in_either_index name.text (Whole t)
      (Item name index))) (self_update at)) in
      record {
        class = c.value;
        array = v.is ∙ ap (λ z. Ok z) (array_is name v.value c.value (e.is ∙ ap (λ z. Ok z) is));
        swapped =
            hands_on (place_type typing (inner k) (Whole t)) (λ a. then_checked
            (place_type typing (inner k) (Item name index)) (λ b. swap_rest a b)) k verdict_passed receiver
            (hands_on (place_type typing (inner k) (Item name index)) (λ b. swap_rest k b) k verdict_passed element
            (in_turn_passes (required (same_kind k k) (type_differs at)) _
            (required_passes _ (type_differs at) (same_as_itself k))
            (required_passes _ (self_update at) (ap (λ b. not (b || occurs name.text index)) (not_in index indexes)
            ∙ ap not own.0))));
        called =
            hands_on (receiver_class typing (inner k) (Some (Whole t)))
            (λ c. slot_rules typing (inner k) at (Some (Whole t)) method args c
            (slot_in typing.table c method.text)) c.value verdict_passed
            (hands_on (place_type typing (inner k) (Whole t))
            (λ x. then_checked (receiver_kind at x) (place_class at (Whole t))) k (Ok c.value) receiver refl)
            (slots_under k name index method args c.value all (slot_in typing.table c.value method.text) c.goes);
      }
