-- What acceptance says of methods: each is checked and small, and a call finds one.
use Rattle.std.proofs.Common.{◌≡◌, ◌∙◌, sym, ap, subst, refl, ℕ, zero, suc, ◌+◌, ◌<◌, Bool, true, false, List, [], ◌∷◌}
use Rattle.std.proofs.Common.{◌++◌, map, length, Option, Some, None, arith, slice_get}
use Rattle.std.proofs.lemmas.Bool.{eqb-true, ltb-true, ltb-false}
use Rattle.std.proofs.lemmas.List.{length-map}
use Rattle.std.proofs.lemmas.List.Quantifiers.{position-Some}
use Rattle.std.proofs.lemmas.Option.{slice_get_within, slice_get_past, get_or_from_slice_get}
use Rattle.std.specs.Prelude.{nat_eq, nat_lt, position, ◌||◌, All}
use Rattle.std.specs.Option.{unwrap_or}
use Rattle.std.specs.Str.{bytes_eq}
use Rattle.rpp_tree.specs.Tree.{Procedure, ClassText, Source}
use Rattle.rpp_tree.specs.Limits.{IsSmallMethod}
use Rattle.class_rules.specs.declared.method.MethodId.{MethodId}
use Rattle.class_rules.specs.Chains.{parents, chain_of, class_line}
use Rattle.class_rules.specs.Members.{Slots, class_at, no_procedure, slots_along}
use Rattle.class_rules.specs.Overrides.{parameters_of, run_at}
use Rattle.class_rules.specs.Classes.{class_slots, method_slot, dispatch, procedure_at, method_named, inherits}
use Rattle.class_rules.specs.Table.{Table, table_of, slots_in, slot_in, dispatch_in}
use Rattle.class_rules.specs.Statements.{verdict_passed, in_turn, each_passes}
use Rattle.class_rules.specs.Program.{check_method, setting_in, check_class, check_classes, IsAccepted}
use Rattle.class_rules.specs.Inheritance.{is_or_inherits, kind_of_var, IsDispatched, CallsFindMethods}
use Rattle.class_rules.proofs.Tables.{table_reads}
use Rattle.class_rules.proofs.Numbers.{length-each_below}
use Rattle.class_rules.proofs.ChainEnds.{parents_in}
use Rattle.class_rules.proofs.FirstPlaces.{position_before}
use Rattle.class_rules.proofs.PassedRules.{both_passed}
use Rattle.class_rules.proofs.ClassLines.{in_range, own_line, inherits_parts, inherits_inside, on_line_above}
use Rattle.class_rules.proofs.InheritedSlots.{overrides_fit, class_there, longer, there_at, run_is, AreEntries}
use Rattle.class_rules.proofs.InheritedSlots.{entries_along, extends_own, slot_name}

-- ---- every method is checked, and small

each_passed : {A : Type 0} (rule : A → Rattle.class_rules.specs.Statements.Verdict) (xs : List A) (k : ℕ) (x : A)
    → each_passes rule xs ≡ verdict_passed → slice_get xs k ≡ Some x → rule x ≡ verdict_passed
each_passed rule [] k x h at = absurd (cc)
each_passed rule (y ∷ xs) zero x h at = let e : y ≡ x = cc in ap rule (sym e)
    ∙ (both_passed (rule y) (each_passes rule xs) h).0
each_passed rule (y ∷ xs) (suc k) x h at = each_passed rule xs k x (both_passed (rule y) (each_passes rule xs) h).1 at

class_checked : (program : Source) (table : Table) (number : ℕ) (classes : List ClassText) (k : ℕ) (c : ClassText)
    → check_classes program table number classes ≡ verdict_passed → slice_get classes k ≡ Some c
    → check_class program table (number + k) c ≡ verdict_passed
class_checked program table number [] k c h at = absurd (cc)
class_checked program table number (x ∷ classes) zero c h at =
    let e : x ≡ c = cc in
    let z : number + 0 ≡ number = omega arith in
    ap (λ n. check_class program table n c) z ∙ ap (check_class program table number) (sym e)
    ∙ (both_passed (check_class program table number x) (check_classes program table (number + 1) classes) h).0
class_checked program table number (x ∷ classes) (suc k) c h at =
    let z : number + suc k ≡ number + 1 + k = omega arith in
    ap (λ n. check_class program table n c) z ∙ class_checked program table (number + 1) classes k c
    (both_passed (check_class program table number x) (check_classes program table (number + 1) classes) h).1 at

pub method_checked : (program : Source) → IsAccepted program → (class number : ℕ) (method : Procedure)
    → class < length program.classes → slice_get (class_at program class).methods number ≡ Some method
    → check_method (setting_in program (table_of program) class) method ≡ verdict_passed
method_checked program accepted class number method inside at =
    let z : 0 + class ≡ class = omega arith in
    let c = class_checked program (table_of program) 0 program.classes class (class_at program class) accepted.types
    (class_there program.classes class inside) in
    each_passed (check_method (setting_in program (table_of program) class)) (class_at program class).methods number
    method (ap (λ n. check_class program (table_of program) n (class_at program class)) (sym z) ∙ c) at

pub all_at : {A : Type 0} (P : A → Type 0) (xs : List A) (k : ℕ) (x : A) → All P xs → slice_get xs k ≡ Some x → P x
all_at P xs k x all at = subst P (get_or_from_slice_get xs k x x at) (all k x (slice_get_within xs k x at))

pub method_small : (program : Source) → IsAccepted program → (class number : ℕ) (method : Procedure)
    → class < length program.classes → slice_get (class_at program class).methods number ≡ Some method
    → IsSmallMethod method
method_small program accepted class number method inside at =
    all_at IsSmallMethod (class_at program class).methods number method
    (all_at (λ (c : ClassText). All IsSmallMethod c.methods) program.classes class (class_at program class)
    accepted.limits.methods_small (class_there program.classes class inside))
    at

-- ---- what a call finds

-- a class with a slot is one of the program's
pub slot_inside : (program : Source) (class slot : ℕ) (name : List ℕ)
    → slot_in (table_of program) class name ≡ Some slot → class < length program.classes
slot_inside program class slot name h = by (nat_lt class (length program.classes)) refl
  where
    by : (b : Bool) → nat_lt class (length program.classes) ≡ b → class < length program.classes
    by true e = ltb-true class (length program.classes) e
    by false e =
        let past = ltb-false class (length program.classes) e in
        let many = length-each_below (class_slots program) (length program.classes) in
        let none : slots_in (table_of program) class ≡ [] =
        ap (λ z. unwrap_or z []) (slice_get_past (table_of program).slots class (omega arith)) in
        let nowhere : slot_in (table_of program) class name ≡ position (bytes_eq name) [] =
        ap (λ (s : Slots). position (bytes_eq name) (map slot_name s)) none in
        absurd (cc)

-- the line of a class of the program, if it has one
pub record HasLine (program : Source) (own : ℕ) : Type 0 where
  pub shorter : List ℕ
  pub is : class_line program own ≡ shorter ++ own ∷ []
  pub chain_is : chain_of program own ≡ Some (shorter ++ own ∷ [])

pub has_line : (program : Source) (own p : ℕ) (x : List ℕ × MethodId) → slice_get (class_slots program own) p ≡ Some x
    → HasLine program own
has_line program own p x h = by (chain_of program own) refl
  where
    by : (r : Option (List ℕ)) → chain_of program own ≡ r → HasLine program own
    by None e =
        let nothing : class_line program own ≡ [] = ap (λ r. unwrap_or r []) e in
        let none : class_slots program own ≡ [] = ap (slots_along program []) nothing in
        let f = ap (λ (s : Slots). slice_get s p) none in
        absurd (cc)
    by (Some line) e =
        let l = own_line program (length program.classes) own line e in
        record { shorter = l.shorter; is = ap (λ r. unwrap_or r []) e ∙ l.is; chain_is = e ∙ ap Some l.is }

own_inside : (program : Source) (own : ℕ) → own < length program.classes → (number : ℕ) → Some own ≡ Some number
    → number < length program.classes
own_inside program own h number e = let s : own ≡ number = cc in subst (λ n. n < length program.classes) s h

-- what a call finds, and its offset in the source
pub record Dispatched (program : Source) (own class slot : ℕ) (name : List ℕ) : Type 0 where
  pub id : MethodId
  pub there : slice_get (class_at program id.class).methods id.method ≡ Some (method_named program own name)
  pub id_is : dispatch program own (unwrap_or (method_slot program own name) 0) ≡ id
  pub slot_own : method_slot program own name ≡ Some slot
  pub low : slot < length (class_slots program own)
  pub runs_is : run_at (class_slots program own) slot ≡ id
  pub found : IsDispatched program own (method_named program own name)
      (parameters_of program (dispatch_in (table_of program) class slot))
  pub class_is : found.class ≡ id.class

pub dispatched_method : (program : Source) → IsAccepted program → (own class slot : ℕ) (name : List ℕ)
    → own < length program.classes → is_or_inherits program own class ≡ true
    → slot_in (table_of program) class name ≡ Some slot
    → Dispatched program own class slot name
dispatched_method program accepted own class slot name own_in above h =
    let inside = slot_inside program class slot name h in
    let slots : slots_in (table_of program) class ≡ class_slots program class =
    (table_reads program class inside).slots in
    let ext = extends_own program (overrides_fit program accepted.classes) own class above in
    let at : position (bytes_eq name) (map slot_name (class_slots program class)) ≡ Some slot =
    ap (λ (s : Slots). position (bytes_eq name) (map slot_name s)) (sym slots) ∙ h in
    let low = (position-Some (bytes_eq name) (map slot_name (class_slots program class)) slot [] at).0 in
    let below : slot < length (class_slots program class) =
    omega (arith, length-map (class_slots program class) slot_name) in
    let more = longer program (class_slots program class) (class_slots program own) ext in
    let own_at : method_slot program own name ≡ Some slot = ap (position (bytes_eq name)) ext.names_are
    ∙ position_before (bytes_eq name) (map slot_name (class_slots program class)) ext.names slot at in
    let x = there_at (class_slots program own) slot (omega arith) in
    let line = has_line program own slot x.0 x.1 in
    let whole = line.shorter ++ own ∷ [] in
    let entries : AreEntries program whole (slots_along program [] whole) =
    entries_along program whole whole [] (λ q g. g) (record { at = λ p y g. absurd (nothing p y g) }) in
    let entry = entries.at slot x.0 (ap (λ l. slice_get (slots_along program [] l) slot) (sym line.is) ∙ x.1) in
    let class' = x.0.1.class in
    let class_in : class' < length program.classes = in_range (length program.classes) (length program.classes)
    (parents program) (Some own) whole class' (parents_in program) (own_inside program own own_in) line.chain_is
    entry.known in
    let runs : run_at (class_slots program own) slot ≡ x.0.1 = run_is (class_slots program own) slot x.0 x.1 in
    let method_is : method_named program own name ≡ entry.method =
    ap (λ o. procedure_at program (dispatch program own (unwrap_or o 0))) own_at ∙ ap (procedure_at program) runs
    ∙ ap (λ z. unwrap_or z no_procedure) entry.there in
    let params_are : parameters_of program x.0.1 ≡ entry.method.params =
    ap (λ (z : Option Procedure). (unwrap_or z no_procedure).params) entry.there in
    let types : map (kind_of_var program) entry.method.params
    ≡ map (kind_of_var program) (parameters_of program (dispatch_in (table_of program) class slot)) =
    ap (map (kind_of_var program)) (sym params_are ∙ ap (parameters_of program) (sym runs)) ∙ ext.types_same slot below
    ∙ ap (λ s. map (kind_of_var program) (parameters_of program (run_at s slot))) (sym slots) in
    record {
      id = x.0.1;
      there = entry.there ∙ ap (λ z. Some z) (sym method_is);
      id_is = ap (λ o. dispatch program own (unwrap_or o 0)) own_at ∙ runs;
      slot_own = own_at;
      low = omega (arith, below, more);
      runs_is = runs;
      found = record {
        class = class';
        inside = class_in;
        above = on_line_above program own class' line.shorter line.is entry.known;
        checked = subst (λ m. check_method (setting_in program (table_of program) class') m ≡ verdict_passed)
            (sym method_is)
            (method_checked program accepted class' x.0.1.method entry.method class_in entry.there);
        same_types = subst (λ (m : Procedure). map (kind_of_var program) m.params
            ≡ map (kind_of_var program) (parameters_of program (dispatch_in (table_of program) class slot)))
            (sym method_is) types;
        small = subst IsSmallMethod (sym method_is) (method_small program accepted class' x.0.1.method entry.method
            class_in entry.there);
      };
      class_is = refl;
    }
  where
    nothing : (p : ℕ) (y : List ℕ × MethodId) → slice_get [] p ≡ Some y → ⊥
    nothing p y g = cc

-- a class that is or inherits from one of the program's is one itself
pub own_range : (program : Source) (own class : ℕ) → is_or_inherits program own class ≡ true
    → class < length program.classes → own < length program.classes
own_range program own class h inside = by (nat_eq own class) refl h
  where
    by : (b : Bool) → nat_eq own class ≡ b → (b || inherits program own class) ≡ true → own < length program.classes
    by true e q = subst (λ c. c < length program.classes) (sym (eqb-true own class e)) inside
    by false e q = inherits_inside program own class (inherits_parts program own class q)

pub calls_find_methods : CallsFindMethods
calls_find_methods program accepted own class slot name above h =
    (dispatched_method program accepted own class slot name
    (own_range program own class above (slot_inside program class slot name h)) above h).found
