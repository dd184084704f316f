-- The slots of a class come first in those of a class below it, with parameters of the same types;
-- each slot is a method of its name on the line.
use Rattle.std.proofs.Common.{◌≡◌, ◌≢◌, ◌∙◌, sym, ap, subst, refl, ℕ, zero, suc, ◌+◌, ◌-◌, ◌<◌, ◌≤◌, Bool, true, false}
use Rattle.std.proofs.Common.{not, List, [], ◌∷◌, ◌++◌, map, length, take, Option, Some, None, arith, slice_get}
use Rattle.std.proofs.Common.{append-nil, append_assoc, length-append}
use Rattle.std.proofs.lemmas.Bool.{eqb-true}
use Rattle.std.proofs.lemmas.List.{length-map}
use Rattle.std.specs.Prelude.{nat_eq, position, ◌||◌, if◌then◌else◌}
use Rattle.std.specs.Option.{option_or, unwrap_or, option_map}
use Rattle.std.specs.Str.{bytes_eq}
use Rattle.indexmap.specs.IndexMap.{insert_entry}
use Rattle.rpp_tree.specs.declared.tree.Var.{Var}
use Rattle.rpp_tree.specs.Tree.{Procedure, ClassText, Source}
use Rattle.class_rules.specs.declared.kind.Kind.{Kind}
use Rattle.class_rules.specs.declared.method.MethodId.{MethodId}
use Rattle.class_rules.specs.Refusal.{refused}
use Rattle.class_rules.specs.First.{refused_if, first_in, first_at}
use Rattle.class_rules.specs.Rules.{duplicate_class, unknown_class}
use Rattle.class_rules.specs.Chains.{parents, chain, class_line, inheritance_cycle}
use Rattle.class_rules.specs.Members.{Slots, class_at, no_class, no_procedure, with_methods, slots_along}
use Rattle.class_rules.specs.Members.{duplicate_field}
use Rattle.class_rules.specs.Overrides.{same_type, same_types, parameters_of, no_method, run_at, override_in_slot}
use Rattle.class_rules.specs.Overrides.{override_differs, inherited_slots, override_differs_at, differing_override}
use Rattle.class_rules.specs.Overrides.{duplicate_method}
use Rattle.class_rules.specs.Classes.{class_slots, method_slot, dispatch, procedure_at, method_named}
use Rattle.class_rules.specs.Table.{table_of, HasClassTable}
use Rattle.class_rules.proofs.ChainEnds.{parent, pushed_from, nothing_on, parents_in}
use Rattle.class_rules.specs.Inheritance.{is_or_inherits, kind_of_var}
use Rattle.class_rules.proofs.FirstPlaces.{position_cons, same_name}
use Rattle.class_rules.proofs.PassedRules.{both_true}
use Rattle.class_rules.proofs.SameTypes.{types_same}
use Rattle.class_rules.proofs.ClassLines.{on, line_is, front_of, inherits_parts, inherits_inside, last_on}

-- ---- rules that refuse nothing

pub none_of : {E : Type 0} (a b : Option E) → option_or a b ≡ None → (a ≡ None) × (b ≡ None)
none_of None b h = (refl, h)
none_of (Some e) b h = absurd (cc)

none_at : {A E : Type 0} (rule : ℕ → A → Option E) (n : ℕ) (xs : List A) (k : ℕ) (x : A) → first_at rule n xs ≡ None
    → slice_get xs k ≡ Some x → rule (n + k) x ≡ None
none_at rule n [] k x h at = absurd (cc)
none_at rule n (y ∷ xs) zero x h at =
    let e : y ≡ x = cc in
    let z : n + 0 ≡ n = omega arith in
    ap (λ i. rule i x) z ∙ ap (rule n) (sym e) ∙ (none_of (rule n y) (first_at rule (n + 1) xs) h).0
none_at rule n (y ∷ xs) (suc k) x h at =
    let z : n + suc k ≡ n + 1 + k = omega arith in
    ap (λ i. rule i x) z ∙ none_at rule (n + 1) xs k x (none_of (rule n y) (first_at rule (n + 1) xs) h).1 at

not_refused : {E : Type 0} (b : Bool) (e : E) → refused_if (not b) e ≡ None → b ≡ true
not_refused true e h = refl
not_refused false e h = absurd (cc)

pub class_there : (classes : List ClassText) (k : ℕ) → k < length classes
    → slice_get classes k ≡ Some (unwrap_or (slice_get classes k) no_class)
class_there [] k h = absurd (omega arith)
class_there (c ∷ classes) zero h = refl
class_there (c ∷ classes) (suc k) h = class_there classes k (omega arith)

pub overrides_fit : (program : Source) → HasClassTable program → differing_override program ≡ None
overrides_fit program has =
    let a = none_of (duplicate_class program) _ (has.none 0) in
    let b = none_of (unknown_class program) _ a.1 in
    let c = none_of (inheritance_cycle program) _ b.1 in
    let d = none_of (duplicate_field program) _ c.1 in
    let e = none_of (duplicate_method program) _ d.1 in
    (none_of (differing_override program) _ e.1).0

-- ---- entries of a list of slots

abbrev pub slot_name : List ℕ × MethodId → List ℕ
slot_name slot = slot.0

-- what is at an index after an insertion
data AtPlace (slots : Slots) (name : List ℕ) (id : MethodId) (p : ℕ) (x : List ℕ × MethodId) : Type 0 where
  old : slice_get slots p ≡ Some x → AtPlace slots name id p x
  new : x ≡ (name, id) → (p < length slots → position (bytes_eq name) (map slot_name slots) ≡ Some p)
      → AtPlace slots name id p x

at_place : (slots : Slots) (name : List ℕ) (id : MethodId) (p : ℕ) (x : List ℕ × MethodId)
    → slice_get (insert_entry bytes_eq slots name id) p ≡ Some x → AtPlace slots name id p x
at_place [] name id zero x h = new (let e : (name, id) ≡ x = cc in sym e) (λ q. absurd (omega arith))
at_place [] name id (suc p) x h = absurd (cc)
at_place (e ∷ slots) name id p x h = by (bytes_eq name e.0) refl (λ q r. at_place slots name id q x r) p h
  where
    step : {q : ℕ} → bytes_eq name e.0 ≡ false → AtPlace slots name id q x → AtPlace (e ∷ slots) name id (suc q) x
    step f (old o) = old o
    step f (new i where_is) = new i (λ l. position_cons (bytes_eq name) e.0 (map slot_name slots) false f
        ∙ ap (option_map suc) (where_is (omega arith)))

    by : (b : Bool) → bytes_eq name e.0 ≡ b → ((q : ℕ) → slice_get (insert_entry bytes_eq slots name id) q ≡ Some x
        → AtPlace slots name id q x) → (p : ℕ) → slice_get
        (if b then (e.0, id) ∷ slots else e ∷ insert_entry bytes_eq slots name id) p ≡ Some x
        → AtPlace (e ∷ slots) name id p x
    by true f rest zero g =
        let i : (e.0, id) ≡ x = cc in
        new (sym i ∙ ap (λ z. (z, id)) (sym (same_name name e.0 f)))
        (λ l. position_cons (bytes_eq name) e.0 (map slot_name slots) true f)
    by true f rest (suc q) g = old g
    by false f rest zero g = old g
    by false f rest (suc q) g = step f (rest q g)

-- names that were there stay, and a new one goes last
names_after : (slots : Slots) (name : List ℕ) (id : MethodId)
    → (more : List (List ℕ)) × (map slot_name (insert_entry bytes_eq slots name id) ≡ map slot_name slots ++ more)
names_after [] name id = (name ∷ [], refl)
names_after (e ∷ slots) name id = by (bytes_eq name e.0) (names_after slots name id)
  where
    by : (b : Bool) → (more : List (List ℕ)) × (map slot_name (insert_entry bytes_eq slots name id)
        ≡ map slot_name slots ++ more) → (more : List (List ℕ))
        × (map slot_name (if b then (e.0, id) ∷ slots else e ∷ insert_entry bytes_eq slots name id)
        ≡ e.0 ∷ (map slot_name slots ++ more))
    by true rest = ([], ap (λ z. e.0 ∷ z) (sym (append-nil (map slot_name slots))))
    by false rest = (rest.0, ap (λ z. e.0 ∷ z) rest.1)

pub there_at : (slots : Slots) (p : ℕ) → p < length slots → (x : List ℕ × MethodId) × (slice_get slots p ≡ Some x)
there_at [] p h = absurd (omega arith)
there_at (e ∷ slots) zero h = (e, refl)
there_at (e ∷ slots) (suc p) h = there_at slots p (omega arith)

pub run_is : (slots : Slots) (p : ℕ) (x : List ℕ × MethodId) → slice_get slots p ≡ Some x → run_at slots p ≡ x.1
run_is slots p x h = ap (λ z. unwrap_or (option_map (λ (entry : List ℕ × MethodId). entry.1) z) no_method) h

-- a place in the front of a longer list
position_front : {X : Type 0} (p : X → Bool) (xs ys : List X) (i : ℕ) → i < length xs → position p (xs ++ ys) ≡ Some i
    → position p xs ≡ Some i
position_front p [] ys i h e = absurd (omega arith)
position_front p (x ∷ xs) ys i h e = by (p x) refl (λ j l q. position_front p xs ys j l q) i h
    (sym (position_cons p x (xs ++ ys) (p x) refl) ∙ e)
  where
    mapped : (r : Option ℕ) (i : ℕ) → option_map suc r ≡ Some (suc i) → r ≡ Some i
    mapped None i q = absurd (cc)
    mapped (Some j) i q = let s : suc j ≡ suc i = cc in ap (λ z. Some z) (omega arith)

    none : (r : Option ℕ) → option_map suc r ≡ Some 0 → ⊥
    none None q = cc
    none (Some j) q = let s : suc j ≡ 0 = cc in omega arith

    by : (b : Bool) → p x ≡ b → ((j : ℕ) → j < length xs → position p (xs ++ ys) ≡ Some j → position p xs ≡ Some j)
        → (i : ℕ) → i < length (x ∷ xs) → (if p x then Some 0 else option_map suc (position p (xs ++ ys))) ≡ Some i
        → position p (x ∷ xs) ≡ Some i
    by true f rest i l q = position_cons p x xs true f ∙ sym
        (ap (λ z. if z then Some 0 else option_map suc (position p (xs ++ ys))) f) ∙ q
    by false f rest zero l q = absurd (none (position p (xs ++ ys))
        (sym (ap (λ z. if z then Some 0 else option_map suc (position p (xs ++ ys))) f) ∙ q))
    by false f rest (suc i) l q = position_cons p x xs false f
        ∙ ap (option_map suc) (rest i (omega arith) (mapped (position p (xs ++ ys)) i
        (sym (ap (λ z. if z then Some 0 else option_map suc (position p (xs ++ ys))) f) ∙ q)))

module _ (program : Source) where
  abbrev types : List Var → List Kind
  types vars = map (kind_of_var program) vars

  abbrev types_at : Slots → ℕ → List Kind
  types_at slots p = types (parameters_of program (run_at slots p))

  types_by : (xs ys : List Var) → same_types xs ys ≡ true → types ys ≡ types xs
  types_by [] [] h = refl
  types_by [] (y ∷ ys) h = absurd (cc)
  types_by (x ∷ xs) [] h = absurd (cc)
  types_by (x ∷ xs) (y ∷ ys) h =
      let both = both_true (same_type x.kind y.kind) (same_types xs ys) h in
      ap (λ z. z ∷ types ys) (types_same (table_of program) x.kind y.kind both.0).kinds
      ∙ ap (λ z. kind_of_var program x ∷ z) (types_by xs ys both.1)

  -- slots that go on: the names stay at their places, and so do the types of parameters
  pub record Extends (slots more : Slots) : Type 0 where
    pub names : List (List ℕ)
    pub names_are : map slot_name more ≡ map slot_name slots ++ names
    pub types_same : (p : ℕ) → p < length slots → types_at more p ≡ types_at slots p

  extends_itself : (slots : Slots) → Extends slots slots
  extends_itself slots = record {
    names = [];
    names_are = sym (append-nil (map slot_name slots));
    types_same = λ p h. refl;
  }

  pub longer : (slots more : Slots) → Extends slots more → length slots ≤ length more
  longer slots more e =
      let a = ap length e.names_are in
      omega (arith, length-map slots slot_name, length-map more slot_name, length-append (map slot_name slots) e.names)

  extends_through : (a b c : Slots) → Extends a b → Extends b c → Extends a c
  extends_through a b c e f = record {
    names = e.names ++ f.names;
    names_are = f.names_are ∙ ap (λ z. z ++ f.names) e.names_are ∙ append_assoc (map slot_name a) e.names f.names;
    types_same = λ p h. f.types_same p (let l = longer a b e in omega arith) ∙ e.types_same p h;
  }

  -- each entry is a method of its name, in a class of a line
  pub record IsEntry (line : List ℕ) (x : List ℕ × MethodId) : Type 0 where
    pub known : on x.1.class line ≡ true
    pub method : Procedure
    pub there : slice_get (class_at program x.1.class).methods x.1.method ≡ Some method
    pub named : method.name.text ≡ x.0

  pub record AreEntries (line : List ℕ) (slots : Slots) : Type 0 where
    pub at : (p : ℕ) (x : List ℕ × MethodId) → slice_get slots p ≡ Some x → IsEntry line x

  -- methods from a number on
  abbrev AreFrom : ℕ → ℕ → List Procedure → Type 0
  AreFrom class number methods = (k : ℕ) (m : Procedure) → slice_get methods k ≡ Some m
      → slice_get (class_at program class).methods (number + k) ≡ Some m

  from_next : (class number : ℕ) (method : Procedure) (methods : List Procedure)
      → AreFrom class number (method ∷ methods) → AreFrom class (number + 1) methods
  from_next class number method methods h k m at = let e : number + 1 + k ≡ number + suc k = omega arith in
      ap (slice_get (class_at program class).methods) e ∙ h (suc k) m at

  from_first : (class number : ℕ) (method : Procedure) (methods : List Procedure)
      → AreFrom class number (method ∷ methods) → slice_get (class_at program class).methods number ≡ Some method
  from_first class number method methods h = let e : number ≡ number + 0 = omega arith in
      ap (slice_get (class_at program class).methods) e ∙ h 0 method refl

  entries_with : (line : List ℕ) (class : ℕ) → on class line ≡ true
      → (number : ℕ) (methods : List Procedure) (slots : Slots) → AreFrom class number methods → AreEntries line slots
      → AreEntries line (with_methods class number methods slots)
  entries_with line class there number [] slots from e = e
  entries_with line class there number (method ∷ methods) slots from e =
      entries_with line class there (number + 1) methods (insert_entry bytes_eq slots method.name.text
      (record { class = class; method = number })) (from_next class number method methods from)
      (record {
        at = λ p x h. by p x (at_place slots method.name.text (record { class = class; method = number }) p
            x h);
      })
    where
      by : (p : ℕ) (x : List ℕ × MethodId) → AtPlace slots method.name.text (record { class = class; method = number })
          p x → IsEntry line x
      by p x (old o) = e.at p x o
      by p x (new i w) = subst (IsEntry line) (sym i) (record
          { known = there; method = method; there = from_first class number method methods from; named = refl })

  pub entries_along : (line rest : List ℕ) (slots : Slots) → ((q : ℕ) → on q rest ≡ true → on q line ≡ true)
      → AreEntries line slots → AreEntries line (slots_along program slots rest)
  entries_along line [] slots sub e = e
  entries_along line (class ∷ rest) slots sub e =
      entries_along line rest (with_methods class 0 (class_at program class).methods slots)
      (λ q h. sub q (later q (nat_eq class q) h))
      (entries_with line class (sub class (ap (λ b. b || on class rest)
      (Rattle.std.proofs.Common.eq-eqb class class refl))) 0 (class_at program class).methods slots
      (λ k m h. let z : 0 + k ≡ k = omega arith in ap (slice_get (class_at program class).methods) z ∙ h) e)
    where
      later : (q : ℕ) (b : Bool) → on q rest ≡ true → (b || on q rest) ≡ true
      later q true h = refl
      later q false h = h

  -- the methods of a class extend the slots that it inherits
  extends_with : (base : Slots) (class number : ℕ) (methods : List Procedure) (slots : Slots)
      → AreFrom class number methods → first_in (override_differs program base) methods ≡ None → Extends base slots
      → Extends base (with_methods class number methods slots)
  extends_with base class number [] slots from fit e = e
  extends_with base class number (method ∷ methods) slots from fit e =
      let both = none_of (override_differs program base method) (first_in (override_differs program base) methods) fit
      in
      let after = names_after slots method.name.text id in
      extends_with base class (number + 1) methods (insert_entry bytes_eq slots method.name.text id)
      (from_next class number method methods from) both.1 (record {
        names = e.names ++ after.0;
        names_are = after.1 ∙ ap (λ z. z ++ after.0) e.names_are ∙ append_assoc (map slot_name base) e.names after.0;
        types_same = λ p h.
            let x = there_at (insert_entry bytes_eq slots method.name.text id) p
            (let a = longer base slots e in let b = ap length after.1 in
            omega (
              arith,
              length-map (insert_entry bytes_eq slots method.name.text id) slot_name,
              length-map slots slot_name,
              length-append (map slot_name slots) after.0,
            )) in
            by p h x.0 x.1 (at_place slots method.name.text id p x.0 x.1) both.0;
      })
    where
      id : MethodId
      id = record { class = class; method = number }

      params_are : parameters_of program id ≡ method.params
      params_are = ap (λ (z : Option Procedure). (unwrap_or z no_procedure).params)
          (from_first class number method methods from)

      by : (p : ℕ) → p < length base → (x : List ℕ × MethodId)
          → slice_get (insert_entry bytes_eq slots method.name.text id) p ≡ Some x
          → AtPlace slots method.name.text id p x → override_differs program base method ≡ None
          → types_at (insert_entry bytes_eq slots method.name.text id) p ≡ types_at base p
      by p h x g (old o) fits = ap (λ z. types (parameters_of program z))
          (run_is (insert_entry bytes_eq slots method.name.text id) p x g ∙ sym (run_is slots p x o)) ∙ e.types_same p h
      by p h x g (new i w) fits =
          let l = longer base slots e in
          let at = w (omega arith) in
          let front : position (bytes_eq method.name.text) (map slot_name base) ≡ Some p =
          position_front (bytes_eq method.name.text) (map slot_name base) e.names p
          (omega (arith, length-map base slot_name)) (ap (position (bytes_eq method.name.text)) (sym e.names_are)
          ∙ at) in
          let same : same_types (parameters_of program (run_at base p)) method.params ≡ true =
          not_refused (same_types (parameters_of program (run_at base p)) method.params)
          (refused 10 method.name.at) (sym (ap (override_in_slot program base method) front) ∙ fits) in
          ap (λ z. types (parameters_of program z)) (run_is (insert_entry bytes_eq slots method.name.text id) p x g
          ∙ ap (λ (z : List ℕ × MethodId). z.1) i)
          ∙ ap types params_are
          ∙ types_by (parameters_of program (run_at base p)) method.params same

  slots_along-append : (xs ys : List ℕ) (slots : Slots) → slots_along program slots (xs ++ ys)
      ≡ slots_along program (slots_along program slots xs) ys
  slots_along-append [] ys slots = refl
  slots_along-append (x ∷ xs) ys slots = slots_along-append xs ys (with_methods x 0 (class_at program x).methods slots)

  module _ (fit : differing_override program ≡ None) where
    -- one class more on a line
    step_extends : (class : ℕ) (shorter : List ℕ) → class < length program.classes
        → class_line program class ≡ shorter ++ class ∷ [] → Extends (slots_along program [] shorter)
        (slots_along program [] (shorter ++ class ∷ []))
    step_extends class shorter inside is =
        let base = slots_along program [] shorter in
        let inherited : inherited_slots program class ≡ base =
        ap (λ l. slots_along program [] (take (length l - 1) l)) is
        ∙ ap (slots_along program []) (front_of class shorter) in
        let z : 0 + class ≡ class = omega arith in
        let rule : override_differs_at program class (class_at program class) ≡ None =
        ap (λ n. override_differs_at program n (class_at program class)) (sym z)
        ∙ none_at (override_differs_at program) 0 program.classes class (class_at program class) fit
        (class_there program.classes class inside) in
        let fits : first_in (override_differs program base) (class_at program class).methods ≡ None =
        ap (λ s. first_in (override_differs program s) (class_at program class).methods) (sym inherited) ∙ rule in
        subst (Extends base) (sym (slots_along-append shorter (class ∷ []) []))
        (extends_with base class 0 (class_at program class).methods base
        (λ k m h. let y : 0 + k ≡ k = omega arith in ap (slice_get (class_at program class).methods) y ∙ h) fits
        (extends_itself base))

    -- the slots of a class on a line are the first ones of the line's
    extends_up : (steps : ℕ) (class : Option ℕ) (line : List ℕ) (q : ℕ)
        → ((number : ℕ) → class ≡ Some number → number < length program.classes)
        → chain steps (parents program) class ≡ Some line → on q line ≡ true
        → Extends (class_slots program q) (slots_along program [] line)
    extends_up zero (Some class) line q own h there = absurd (cc)
    extends_up zero None line q own h there = let e = ap (on q) (nothing_on zero (parents program) line h) in
        absurd (cc)
    extends_up (suc steps) None line q own h there = let e =
        ap (on q) (nothing_on (suc steps) (parents program) line h) in absurd (cc)
    extends_up (suc steps) (Some class) line q own h there =
        let p = pushed_from class (chain steps (parents program) (parent (parents program) class)) line h in
        by p.shorter p.pushed (λ above. extends_up steps (parent (parents program) class) p.shorter q
        (parents_in program class) p.ended above) (on q p.shorter) refl
      where
        inside : class < length program.classes
        inside = own class refl

        line_is_own : class_line program class ≡ line
        line_is_own = line_is program class (suc steps) line inside h

        by : (shorter : List ℕ) → line ≡ shorter ++ class ∷ []
            → (on q shorter ≡ true → Extends (class_slots program q) (slots_along program [] shorter)) → (b : Bool)
            → on q shorter ≡ b → Extends (class_slots program q) (slots_along program [] line)
        by shorter is rest true above =
            subst (λ l. Extends (class_slots program q) (slots_along program [] l)) (sym is)
            (extends_through (class_slots program q) (slots_along program [] shorter)
            (slots_along program [] (shorter ++ class ∷ [])) (rest above)
            (step_extends class shorter inside (line_is_own ∙ is)))
        by shorter is rest false none =
            let same : class ≡ q = last_on q class shorter (ap (on q) (sym is) ∙ there) none in
            subst (λ c. Extends (class_slots program c) (slots_along program [] line)) same
            (subst (λ l. Extends (slots_along program [] l) (slots_along program [] line)) (sym line_is_own)
            (extends_itself (slots_along program [] line)))

    pub extends_own : (own class : ℕ) → is_or_inherits program own class ≡ true
        → Extends (class_slots program class) (class_slots program own)
    extends_own own class h = by (nat_eq own class) refl h
      where
        by : (b : Bool) → nat_eq own class ≡ b → (b || Rattle.class_rules.specs.Classes.inherits program own class)
            ≡ true → Extends (class_slots program class) (class_slots program own)
        by true e q = subst (λ c. Extends (class_slots program class) (class_slots program c))
            (sym (eqb-true own class e))
            (extends_itself (class_slots program class))
        by false e q =
            let i = inherits_parts program own class q in
            let up = extends_up i.last.steps (parent (parents program) own) i.last.shorter class
            (parents_in program own) i.last.up i.there in
            let own_in = inherits_inside program own class i in
            let step = step_extends own i.last.shorter own_in (i.line_is ∙ i.last.is) in
            subst (λ l. Extends (class_slots program class) (slots_along program [] l)) (sym (i.line_is ∙ i.last.is))
            (extends_through (class_slots program class) (slots_along program [] i.last.shorter)
            (slots_along program [] (i.last.shorter ++ own ∷ [])) up step)
