-- The cell that a name means has the type that the name was checked with.
use Rattle.std.proofs.Common.{◌≡◌, ◌∙◌, sym, ap, subst, refl, ℕ, zero, suc, ◌<◌, Bool, true, false, List, [], ◌∷◌, ◌++◌}
use Rattle.std.proofs.Common.{map, length, Option, Some, None, arith, slice_get}
use Rattle.std.proofs.lemmas.List.{map-append, length-map}
use Rattle.std.proofs.lemmas.List.Quantifiers.{position-Some}
use Rattle.std.specs.Prelude.{position, if◌then◌else◌}
use Rattle.std.specs.Option.{unwrap_or, option_map, option_or}
use Rattle.std.specs.Str.{bytes_eq}
use Rattle.roopl_semantics.specs.rpp_tree.declared.tree.Var.{Var}
use Rattle.roopl_semantics.specs.rpp_tree.Tree.{Source}
use Rattle.roopl_semantics.specs.class_rules.declared.kind.Kind.{Kind}
use Rattle.roopl_semantics.specs.class_rules.declared.kind.Kind.TheVariants as kind
use Rattle.roopl_semantics.specs.class_rules.Members.{field_name}
use Rattle.roopl_semantics.specs.class_rules.Classes.{class_fields}
use Rattle.roopl_semantics.specs.class_rules.Table.{table_of, fields_in, field_in}
use Rattle.roopl_semantics.specs.class_rules.Scope.{Local, Locals, local_kind, kind_at, field_kind, kind_in, no_var}
use Rattle.roopl_semantics.specs.class_rules.Program.{setting_in}
use Rattle.roopl_semantics.proofs.class_rules_laws.Tables.{table_reads}
use Rattle.roopl_semantics.specs.Store.{Head, OfClass, OfInts, OfObjects, Store, State, object_at, class_of_head}
use Rattle.roopl_semantics.specs.Value.{Cell, Slot, Part, slot_of, own_class, slot_or_field, cell_named}
use Rattle.roopl_semantics.specs.class_rules.Members.{field_of}
use Rattle.roopl_semantics.specs.Execution.{Setting}
use Rattle.roopl_semantics.specs.class_rules.Inheritance.{is_or_inherits, kind_of_var}
use Rattle.meaning_sound.specs.Sound.{named_fits, head_of, head_named, binding_name, local_name, local_type, part_kind}
use Rattle.meaning_sound.specs.Sound.{cell_kind, Typed}
use Rattle.meaning_sound.specs.Kept.{MeansSame}
use Rattle.meaning_sound.proofs.Stores.{live_object}
use Rattle.roopl_semantics.proofs.class_rules_laws.FirstPlaces.{position_cons, position_before, bytes_turned}
use Rattle.meaning_sound.proofs.Classes.{KnowsClasses}

abbrev pub type_at : Locals → Option ℕ → Option Kind
type_at shape None = None
type_at shape (Some i) = slice_get (map local_type shape) i

next_type : (l : Local) (shape : Locals) (r : Option ℕ) → type_at (l ∷ shape) (option_map suc r) ≡ type_at shape r
next_type l shape None = refl
next_type l shape (Some i) = refl

pub local_kind_is : (shape : Locals) (name : List ℕ) → local_kind shape name
    ≡ type_at shape (position (bytes_eq name) (map local_name shape))
local_kind_is [] name = refl
local_kind_is (l ∷ shape) name = by (local_kind_is shape name) (bytes_eq name l.name) refl
  where
    by : local_kind shape name ≡ type_at shape (position (bytes_eq name) (map local_name shape)) → (b : Bool)
        → bytes_eq name l.name ≡ b → local_kind (l ∷ shape) name
        ≡ type_at (l ∷ shape) (position (bytes_eq name) (map local_name (l ∷ shape)))
    by rest true e = ap (λ z. if z then Some l.kind else local_kind shape name) (bytes_turned l.name name ∙ e)
        ∙ sym (ap (type_at (l ∷ shape)) (position_cons (bytes_eq name) l.name (map local_name shape) true e))
    by rest false e = ap (λ z. if z then Some l.kind else local_kind shape name) (bytes_turned l.name name ∙ e) ∙ rest
        ∙ sym (ap (type_at (l ∷ shape)) (position_cons (bytes_eq name) l.name (map local_name shape) false e)
        ∙ next_type l shape (position (bytes_eq name) (map local_name shape)))

-- ---- fields

-- the current object's head, with its class
pub record IsObject (program : Source) (class : ℕ) (store : Store) (self : ℕ) : Type 0 where
  pub own : ℕ
  pub head : head_named store self ≡ Some (OfClass own)
  pub class_is : class_of_head (object_at store self).head ≡ own
  pub above : is_or_inherits program own class ≡ true

pub is_object : (program : Source) (class : ℕ) (store : Store) (self : ℕ)
    → named_fits program (kind.Class class) (head_named store self) ≡ true → IsObject program class store self
is_object program class store self h = by (head_named store self) refl h
  where
    live : (r : Option Head) → (hd : Head) → head_named store self ≡ r → r ≡ Some hd → (object_at store self).head ≡ hd
    live r hd e q =
        let n = live_object store self (ap Rattle.std.specs.Prelude.is_some (e ∙ q)) in
        let x : Some (object_at store self).head ≡ Some hd = sym (ap (option_map head_of) n) ∙ e ∙ q in
        cc

    by : (r : Option Head) → head_named store self ≡ r → named_fits program (kind.Class class) r ≡ true
        → IsObject program class store self
    by None e q = absurd (cc)
    by (Some (OfClass own)) e q = record {
      own = own;
      head = e;
      class_is = ap class_of_head (live (Some (OfClass own)) (OfClass own) e refl);
      above = q;
    }
    by (Some (OfInts n)) e q = absurd (cc)
    by (Some (OfObjects c n)) e q = absurd (cc)

front_get : {A : Type 0} (xs ys : List A) (i : ℕ) → i < length xs → slice_get (xs ++ ys) i ≡ slice_get xs i
front_get [] ys i h = absurd (omega arith)
front_get (x ∷ xs) ys zero h = refl
front_get (x ∷ xs) ys (suc i) h = front_get xs ys i (omega arith)

got : (f : Var → Kind) (xs : List Var) (i : ℕ) → i < length xs
    → slice_get (map f xs) i ≡ Some (f (unwrap_or (slice_get xs i) no_var))
got f [] i h = absurd (omega arith)
got f (x ∷ xs) zero h = refl
got f (x ∷ xs) (suc i) h = got f xs i (omega arith)

module _ (setting : Setting) (classes : KnowsClasses setting.program) (extra : ℕ → ℕ) (locals shape : Locals)
    (class : ℕ) (inside : class < length setting.program.classes) (means : MeansSame locals shape) where
  abbrev program : Source
  program = setting.program

  -- a field's number in the static class is its number in the object's
  pub field_number_is : (st : State) (name : List ℕ) (i : ℕ) → Typed setting extra shape class st
      → field_in (table_of program) class name ≡ Some i → field_of (class_fields program (own_class st)) name ≡ Some i
  field_number_is st name i t is =
      let object = is_object program class st.store st.self t.self_is in
      let front = classes.front object.own class object.above in
      let fields : fields_in (table_of program) class ≡ class_fields program class =
      (table_reads program class inside).fields in
      let first : position (bytes_eq name) (map field_name (class_fields program class)) ≡ Some i =
      ap (λ (vars : List Var). position (bytes_eq name) (map field_name vars)) (sym fields) ∙ is in
      let names : map field_name (class_fields program object.own)
      ≡ map field_name (class_fields program class) ++ map field_name front.more = ap (map field_name) front.is
      ∙ map-append field_name (class_fields program class) front.more in
      ap (λ c. position (bytes_eq name) (map field_name (class_fields program c))) object.class_is
      ∙ ap (position (bytes_eq name)) names ∙ position_before (bytes_eq name)
      (map field_name (class_fields program class)) (map field_name front.more) i first

  field_at : (st : State) (name : List ℕ) (k : Kind) (number : Option ℕ) → Typed setting extra shape class st
      → field_in (table_of program) class name ≡ number → option_map (kind_at (table_of program) class) number ≡ Some k
      → cell_kind program shape st.store (slot_or_field program st name None) ≡ Some k
  field_at st name k None t is h = absurd (cc)
  field_at st name k (Some i) t is h =
      let object = is_object program class st.store st.self t.self_is in
      let front = classes.front object.own class object.above in
      let fields : fields_in (table_of program) class ≡ class_fields program class =
      (table_reads program class inside).fields in
      let first : position (bytes_eq name) (map field_name (class_fields program class)) ≡ Some i =
      ap (λ (vars : List Var). position (bytes_eq name) (map field_name vars)) (sym fields) ∙ is in
      let i_below = (position-Some (bytes_eq name) (map field_name (class_fields program class)) i [] first).0 in
      let below : i < length (class_fields program class) =
      omega (arith, length-map (class_fields program class) field_name) in
      let at = field_number_is st name i t is in
      let kind_is : kind_at (table_of program) class i ≡ k = cc in
      let kinds : slice_get (map (kind_of_var program) (class_fields program object.own)) i ≡ Some k =
      ap (λ vars. slice_get (map (kind_of_var program) vars) i) front.is
      ∙ ap (λ (ks : List Kind). slice_get ks i) (map-append (kind_of_var program) (class_fields program class)
      front.more)
      ∙ front_get (map (kind_of_var program) (class_fields program class)) (map (kind_of_var program) front.more) i
      (omega (arith, length-map (class_fields program class) (kind_of_var program)))
      ∙ got (kind_of_var program) (class_fields program class) i below
      ∙ ap (λ vars. Some (kind_of_var program (unwrap_or (slice_get vars i) no_var))) (sym fields)
      ∙ ap (λ z. Some z) kind_is in
      ap (λ r. cell_kind program shape st.store (Part st.self (unwrap_or r 0))) at
      ∙ ap (λ z. part_kind program z i) object.head ∙ kinds

  -- the cell that a name means, by its name's place among the variables or the fields
  pub data IsMeant (st : State) (name : List ℕ) : Cell → Type 0 where
    variable : (i : ℕ) → position (bytes_eq name) (map binding_name st.frame) ≡ Some i → IsMeant st name (Slot i)
    field : (i : ℕ) → position (bytes_eq name) (map field_name (class_fields program (own_class st))) ≡ Some i
        → IsMeant st name (Part st.self i)

  pub meant : (st : State) (name : List ℕ) (k : Kind) → Typed setting extra shape class st
      → kind_in (setting_in program (table_of program) class) locals name ≡ Some k
      → IsMeant st name (cell_named program st name)
  meant st name k t h = by (slot_of st.frame name) refl
    where
      local_none : slot_of st.frame name ≡ None → local_kind locals name ≡ None
      local_none e = means.same name ∙ local_kind_is shape name
          ∙ ap (type_at shape) (sym (ap (position (bytes_eq name)) t.names) ∙ e)

      number : (r : Option ℕ) → field_in (table_of program) class name ≡ r
          → option_map (kind_at (table_of program) class) r ≡ Some k → (i : ℕ) × (r ≡ Some i)
      number None is e = absurd (cc)
      number (Some i) is e = (i, refl)

      by : (r : Option ℕ) → slot_of st.frame name ≡ r → IsMeant st name (slot_or_field program st name r)
      by (Some i) e = variable i e
      by None e =
          let f : field_kind (table_of program) class name ≡ Some k =
          ap (λ z. option_or z (field_kind (table_of program) class name)) (sym (local_none e)) ∙ h in
          let n = number (field_in (table_of program) class name) refl f in
          let at = field_number_is st name n.0 t n.1 in
          subst (λ r. IsMeant st name (Part st.self (unwrap_or r 0))) (sym at) (field n.0 at)

  pub cell_named_kind : (st : State) (name : List ℕ) (k : Kind) → Typed setting extra shape class st
      → kind_in (setting_in program (table_of program) class) locals name ≡ Some k
      → cell_kind program shape st.store (cell_named program st name) ≡ Some k
  cell_named_kind st name k t h = by (slot_of st.frame name) refl
    where
      shape_slot : slot_of st.frame name ≡ position (bytes_eq name) (map local_name shape)
      shape_slot = ap (position (bytes_eq name)) t.names

      local_is : (r : Option ℕ) → slot_of st.frame name ≡ r → local_kind locals name ≡ type_at shape r
      local_is r e = means.same name ∙ local_kind_is shape name ∙ ap (type_at shape) (sym shape_slot ∙ e)

      whole : (r : Option Kind) → local_kind locals name ≡ r
          → option_or r (field_kind (table_of program) class name) ≡ Some k
      whole r e = ap (λ z. option_or z (field_kind (table_of program) class name)) (sym e) ∙ h

      slot : (i : ℕ) (r : Option Kind) → type_at shape (Some i) ≡ r → i < length (map local_name shape)
          → local_kind locals name ≡ r → slice_get (map local_type shape) i ≡ Some k
      slot i None e below l = absurd (none_inside shape i below e)
        where
          none_inside : (ls : Locals) (j : ℕ) → j < length (map local_name ls) → slice_get (map local_type ls) j ≡ None
              → ⊥
          none_inside [] j q z = omega arith
          none_inside (x ∷ ls) zero q z = cc
          none_inside (x ∷ ls) (suc j) q z = none_inside ls j (omega arith) z
      slot i (Some x) e below l = e ∙ whole (Some x) l

      by : (r : Option ℕ) → slot_of st.frame name ≡ r → cell_kind program shape st.store (cell_named program st name)
          ≡ Some k
      by None e = ap (λ z. cell_kind program shape st.store (slot_or_field program st name z)) e
          ∙ field_at st name k (field_in (table_of program) class name) t refl (whole None (local_is None e))
      by (Some i) e =
          let below = (position-Some (bytes_eq name) (map local_name shape) i [] (sym shape_slot ∙ e)).0 in
          ap (λ z. cell_kind program shape st.store (slot_or_field program st name z)) e
          ∙ slot i (type_at shape (Some i)) refl below (local_is (Some i) e)
