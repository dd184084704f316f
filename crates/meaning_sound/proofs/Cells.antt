-- What a write to a cell keeps, and what it does to counts.
use Rattle.std.proofs.Common.{◌≡◌, ◌∙◌, sym, ap, subst, refl, ℕ, zero, suc, ◌+◌, Bool, true, false, List, [], ◌∷◌, map}
use Rattle.std.proofs.Common.{Option, Some, None, arith, slice_get, slice_set}
use Rattle.std.proofs.lemmas.Bool.{eqb-true}
use Rattle.std.specs.Prelude.{nat_eq, is_some}
use Rattle.std.specs.Option.{unwrap_or, option_map}
use Rattle.roopl_semantics.specs.rpp_tree.Tree.{Source}
use Rattle.roopl_semantics.specs.class_rules.declared.kind.Kind.{Kind}
use Rattle.roopl_semantics.specs.class_rules.declared.kind.Kind.TheVariants as kind
use Rattle.roopl_semantics.specs.class_rules.Scope.{Locals}
use Rattle.roopl_semantics.specs.buddy_book.Place.{Log, count_taken}
use Rattle.roopl_semantics.specs.Store.{Value, Nil, Object, Store, Binding, State, main_name, object_named, object_at}
use Rattle.roopl_semantics.specs.Store.{no_object, changed_at}
use Rattle.roopl_semantics.specs.Value.{Cell, Slot, Part, value_at, with_value, read, written}
use Rattle.roopl_semantics.specs.Execution.{Setting}
use Rattle.roopl_semantics.specs.Laws.{one_if_name, holders_among}
use Rattle.meaning_sound.specs.Sound.{head_of, head_named, count_of, count_named, named_fits, is_of_kind, cell_kinds}
use Rattle.meaning_sound.specs.Sound.{AllFit, bound_value, binding_name, local_type, held, entry_name, IsPlaced, Sound}
use Rattle.meaning_sound.specs.Sound.{part_kind, cell_kind, Typed}
use Rattle.meaning_sound.proofs.Lists.{all_inside, all_get, all_set, holders_set, all_kept}
use Rattle.meaning_sound.proofs.Stores.{same_number, other_number, changed_here, changed_other, holders_changed}
use Rattle.meaning_sound.proofs.Stores.{descends_changed, names_changed, live_object, live_named, here, there}

pub record Counted (extra : ℕ → ℕ) (st : State) : Type 0 where
  pub counts : (name count : ℕ) → count_named st.store name ≡ Some count → count ≡ held name st + extra name
  pub main_unheld : held main_name st ≡ 0

abbrev pub typed_of : (setting : Setting) (extra : ℕ → ℕ) (shape : Locals) (class : ℕ) (st : State)
    → Sound setting extra shape class st → Typed setting extra shape class st
typed_of setting extra shape class st s = record {
  names = s.names;
  variables = s.variables;
  objects = s.objects;
  lives = s.lives;
  self_is = s.self_is;
  self_held = s.self_held;
  main_extra = s.main_extra;
  fresh = s.fresh;
  placed = s.placed;
}

pub sound_of : (setting : Setting) (extra : ℕ → ℕ) (shape : Locals) (class : ℕ) (st : State)
    → Typed setting extra shape class st → Counted extra st → Sound setting extra shape class st
sound_of setting extra shape class st s c = record {
  names = s.names;
  variables = s.variables;
  objects = s.objects;
  counts = c.counts;
  lives = s.lives;
  self_is = s.self_is;
  self_held = s.self_held;
  main_extra = s.main_extra;
  main_unheld = c.main_unheld;
  fresh = s.fresh;
  placed = s.placed;
}

-- ---- an object that changes

pub changed_told : {A : Type 0} (store : Store) (n : ℕ) (f : Object → Object) (told : Object → A)
    → ((o : Object) → told (f o) ≡ told o) → (m : ℕ) → option_map told (object_named (changed_at store n f) m)
    ≡ option_map told (object_named store m)
changed_told {A} store n f told same m = by (nat_eq n m) refl
  where
    mapped : (r : Option Object) → option_map told (option_map f r) ≡ option_map told r
    mapped None = refl
    mapped (Some o) = ap Some (same o)

    by : (b : Bool) → nat_eq n m ≡ b → option_map told (object_named (changed_at store n f) m)
        ≡ option_map told (object_named store m)
    by true e =
        let s = eqb-true n m e in
        subst (λ k. option_map told (object_named (changed_at store n f) k) ≡ option_map told (object_named store k)) s
        (ap (option_map told) (changed_here store n f) ∙ mapped (object_named store n))
    by false e = ap (option_map told) (changed_other store n m f (Rattle.meaning_sound.proofs.Stores.differs n m e))

pub changed_objects : (P : Object → Type 0) (store : Store) (n : ℕ) (f : Object → Object)
    → ((m : ℕ) (o : Object) → object_named store m ≡ Some o → P o)
    → ((o : Object) → object_named store n ≡ Some o → P (f o)) → (m : ℕ) (o : Object)
    → object_named (changed_at store n f) m ≡ Some o → P o
changed_objects P store n f all one m o h = by (nat_eq n m) refl
  where
    changed : (r : Option Object) → object_named store n ≡ r → option_map f r ≡ Some o → P o
    changed None e q = absurd (cc)
    changed (Some x) e q = let s : f x ≡ o = cc in subst P s (one x e)

    by : (b : Bool) → nat_eq n m ≡ b → P o
    by true e =
        let s = eqb-true n m e in
        changed (object_named store n) refl (sym (changed_here store n f)
        ∙ ap (λ k. object_named (changed_at store n f) k) s ∙ h)
    by false e = all m o (sym (changed_other store n m f (Rattle.meaning_sound.proofs.Stores.differs n m e)) ∙ h)

-- ---- blocks, if heads and names stay

pub placed_same : (setting : Setting) (store other : Store) (log : Log) → map entry_name other ≡ map entry_name store
    → ((m : ℕ) → head_named other m ≡ head_named store m) → IsPlaced setting store log → IsPlaced setting other log
placed_same setting store other log names heads p = record {
  at = p.at;
  placed = p.placed;
  names = names ∙ p.names;
  taken = p.taken;
  kept = p.kept;
  orders = λ name head h apart. p.orders name head (sym (heads name) ∙ h) apart;
  apart = λ name other h k a b c. p.apart name other (ap is_some (sym (heads name)) ∙ h)
      (ap is_some (sym (heads other)) ∙ k) a b c;
}

-- ---- variables

pub with_value_names : (frame : List Binding) (i : ℕ) (v : Value)
    → map binding_name (with_value frame i v) ≡ map binding_name frame
with_value_names [] i v = refl
with_value_names (b ∷ frame) zero v = refl
with_value_names (b ∷ frame) (suc i) v = ap (λ z. b.name ∷ z) (with_value_names frame i v)

pub with_value_values : (frame : List Binding) (i : ℕ) (v : Value)
    → map bound_value (with_value frame i v) ≡ slice_set (map bound_value frame) i v
with_value_values [] i v = refl
with_value_values (b ∷ frame) zero v = refl
with_value_values (b ∷ frame) (suc i) v = ap (λ z. b.value ∷ z) (with_value_values frame i v)

pub value_at_is : (frame : List Binding) (i : ℕ) → value_at frame i
    ≡ unwrap_or (slice_get (map bound_value frame) i) Nil
value_at_is [] i = refl
value_at_is (b ∷ frame) zero = refl
value_at_is (b ∷ frame) (suc i) = value_at_is frame i

-- the object that a field or element is in
pub record IsPart (program : Source) (store : Store) (name index : ℕ) (k : Kind) : Type 0 where
  pub object : Object
  pub named : object_named store name ≡ Some object
  pub at : object_at store name ≡ object
  pub kind_is : slice_get (cell_kinds program object.head) index ≡ Some k

pub part_of : (program : Source) (store : Store) (name index : ℕ) (k : Kind)
    → part_kind program (head_named store name) index ≡ Some k → IsPart program store name index k
part_of program store name index k h = by (object_named store name) refl h
  where
    by : (r : Option Object) → object_named store name ≡ r → part_kind program (option_map head_of r) index ≡ Some k
        → IsPart program store name index k
    by None e q = absurd (cc)
    by (Some o) e q = record { object = o; named = e; at = ap (λ z. unwrap_or z no_object) e; kind_is = q }

module _ (setting : Setting) (extra : ℕ → ℕ) (shape : Locals) (class : ℕ) where
  -- the objects' change in a write
  abbrev pub with_cell : ℕ → Value → Object → Object
  with_cell index v object = record object { cells = slice_set object.cells index v }

  pub heads_written : (st : State) (cell : Cell) (v : Value) (m : ℕ)
      → head_named (written st cell v).store m ≡ head_named st.store m
  heads_written st (Slot i) v m = refl
  heads_written st (Part n i) v m = changed_told st.store n (with_cell i v) head_of (λ o. refl) m

  pub counts_written : (st : State) (cell : Cell) (v : Value) (m : ℕ)
      → count_named (written st cell v).store m ≡ count_named st.store m
  counts_written st (Slot i) v m = refl
  counts_written st (Part n i) v m = changed_told st.store n (with_cell i v) count_of (λ o. refl) m

  pub read_fits : (st : State) (cell : Cell) (k : Kind) → Typed setting extra shape class st
      → cell_kind setting.program shape st.store cell ≡ Some k
      → is_of_kind setting.program st.store (read st cell) k ≡ true
  read_fits st (Slot i) k t h = subst (λ v. is_of_kind setting.program st.store v k ≡ true)
      (sym (value_at_is st.frame i))
      (all_get setting.program st.store (map local_type shape) (map bound_value st.frame) i k t.variables h)
  read_fits st (Part n i) k t h =
      let p = part_of setting.program st.store n i k h in
      subst (λ (o : Object). is_of_kind setting.program st.store (unwrap_or (slice_get o.cells i) Nil) k ≡ true)
      (sym p.at)
      (all_get setting.program st.store (cell_kinds setting.program p.object.head) p.object.cells i k
      (t.objects n p.object p.named) p.kind_is)

  pub typed_written : (st : State) (cell : Cell) (k : Kind) (v : Value) → Typed setting extra shape class st
      → cell_kind setting.program shape st.store cell ≡ Some k → is_of_kind setting.program st.store v k ≡ true
      → Typed setting extra shape class (written st cell v)
  typed_written st (Slot i) k v t h f = record {
    names = with_value_names st.frame i v ∙ t.names;
    variables = subst (AllFit setting.program st.store (map local_type shape)) (sym (with_value_values st.frame i v))
        (all_set setting.program st.store (map local_type shape) (map bound_value st.frame) i k v t.variables h f);
    objects = t.objects;
    lives = t.lives;
    self_is = t.self_is;
    self_held = t.self_held;
    main_extra = t.main_extra;
    fresh = t.fresh;
    placed = t.placed;
  }
  typed_written st (Part n i) k v t h f =
      let p = part_of setting.program st.store n i k h in
      let store' = changed_at st.store n (with_cell i v) in
      let heads = heads_written st (Part n i) v in
      let kept : (ks : List Kind) (vs : List Value) → AllFit setting.program st.store ks vs
      → AllFit setting.program store' ks vs = λ ks vs a. all_kept setting.program st.store store' ks vs
      (λ m x y. heads m) a in
      let P : Object → Type 0 = λ o. AllFit setting.program store' (cell_kinds setting.program o.head) o.cells in
      record {
        names = t.names;
        variables = kept (map local_type shape) (map bound_value st.frame) t.variables;
        objects = changed_objects P st.store n (with_cell i v)
            (λ m o q. kept (cell_kinds setting.program o.head) o.cells (t.objects m o q)) (λ o q.
            let s : p.object ≡ o = let e = sym p.named ∙ q in cc in
            let kind_is : slice_get (cell_kinds setting.program o.head) i ≡ Some k =
            subst (λ (z : Object). slice_get (cell_kinds setting.program z.head) i ≡ Some k) s p.kind_is in
            kept (cell_kinds setting.program o.head) (slice_set o.cells i v)
            (all_set setting.program st.store (cell_kinds setting.program o.head) o.cells i k v (t.objects n o q)
            kind_is f));
        lives = λ m x. ap is_some (heads m) ∙ t.lives m x;
        self_is = ap (named_fits setting.program (kind.Class class)) (heads st.self) ∙ t.self_is;
        self_held = t.self_held;
        main_extra = t.main_extra;
        fresh = descends_changed (2 + count_taken st.log) st.store n (with_cell i v) t.fresh;
        placed = placed_same setting st.store store' st.log (names_changed st.store n (with_cell i v)) heads t.placed;
      }

  pub held_written : (st : State) (cell : Cell) (k : Kind) (v : Value) (m : ℕ) → Typed setting extra shape class st
      → cell_kind setting.program shape st.store cell ≡ Some k
      → held m (written st cell v) + one_if_name m (read st cell) ≡ held m st + one_if_name m v
  held_written st (Slot i) k v m t h =
      let inside = all_inside setting.program st.store (map local_type shape) (map bound_value st.frame) i k t.variables
      h
      in
      let a = holders_set m (map bound_value st.frame) i v inside in
      let b = ap (holders_among m) (with_value_values st.frame i v) in
      let c = ap (one_if_name m) (value_at_is st.frame i) in
      omega arith
  held_written st (Part n i) k v m t h =
      let p = part_of setting.program st.store n i k h in
      let inside = all_inside setting.program st.store (cell_kinds setting.program p.object.head) p.object.cells i k
      (t.objects n p.object p.named) p.kind_is in
      let a = holders_set m p.object.cells i v inside in
      let b = holders_changed m st.store n (with_cell i v) p.object p.named in
      let c = ap (λ (o : Object). one_if_name m (unwrap_or (slice_get o.cells i) Nil)) p.at in
      omega arith

  -- the type of a cell stays
  pub kind_stays : (st : State) (cell : Cell) (v : Value) (other : Cell)
      → cell_kind setting.program shape (written st cell v).store other ≡ cell_kind setting.program shape st.store other
  kind_stays st cell v (Slot j) = refl
  kind_stays st cell v (Part m j) = ap (λ z. part_kind setting.program z j) (heads_written st cell v m)
