-- Reading and writing the cells of a state.
use Rattle.std.proofs.Common.{◌≡◌, ℕ, zero, suc, ◌<◌, refl, sym, ap, subst, ◌∙◌, arith, true, false, Bool, ◌&&◌, List}
use Rattle.std.proofs.Common.{[], ◌∷◌, length, map, Option, Some, None, option_map, unwrap_or, nat_eq, slice_get}
use Rattle.std.proofs.Common.{slice_set, if◌then◌else◌, eqb-true, eq-eqb, ne_eqb}
use Rattle.std.proofs.lemmas.Bool.{eqb-false}
use Rattle.meaning_reached.specs.roopl_semantics.Store.{Value, Nil, Object, Store, Binding, State, object_named, no_object, changed_at}
use Rattle.meaning_reached.specs.roopl_semantics.Value.{Cell, Slot, Part, value_at, with_value, read, written}
use Rattle.meaning_reached.specs.roopl_semantics.Execution.{same_cell}
use Rattle.meaning_reached.proofs.roopl_semantics_laws.Changed.{with_cell}

-- numbers that differ, one less
pub apart_less : (i j : ℕ) → nat_eq (suc i) (suc j) ≡ false → nat_eq i j ≡ false
apart_less i j e = ne_eqb i j (λ h. eqb-false (suc i) (suc j) e (ap suc h))

pub apart_sym : (i j : ℕ) → nat_eq i j ≡ false → nat_eq j i ≡ false
apart_sym i j e = ne_eqb j i (λ h. eqb-false i j e (sym h))

-- ---- lists

set_set : {A : Type 0} (xs : List A) (i : ℕ) (x y : A) → slice_set (slice_set xs i x) i y ≡ slice_set xs i y
set_set [] i x y = refl
set_set (z ∷ xs) zero x y = refl
set_set (z ∷ xs) (suc i) x y = ap (λ l. z ∷ l) (set_set xs i x y)

set_same : {A : Type 0} (xs : List A) (i : ℕ) (d : A) → slice_set xs i (unwrap_or (slice_get xs i) d) ≡ xs
set_same [] i d = refl
set_same (z ∷ xs) zero d = refl
set_same (z ∷ xs) (suc i) d = ap (λ l. z ∷ l) (set_same xs i d)

set_apart : {A : Type 0} (xs : List A) (i j : ℕ) (x y : A) → nat_eq i j ≡ false
    → slice_set (slice_set xs i x) j y ≡ slice_set (slice_set xs j y) i x
set_apart [] i j x y e = refl
set_apart (z ∷ xs) zero zero x y e = cc
set_apart (z ∷ xs) zero (suc j) x y e = refl
set_apart (z ∷ xs) (suc i) zero x y e = refl
set_apart (z ∷ xs) (suc i) (suc j) x y e = ap (λ l. z ∷ l) (set_apart xs i j x y (apart_less i j e))

get_set : {A : Type 0} (xs : List A) (i : ℕ) (x : A) → i < length xs → slice_get (slice_set xs i x) i ≡ Some x
get_set [] i x h = absurd (omega arith)
get_set (z ∷ xs) zero x h = refl
get_set (z ∷ xs) (suc i) x h = get_set xs i x (omega arith)

get_set_apart : {A : Type 0} (xs : List A) (i j : ℕ) (x : A) → nat_eq i j ≡ false
    → slice_get (slice_set xs i x) j ≡ slice_get xs j
get_set_apart [] i j x e = refl
get_set_apart (z ∷ xs) zero zero x e = cc
get_set_apart (z ∷ xs) zero (suc j) x e = refl
get_set_apart (z ∷ xs) (suc i) zero x e = refl
get_set_apart (z ∷ xs) (suc i) (suc j) x e = get_set_apart xs i j x (apart_less i j e)

-- ---- frames

pub with_with : (frame : List Binding) (i : ℕ) (x y : Value)
    → with_value (with_value frame i x) i y ≡ with_value frame i y
with_with [] i x y = refl
with_with (z ∷ xs) zero x y = refl
with_with (z ∷ xs) (suc i) x y = ap (λ l. z ∷ l) (with_with xs i x y)

pub with_same : (frame : List Binding) (i : ℕ) → with_value frame i (value_at frame i) ≡ frame
with_same [] i = refl
with_same (z ∷ xs) zero = refl
with_same (z ∷ xs) (suc i) = ap (λ l. z ∷ l) (with_same xs i)

with_apart : (frame : List Binding) (i j : ℕ) (x y : Value) → nat_eq i j ≡ false
    → with_value (with_value frame i x) j y ≡ with_value (with_value frame j y) i x
with_apart [] i j x y e = refl
with_apart (z ∷ xs) zero zero x y e = cc
with_apart (z ∷ xs) zero (suc j) x y e = refl
with_apart (z ∷ xs) (suc i) zero x y e = refl
with_apart (z ∷ xs) (suc i) (suc j) x y e = ap (λ l. z ∷ l) (with_apart xs i j x y (apart_less i j e))

value_with : (frame : List Binding) (i : ℕ) (x : Value) → i < length frame → value_at (with_value frame i x) i ≡ x
value_with [] i x h = absurd (omega arith)
value_with (z ∷ xs) zero x h = refl
value_with (z ∷ xs) (suc i) x h = value_with xs i x (omega arith)

value_apart : (frame : List Binding) (i j : ℕ) (x : Value) → nat_eq i j ≡ false
    → value_at (with_value frame i x) j ≡ value_at frame j
value_apart [] i j x e = refl
value_apart (z ∷ xs) zero zero x e = cc
value_apart (z ∷ xs) zero (suc j) x e = refl
value_apart (z ∷ xs) (suc i) zero x e = refl
value_apart (z ∷ xs) (suc i) (suc j) x e = value_apart xs i j x (apart_less i j e)

pub length_with : (frame : List Binding) (i : ℕ) (x : Value) → length (with_value frame i x) ≡ length frame
length_with [] i x = refl
length_with (z ∷ xs) zero x = refl
length_with (z ∷ xs) (suc i) x = ap suc (length_with xs i x)

pub names_with : (frame : List Binding) (i : ℕ) (x : Value)
    → map (λ binding. binding.name) (with_value frame i x) ≡ map (λ binding. binding.name) frame
names_with [] i x = refl
names_with (z ∷ xs) zero x = refl
names_with (z ∷ xs) (suc i) x = ap (λ l. z.name ∷ l) (names_with xs i x)

-- ---- stores

pub named_changed : (store : Store) (n : ℕ) (g : Object → Object) (m : ℕ)
    → object_named (changed_at store n g) m ≡ (if nat_eq n m then option_map g (object_named store m) else object_named
    store m)
named_changed [] n g m = by (nat_eq n m)
  where
    by : (t : Bool) → None ≡ (if t then option_map g None else None)
    by true = refl
    by false = refl
named_changed ((k, o) ∷ store) n g m = by (named_changed store n g m) (nat_eq k n) refl (nat_eq k m) refl
  where
    by : object_named (changed_at store n g) m ≡ (if nat_eq n m then option_map g (object_named store m) else
        object_named store m) → (s : Bool) → nat_eq k n ≡ s → (t : Bool) → nat_eq k m ≡ t
        → object_named (if s then (k, g o) ∷ store else (k, o) ∷ changed_at store n g) m
        ≡ (if nat_eq n m then option_map g (if nat_eq k m then Some o else object_named store m) else
        (if nat_eq k m then Some o else object_named store m))
    by again true e true f = rw (f, (let h = eqb-true k n e in let i = eqb-true k m f in eq-eqb n m (omega arith))) refl
    by again true e false f = rw (f, (let h = eqb-true k n e in ne_eqb n m (λ i. eqb-false k m f (h ∙ i)))) refl
    by again false e true f = rw (f, (let i = eqb-true k m f in ne_eqb n m (λ h. eqb-false k n e (i ∙ sym h)))) refl
    by again false e false f = rw f again

pub changed_changed : (store : Store) (n : ℕ) (f g : Object → Object)
    → changed_at (changed_at store n f) n g ≡ changed_at store n (λ o. g (f o))
changed_changed [] n f g = refl
changed_changed ((k, o) ∷ store) n f g = by (changed_changed store n f g) (nat_eq k n) refl
  where
    by : changed_at (changed_at store n f) n g ≡ changed_at store n (λ o. g (f o)) → (s : Bool) → nat_eq k n ≡ s
        → changed_at (if s then (k, f o) ∷ store else (k, o) ∷ changed_at store n f) n g
        ≡ (if s then (k, g (f o)) ∷ store else (k, o) ∷ changed_at store n (λ o. g (f o)))
    by again true e = rw e refl
    by again false e = rw e (ap (λ l. (k, o) ∷ l) again)

pub changed_apart : (store : Store) (n m : ℕ) (f g : Object → Object) → nat_eq n m ≡ false
    → changed_at (changed_at store n f) m g ≡ changed_at (changed_at store m g) n f
changed_apart [] n m f g e = refl
changed_apart ((k, o) ∷ store) n m f g e = by (changed_apart store n m f g e) (nat_eq k n) refl (nat_eq k m) refl
  where
    by : changed_at (changed_at store n f) m g ≡ changed_at (changed_at store m g) n f → (s : Bool) → nat_eq k n ≡ s
        → (t : Bool) → nat_eq k m ≡ t → changed_at (if s then (k, f o) ∷ store else (k, o) ∷ changed_at store n f) m g
        ≡ changed_at (if t then (k, g o) ∷ store else (k, o) ∷ changed_at store m g) n f
    by again true p true q = absurd (eqb-false n m e (sym (eqb-true k n p) ∙ eqb-true k m q))
    by again true p false q = rw (p, q) refl
    by again false p true q = rw (p, q) refl
    by again false p false q = rw (p, q) (ap (λ l. (k, o) ∷ l) again)

-- a change that is none
pub changed_none : (store : Store) (n : ℕ) (g : Object → Object)
    → ((o : Object) → object_named store n ≡ Some o → g o ≡ o) → changed_at store n g ≡ store
changed_none [] n g h = refl
changed_none ((k, o) ∷ store) n g h = by (changed_none store n g) (nat_eq k n) refl
  where
    by : (((x : Object) → object_named store n ≡ Some x → g x ≡ x) → changed_at store n g ≡ store) → (s : Bool)
        → nat_eq k n ≡ s → (if s then (k, g o) ∷ store else (k, o) ∷ changed_at store n g) ≡ (k, o) ∷ store
    by again true e = ap (λ x. (k, x) ∷ store) (h o (ap (λ t. if t then Some o else object_named store n) e))
    by again false e = ap (λ l. (k, o) ∷ l) (again (λ x f. h x
        (ap (λ t. if t then Some o else object_named store n) e ∙ f)))

-- changes that do the same
pub changed_alike : (store : Store) (n : ℕ) (f g : Object → Object)
    → ((o : Object) → object_named store n ≡ Some o → f o ≡ g o) → changed_at store n f ≡ changed_at store n g
changed_alike [] n f g h = refl
changed_alike ((k, o) ∷ store) n f g h = by (changed_alike store n f g) (nat_eq k n) refl
  where
    by : (((x : Object) → object_named store n ≡ Some x → f x ≡ g x) → changed_at store n f ≡ changed_at store n g)
        → (s : Bool) → nat_eq k n ≡ s → (if s then (k, f o) ∷ store else (k, o) ∷ changed_at store n f)
        ≡ (if s then (k, g o) ∷ store else (k, o) ∷ changed_at store n g)
    by again true e = ap (λ x. (k, x) ∷ store) (h o (ap (λ t. if t then Some o else object_named store n) e))
    by again false e = ap (λ l. (k, o) ∷ l) (again (λ x i. h x
        (ap (λ t. if t then Some o else object_named store n) e ∙ i)))

-- ---- states

-- a cell that is there
pub data IsCell (st : State) : Cell → Type 0 where
  IsSlot : (i : ℕ) → i < length st.frame → IsCell st (Slot i)
  IsPart : (name i : ℕ) (object : Object) → object_named st.store name ≡ Some object → i < length object.cells
      → IsCell st (Part name i)

pub written_twice : (st : State) (c : Cell) (v w : Value) → written (written st c v) c w ≡ written st c w
written_twice st (Slot i) v w = ap (λ f. record st { frame = f }) (with_with st.frame i v w)
written_twice st (Part name i) v w =
    ap (λ s. record st { store = s }) (changed_changed st.store name (with_cell i v) (with_cell i w)
    ∙ changed_alike st.store name (λ o. with_cell i w (with_cell i v o)) (with_cell i w)
    (λ o e. ap (λ cells. record o { cells = cells }) (set_set o.cells i v w)))

pub written_same : (st : State) (c : Cell) → written st c (read st c) ≡ st
written_same st (Slot i) = ap (λ f. record st { frame = f }) (with_same st.frame i)
written_same st (Part name i) =
    ap (λ s. record st { store = s }) (changed_none st.store name (with_cell i (read st (Part name i)))
    (λ o e. ap (λ x. record o {
      cells = slice_set o.cells i
          (unwrap_or (slice_get (unwrap_or x no_object).cells i) Nil);
    }) e
    ∙ ap (λ cells. record o { cells = cells }) (set_same o.cells i Nil)))

pub written_apart : (st : State) (c d : Cell) (v w : Value) → same_cell c d ≡ false
    → written (written st c v) d w ≡ written (written st d w) c v
written_apart st (Slot i) (Slot j) v w e = ap (λ f. record st { frame = f }) (with_apart st.frame i j v w e)
written_apart st (Slot i) (Part name j) v w e = refl
written_apart st (Part name i) (Slot j) v w e = refl
written_apart st (Part name i) (Part other j) v w e = by (nat_eq name other) refl
  where
    by : (t : Bool) → nat_eq name other ≡ t → written (written st (Part name i) v) (Part other j) w
        ≡ written (written st (Part other j) w) (Part name i) v
    by false f = ap (λ s. record st { store = s }) (changed_apart st.store name other (with_cell i v) (with_cell j w) f)
    by true f =
        let apart : nat_eq i j ≡ false = ap (λ t. t && nat_eq i j) (sym f) ∙ e in
        let P : ℕ → Type 0 = λ o. changed_at (changed_at st.store name (with_cell i v)) o (with_cell j w)
        ≡ changed_at (changed_at st.store o (with_cell j w)) name (with_cell i v) in
        ap (λ s. record st { store = s }) (subst P (eqb-true name other f)
        (changed_changed st.store name (with_cell i v) (with_cell j w)
        ∙ changed_alike st.store name (λ o. with_cell j w (with_cell i v o)) (λ o. with_cell i v (with_cell j w o))
        (λ o g. ap (λ cells. record o { cells = cells }) (set_apart o.cells i j v w apart))
        ∙ sym (changed_changed st.store name (with_cell j w) (with_cell i v))))

pub read_written : (st : State) (c : Cell) (v : Value) → IsCell st c → read (written st c v) c ≡ v
read_written st c v (IsSlot i h) = value_with st.frame i v h
read_written st c v (IsPart name i object e h) =
    let at : object_named (changed_at st.store name (with_cell i v)) name ≡ Some (with_cell i v object) =
    named_changed st.store name (with_cell i v) name ∙ ap
    (λ t. if t then option_map (with_cell i v) (object_named st.store name) else object_named st.store name)
    (eq-eqb name name refl) ∙ ap (λ o. option_map (with_cell i v) o) e in
    ap (λ o. unwrap_or (slice_get (unwrap_or o no_object).cells i) Nil) at
    ∙ ap (λ o. unwrap_or o Nil) (get_set object.cells i v h)

pub read_apart : (st : State) (c d : Cell) (v : Value) → same_cell c d ≡ false → read (written st c v) d ≡ read st d
read_apart st (Slot i) (Slot j) v e = value_apart st.frame i j v e
read_apart st (Slot i) (Part name j) v e = refl
read_apart st (Part name i) (Slot j) v e = refl
read_apart st (Part name i) (Part other j) v e =
    ap (λ o. unwrap_or (slice_get (unwrap_or o no_object).cells j) Nil)
    (named_changed st.store name (with_cell i v) other) ∙ by (nat_eq name other) refl (object_named st.store other)
  where
    by : (t : Bool) → nat_eq name other ≡ t → (o : Option Object)
        → unwrap_or (slice_get (unwrap_or (if nat_eq name other then option_map (with_cell i v) o else o)
        no_object).cells j) Nil ≡ unwrap_or (slice_get (unwrap_or o no_object).cells j) Nil
    by false f o = rw f refl
    by true f None = rw f refl
    by true f (Some o) = rw f (ap (λ x. unwrap_or x Nil) (get_set_apart o.cells i j v
        (ap (λ t. t && nat_eq i j) (sym f) ∙ e)))
