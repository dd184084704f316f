-- What is read after a write.
use Rattle.std.proofs.Common.{◌≡◌, ◌≢◌, ◌∙◌, sym, ap, subst, refl, ℕ, zero, suc, ◌<◌, Bool, true, false, List, [], ◌∷◌}
use Rattle.std.proofs.Common.{map, length, Option, Some, None, arith, slice_get, slice_set}
use Rattle.std.proofs.lemmas.Bool.{eqb-true}
use Rattle.std.specs.Prelude.{nat_eq, ◌&&◌}
use Rattle.std.specs.Option.{unwrap_or, option_map}
use Rattle.roopl_semantics.specs.class_rules.declared.kind.Kind.{Kind}
use Rattle.roopl_semantics.specs.class_rules.Scope.{Locals}
use Rattle.roopl_semantics.specs.Store.{Value, Nil, Object, State, object_named, object_at, no_object, changed_at}
use Rattle.roopl_semantics.specs.Value.{Cell, Slot, Part, with_value, read, written}
use Rattle.roopl_semantics.specs.Execution.{Setting, same_cell}
use Rattle.meaning_sound.specs.Sound.{cell_kinds, local_type, bound_value, cell_kind, Typed}
use Rattle.meaning_sound.proofs.Lists.{all_inside}
use Rattle.meaning_sound.proofs.Stores.{changed_here, changed_other, differs}
use Rattle.meaning_sound.proofs.Cells.{part_of, value_at_is, with_value_values}

set_get_same : (vs : List Value) (i : ℕ) (v : Value) → i < length vs
    → unwrap_or (slice_get (slice_set vs i v) i) Nil ≡ v
set_get_same [] i v h = absurd (omega arith)
set_get_same (x ∷ vs) zero v h = refl
set_get_same (x ∷ vs) (suc i) v h = set_get_same vs i v (omega arith)

set_get_other : (vs : List Value) (i j : ℕ) (v : Value) → i ≢ j → slice_get (slice_set vs i v) j ≡ slice_get vs j
set_get_other [] i j v h = refl
set_get_other (x ∷ vs) zero zero v h = absurd (h refl)
set_get_other (x ∷ vs) zero (suc j) v h = refl
set_get_other (x ∷ vs) (suc i) zero v h = refl
set_get_other (x ∷ vs) (suc i) (suc j) v h = set_get_other vs i j v (λ e. h (ap suc e))

pub same_cell_is : (a b : Cell) → same_cell a b ≡ true → a ≡ b
same_cell_is (Slot i) (Slot j) h = ap Slot (eqb-true i j h)
same_cell_is (Slot i) (Part m j) h = absurd (cc)
same_cell_is (Part n i) (Slot j) h = absurd (cc)
same_cell_is (Part n i) (Part m j) h = by (nat_eq n m) refl h
  where
    by : (b : Bool) → nat_eq n m ≡ b → (b && nat_eq i j) ≡ true → Part n i ≡ Part m j
    by true e q = ap (λ z. Part z i) (eqb-true n m e) ∙ ap (Part m) (eqb-true i j q)
    by false e q = absurd (cc)

pub read_other : (st : State) (a b : Cell) (v : Value) → same_cell a b ≡ false → read (written st a v) b ≡ read st b
read_other st (Slot i) (Slot j) v h =
    value_at_is (with_value st.frame i v) j
    ∙ ap (λ vs. unwrap_or (slice_get vs j) Nil) (with_value_values st.frame i v)
    ∙ ap (λ r. unwrap_or r Nil) (set_get_other (map bound_value st.frame) i j v (differs i j h))
    ∙ sym (value_at_is st.frame j)
read_other st (Slot i) (Part m j) v h = refl
read_other st (Part n i) (Slot j) v h = refl
read_other st (Part n i) (Part m j) v h = by (nat_eq n m) refl h
  where
    f : Object → Object
    f o = record o { cells = slice_set o.cells i v }

    apart : (b : Bool) → (true && b) ≡ false → b ≡ false
    apart true q = absurd (cc)
    apart false q = refl

    mapped : (r : Option Object) → i ≢ j → slice_get (unwrap_or (option_map f r) no_object).cells j
        ≡ slice_get (unwrap_or r no_object).cells j
    mapped None d = refl
    mapped (Some o) d = set_get_other o.cells i j v d

    by : (b : Bool) → nat_eq n m ≡ b → (b && nat_eq i j) ≡ false
        → read (written st (Part n i) v) (Part m j) ≡ read st (Part m j)
    by true e q =
        let s = eqb-true n m e in
        subst (λ k. unwrap_or (slice_get (object_at (changed_at st.store n f) k).cells j) Nil
        ≡ unwrap_or (slice_get (object_at st.store k).cells j) Nil) s
        (ap (λ r. unwrap_or (slice_get (unwrap_or r no_object).cells j) Nil) (changed_here st.store n f)
        ∙ ap (λ r. unwrap_or r Nil) (mapped (object_named st.store n) (differs i j (apart (nat_eq i j) q))))
    by false e q = ap (λ r. unwrap_or (slice_get (unwrap_or r no_object).cells j) Nil)
        (changed_other st.store n m f (differs n m e))

pub read_same : (setting : Setting) (extra : ℕ → ℕ) (shape : Locals) (class : ℕ) (st : State) (cell : Cell) (k : Kind)
    (v : Value) → Typed setting extra shape class st → cell_kind setting.program shape st.store cell ≡ Some k
    → read (written st cell v) cell ≡ v
read_same setting extra shape class st (Slot i) k v t h =
    value_at_is (with_value st.frame i v) i
    ∙ ap (λ vs. unwrap_or (slice_get vs i) Nil) (with_value_values st.frame i v)
    ∙ set_get_same (map bound_value st.frame) i v (all_inside setting.program st.store (map local_type shape)
    (map bound_value st.frame) i k t.variables h)
read_same setting extra shape class st (Part n i) k v t h =
    let p = part_of setting.program st.store n i k h in
    let inside = all_inside setting.program st.store (cell_kinds setting.program p.object.head) p.object.cells i k
    (t.objects n p.object p.named) p.kind_is in
    let f : Object → Object = λ o. record o { cells = slice_set o.cells i v } in
    ap (λ r. unwrap_or (slice_get (unwrap_or r no_object).cells i) Nil)
    (changed_here st.store n f ∙ ap (option_map f) p.named)
    ∙ set_get_same p.object.cells i v inside

-- the second place of a swap still holds its value, or holds it already
pub read_moved : (setting : Setting) (extra : ℕ → ℕ) (shape : Locals) (class : ℕ) (st : State) (a b : Cell) (k : Kind)
    → Typed setting extra shape class st → cell_kind setting.program shape st.store a ≡ Some k
    → read (written st a (read st b)) b ≡ read st b
read_moved setting extra shape class st a b k t h = by (same_cell a b) refl
  where
    by : (s : Bool) → same_cell a b ≡ s → read (written st a (read st b)) b ≡ read st b
    by true e = subst (λ z. read (written st a (read st b)) z ≡ read st b) (same_cell_is a b e)
        (read_same setting extra shape class st a k (read st b) t h)
    by false e = read_other st a b (read st b) e
