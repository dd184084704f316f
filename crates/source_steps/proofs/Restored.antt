-- A cell that is written, and then holds again what it held before.
use Rattle.std.proofs.Common.{◌≡◌, ℕ, zero, suc, refl, ap, ◌∙◌, List, [], ◌∷◌, Bool, true, false, Some}
use Rattle.std.specs.Prelude.{nat_eq, slice_get, slice_set, if◌then◌else◌}
use Rattle.std.specs.Option.{unwrap_or}
use Rattle.source_store.specs.roopl_semantics.Store.{Value, Nil, Object, Store, Binding, State, object_at, object_named}
use Rattle.source_store.specs.roopl_semantics.Store.{no_object, changed_at}
use Rattle.source_store.specs.roopl_semantics.Value.{Cell, Slot, Part, read, written, value_at, with_value}
use Rattle.source_store.proofs.roopl_semantics_laws.Changed.{with_cell}

frame_back : (frame : List Binding) (index : ℕ) (v : Value)
    → with_value (with_value frame index v) index (value_at frame index) ≡ frame
frame_back [] index v = refl
frame_back (binding ∷ frame) zero v = refl
frame_back (binding ∷ frame) (suc index) v = ap (λ rest. binding ∷ rest) (frame_back frame index v)

cells_back : (cells : List Value) (index : ℕ) (v : Value)
    → slice_set (slice_set cells index v) index (unwrap_or (slice_get cells index) Nil) ≡ cells
cells_back [] index v = refl
cells_back (cell ∷ cells) zero v = refl
cells_back (cell ∷ cells) (suc index) v = ap (λ rest. cell ∷ rest) (cells_back cells index v)

abbrev part_at : Store → ℕ → ℕ → Value
part_at store name index = unwrap_or (slice_get (object_at store name).cells index) Nil

changed_here : (n name : ℕ) (object : Object) (store : Store) (f : Object → Object) → nat_eq n name ≡ true
    → changed_at ((n, object) ∷ store) name f ≡ (n, f object) ∷ store
changed_here n name object store f e =
    ap (λ t. if t then (n, f object) ∷ store else (n, object) ∷ changed_at store name f) e

changed_later : (n name : ℕ) (object : Object) (store : Store) (f : Object → Object) → nat_eq n name ≡ false
    → changed_at ((n, object) ∷ store) name f ≡ (n, object) ∷ changed_at store name f
changed_later n name object store f e =
    ap (λ t. if t then (n, f object) ∷ store else (n, object) ∷ changed_at store name f) e

part_here : (n name index : ℕ) (object : Object) (store : Store) → nat_eq n name ≡ true
    → part_at ((n, object) ∷ store) name index ≡ unwrap_or (slice_get object.cells index) Nil
part_here n name index object store e =
    ap (λ t. unwrap_or (slice_get (unwrap_or (if t then Some object else object_named store name) no_object).cells
    index) Nil) e

part_later : (n name index : ℕ) (object : Object) (store : Store) → nat_eq n name ≡ false
    → part_at ((n, object) ∷ store) name index ≡ part_at store name index
part_later n name index object store e =
    ap (λ t. unwrap_or (slice_get (unwrap_or (if t then Some object else object_named store name) no_object).cells
    index) Nil) e

back_by : (t : Bool) (n name index : ℕ) (object : Object) (store : Store) (v : Value) → nat_eq n name ≡ t
    → changed_at (changed_at store name (with_cell index v)) name (with_cell index (part_at store name index)) ≡ store
    → changed_at (changed_at ((n, object) ∷ store) name (with_cell index v)) name
    (with_cell index (part_at ((n, object) ∷ store) name index)) ≡ (n, object) ∷ store
back_by true n name index object store v e rest =
    ap (λ s. changed_at s name (with_cell index (part_at ((n, object) ∷ store) name index)))
    (changed_here n name object store (with_cell index v) e)
    ∙ (ap (λ p. changed_at ((n, with_cell index v object) ∷ store) name (with_cell index p))
    (part_here n name index object store e)
    ∙ (changed_here n name (with_cell index v object) store
    (with_cell index (unwrap_or (slice_get object.cells index) Nil)) e
    ∙ ap (λ cells. (n, record object { cells = cells }) ∷ store) (cells_back object.cells index v)))
back_by false n name index object store v e rest =
    ap (λ s. changed_at s name (with_cell index (part_at ((n, object) ∷ store) name index)))
    (changed_later n name object store (with_cell index v) e)
    ∙ (ap (λ p. changed_at ((n, object) ∷ changed_at store name (with_cell index v)) name (with_cell index p))
    (part_later n name index object store e)
    ∙ (changed_later n name object (changed_at store name (with_cell index v))
    (with_cell index (part_at store name index)) e
    ∙ ap (λ rest. (n, object) ∷ rest) rest))

store_back : (store : Store) (name index : ℕ) (v : Value)
    → changed_at (changed_at store name (with_cell index v)) name (with_cell index (part_at store name index)) ≡ store
store_back [] name index v = refl
store_back ((n, object) ∷ store) name index v =
    back_by (nat_eq n name) n name index object store v refl (store_back store name index v)

written_back : (st : State) (cell : Cell) (v : Value) → written (written st cell v) cell (read st cell) ≡ st
written_back st (Slot index) v = ap (λ frame. record st { frame = frame }) (frame_back st.frame index v)
written_back st (Part name index) v = ap (λ store. record st { store = store }) (store_back st.store name index v)

-- a value was written into a cell, and what came then left all as it was: the cell's old value back in it is the state
-- before
pub taken_back : (st before one two end : State) (cell : Cell) (v now : Value) → end ≡ written two cell now → two ≡ one
    → one ≡ written st cell v → now ≡ read before cell → before ≡ st → end ≡ st
taken_back st before one two end cell v now e f g h same = e ∙ (ap (λ s. written s cell now) (f ∙ g)
    ∙ (ap (written (written st cell v) cell) (h ∙ ap (λ s. read s cell) same) ∙ written_back st cell v))
