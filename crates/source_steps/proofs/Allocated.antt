-- New objects and arrays.
use Rattle.std.proofs.Common.{◌≡◌, ℕ, ◌+◌, refl, sym, ap, subst, ◌∙◌, List, ◌∷◌, length, Bool, true, false}
use Rattle.std.specs.Prelude.{◌||◌, nat_lt, is_none}
use Rattle.source_store.specs.buddy_book.Place.{Taken, count_taken, place}
use Rattle.source_store.specs.roopl_semantics.Run.{Run, ◌>>=◌, give, fault_if}
use Rattle.source_store.specs.roopl_semantics.Store.{State, Value, Name, Head}
use Rattle.source_store.specs.roopl_semantics.Value.{Cell, written}
use Rattle.source_store.specs.roopl_semantics.Execution.{Setting, allocated, order_of_cells, new_object, HEAP_FULL}
use Rattle.source_store.specs.declared.value.Value.{Value as Held}
use Rattle.source_store.specs.HeapView.{Kept, asked_for, TookBlock}
use Rattle.source_steps.specs.declared.scope.Scope.{Scope as Chain}
use Rattle.source_steps.specs.declared.expressions.Setting.{Setting as Here}
use Rattle.source_steps.specs.Metered.{Went, metered}
use Rattle.source_steps.specs.StateView.{state_of, setting_of}
use Rattle.source_steps.proofs.Fuelled.{gives}

abbrev with_new : ℕ → Cell → Head → List Value → State → State
with_new size cell head cells st =
    let name = 2 + count_taken st.log in
    let log = Taken name (order_of_cells size) ∷ st.log in
    written (record st { store = (name, new_object head cells) ∷ st.store; log = log }) cell (Name name)

abbrev by_full : ℕ → Cell → Head → List Value → State → Bool → Run State
by_full size cell head cells st t = fault_if HEAP_FULL t >>= (λ u. give (with_new size cell head cells st))

room_goes : (size : ℕ) (cell : Cell) (head : Head) (cells : List Value) (st : State) (fuel : ℕ)
    → metered fuel (by_full size cell head cells st false) ≡ Went (with_new size cell head cells st) fuel
room_goes size cell head cells st fuel = gives fuel (with_new size cell head cells st)

or_none : (a b : Bool) → a ≡ false → a || b ≡ b
or_none a b e = ap (λ t. t || b) e

-- the heap has a block
pub a_block : (setting : Setting) (fuel name : ℕ) (cell : Cell) (head : Head) (cells : List Value) (st : State)
    (old new : Kept) → nat_lt setting.limits.heap (order_of_cells (length cells)) ≡ false
    → old.order ≡ setting.limits.heap → old.log ≡ st.log → TookBlock name old new head cells
    → metered fuel (allocated setting (length cells) cell head cells st)
    ≡ Went (with_new (length cells) cell head cells st) fuel
a_block setting fuel name cell head cells st old new e o l took =
    ap (λ t. metered fuel (by_full (length cells) cell head cells st t))
    (or_none (nat_lt setting.limits.heap (order_of_cells (length cells)))
    (is_none (place setting.limits.heap (Taken (2 + count_taken st.log) (order_of_cells (length cells))
    ∷ st.log))) e
    ∙ ap (λ h. is_none (place h (Taken (2 + count_taken st.log) (order_of_cells (length cells)) ∷ st.log))) (sym o)
    ∙ ap (λ log. is_none (place old.order (Taken (2 + count_taken log) (order_of_cells (length cells)) ∷ log))) (sym l)
    ∙ took.has_block)
    ∙ room_goes (length cells) cell head cells st fuel

-- the state with the new object, once its name is written
pub new_state : (here : Here) (scope : Chain) (name size : ℕ) (cell : Cell) (head : Head) (cells : List Value)
    (old new : Kept) (values : List Held) → size ≡ length cells → TookBlock name old new head cells
    → written (state_of here scope new values) cell (Name name)
    ≡ with_new size cell head cells (state_of here scope old values)
new_state here scope name size cell head cells old new values s took =
    ap (λ heap. written (state_of here scope heap values) cell (Name name)) took.heap
    ∙ ap (λ n. written (record (state_of here scope old values)
    { store = (n, new_object head cells) ∷ old.store; log = asked_for old (length cells) }) cell (Name n))
    took.named
    ∙ ap (λ z. with_new z cell head cells (state_of here scope old values)) (sym s)

pub placed_new : (here : Here) (scope : Chain) (fuel name size : ℕ) (cell : Cell) (head : Head) (cells : List Value)
    (old new : Kept) (values : List Held) (after : State)
    → size ≡ length cells → nat_lt here.limits.heap (order_of_cells size) ≡ false → old.order ≡ here.limits.heap
    → TookBlock name old new head cells → after ≡ written (state_of here scope new values) cell (Name name)
    → metered fuel (allocated (setting_of here) size cell head cells (state_of here scope old values)) ≡ Went after fuel
placed_new here scope fuel name size cell head cells old new values after s e o took is =
    subst (λ z. nat_lt here.limits.heap (order_of_cells z) ≡ false
    → metered fuel (allocated (setting_of here) z cell head cells (state_of here scope old values))
    ≡ Went after fuel) (sym s)
    (λ e. a_block (setting_of here) fuel name cell head cells (state_of here scope old values) old new e o refl took
    ∙ ap (λ s. Went s fuel) (sym (new_state here scope name (length cells) cell head cells old new values refl took)
    ∙ sym is)) e
