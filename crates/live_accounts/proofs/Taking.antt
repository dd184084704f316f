-- Blocks that are taken from a heap.
use Rattle.std.proofs.Common.{◌≡◌, ℕ, zero, suc, ◌+◌, ◌-◌, ◌^◌, ◌<◌, ◌≤◌, refl, sym, ap, subst, ◌∙◌, arith, List}
use Rattle.std.proofs.Common.{[], ◌∷◌, ◌++◌, append_assoc, length, replicate, Some, None, true, false}
use Rattle.std.proofs.lemmas.List.{length-map, length-replicate}
use Rattle.std.specs.Prelude.{Option, is_none}
use Rattle.std.specs.Option.{unwrap_or}
use Rattle.source_debugger.specs.buddy_book.Book.{Book, take}
use Rattle.source_debugger.specs.buddy_book.Place.{Log, Taken, Placing, count_taken, with_block}
use Rattle.source_debugger.specs.buddy_book.Place.{after_request, place}
use Rattle.source_debugger.specs.buddy_book.Shown.{list_at}
use Rattle.source_debugger.specs.roopl_semantics.Laws.{book_of}
use Rattle.source_debugger.specs.roopl_semantics.Execution.{order_of_cells}
use Rattle.source_debugger.specs.roopl_semantics.Store.{Value, Head}
use Rattle.source_debugger.specs.source_store.declared.value.Value.{Value as Held}
use Rattle.source_debugger.specs.source_store.ValueView.{value_of, values_of}
use Rattle.source_debugger.specs.source_store.HeapView.{Kept, TookBlock, TookNone as FoundNone, Took as Found}
use Rattle.source_debugger.specs.source_store.HeapView.{asked_for}
use Rattle.live_accounts.specs.Free.{free_after, free_line, free_lines}
use Rattle.live_accounts.specs.Takes.{free_in, IsLast, SameBut, TookOne, TakesNone, TookAll}
use Rattle.live_accounts.proofs.Books.{at, OneLess, took_past, none_past, AsMany, placed_as, nothing_past}

abbrev lists : Option Placing → Book
lists o = unwrap_or (book_of o) []

-- ---- one request

none_by : (name order : ℕ) (o : Option Placing) → is_none (after_request (Taken name order) o) ≡ true
    → list_at (lists o) order ≡ []
none_by name order None e = refl
none_by name order (Some p) e = none_past (order - 1) (2 ^ order) p.book (by (take p.book order) e)
  where
    by : (t : Option (ℕ × Book)) → is_none (with_block name p.blocks t) ≡ true → t ≡ None
    by None e = refl
    by (Some (block, book)) e = cc

some_by : (name order : ℕ) (o : Option Placing) → is_none (after_request (Taken name order) o) ≡ false
    → ((i : ℕ) → order - 1 < i → at (lists o) i ≡ [])
    → OneLess (order - 1) (lists o) (lists (after_request (Taken name order) o))
some_by name order None e above = cc
some_by name order (Some p) e above =
    by (take p.book order) (λ block later f. took_past (order - 1) (2 ^ order) p.book block later above f) e
  where
    by : (t : Option (ℕ × Book)) → ((block : ℕ) (later : Book) → t ≡ Some (block, later)
        → OneLess (order - 1) p.book later)
        → is_none (with_block name p.blocks t) ≡ false
        → OneLess (order - 1) p.book (lists (with_block name p.blocks t))
    by None on e = cc
    by (Some (block, later)) on e = on block later refl

-- the request for an array of so many cells
abbrev asks : Kept → ℕ → Log
asks heap order = Taken (2 + count_taken heap.log) order ∷ heap.log

-- the list at the index of an order above one
up : (order i : ℕ) (book : Book) → 1 ≤ order → IsLast order book → order - 1 < i → at book i ≡ []
up order i book from last h =
    let same : i ≡ suc i - 1 = omega arith in
    ap (at book) same ∙ last.above (suc i) (omega arith)

apart : (order k : ℕ) → 1 ≤ order → 1 ≤ k → (k ≡ order → ⊥) → k - 1 ≡ order - 1 → ⊥
apart order k from one other e = other (omega arith)

pub found_none : (order n : ℕ) (old new : Kept) → order_of_cells n ≡ order → FoundNone old new n
    → TakesNone order old new
found_none order n old new size f = record {
  none = none_by (2 + count_taken old.log) order (place old.order old.log)
      (ap (λ (k : ℕ). is_none (place old.order (asks old k))) (sym size) ∙ f.no_block);
  stays = f.heap;
}

pub found_one : (order n name : ℕ) (old new : Kept) (head : Head) (cells : List Value) → 1 ≤ order
    → order_of_cells n ≡ order → length cells ≡ n → IsLast order (free_in old) → TookBlock name old new head cells
    → TookOne order old new
found_one order n name old new head cells from size many last f =
    let same : asked_for old (length cells) ≡ asks old order =
    ap (λ (k : ℕ). asks old (order_of_cells k)) many ∙ ap (asks old) size in
    let some : is_none (place old.order (asks old order)) ≡ false =
    ap (λ (log : Log). is_none (place old.order log)) (sym same) ∙ f.has_block in
    let after : lists (place old.order (asks old order)) ≡ free_in new =
    ap (λ (log : Log). free_after old.order log) (sym same) ∙ sym (ap free_in f.heap) in
    let one : OneLess (order - 1) (free_in old) (free_in new) =
    subst (λ (b : Book). OneLess (order - 1) (free_in old) b) after
    (some_by (2 + count_taken old.log) order (place old.order old.log) some (λ i. up order i (free_in old) from last))
    in
    record {
      less = one.less;
      others = record { others = λ k h other. one.others (k - 1) (apart order k from h other) };
      same = ap (λ (h : Kept). h.order) f.heap;
    }

-- so many cells with one value
pub so_many : (items : List Held) (n : ℕ) (v : Held) → items ≡ replicate n v → length (values_of items) ≡ n
so_many items n v e = length-map items value_of ∙ ap length e ∙ length-replicate n v

pub takes_none : (order n : ℕ) (old new : Kept) (head : Head) (cells : List Value) (name : Option ℕ)
    → order_of_cells n ≡ order → length cells ≡ n → name ≡ None → Found name old new head cells
    → TakesNone order old new
takes_none order n old new head cells (Some name) size many e f = cc
takes_none order n old new head cells None size many e f =
    found_none order n old new size (subst (λ (k : ℕ). FoundNone old new k) many f)

pub takes_one : (order n k : ℕ) (old new : Kept) (head : Head) (cells : List Value) (name : Option ℕ) → 1 ≤ order
    → order_of_cells n ≡ order → length cells ≡ n → IsLast order (free_in old) → name ≡ Some k
    → Found name old new head cells → TookOne order old new
takes_one order n k old new head cells None from size many last e f = cc
takes_one order n k old new head cells (Some name) from size many last e f =
    found_one order n name old new head cells from size many last f

-- ---- all blocks of an order

-- so many of them are taken
pub record HasTaken (count order : ℕ) (old now : Kept) : Type 0 where
  pub sum : count + length (list_at (free_in now) order) ≡ length (list_at (free_in old) order)
  pub others : SameBut order (free_in old) (free_in now)
  pub same : now.order ≡ old.order

-- ---- the lines

same_lines : (k order : ℕ) (old new : Book) → k < order → SameBut order old new → free_lines k new ≡ free_lines k old
same_lines zero order old new h same = refl
same_lines (suc k) order old new h same =
    ap (λ (t : List ℕ). t ++ free_line (suc k) (length (list_at new (suc k))))
    (same_lines k order old new (omega arith) same)
    ∙ ap (λ (l : List ℕ). free_lines k old ++ free_line (suc k) (length l))
    (same.others (suc k) (omega arith) (λ e. absurd (omega arith)))

lines_at : (lower count : ℕ) (old mid : Kept) → TookAll count (suc lower) old mid
    → free_lines lower (free_in mid) ++ free_line (suc lower) count ≡ free_lines (suc lower) (free_in old)
lines_at lower count old mid all =
    ap (λ (t : List ℕ). t ++ free_line (suc lower) count)
    (same_lines lower (suc lower) (free_in old) (free_in mid) (omega arith) all.others)
    ∙ ap (λ (n : ℕ). free_lines lower (free_in old) ++ free_line (suc lower) n) all.count

pub lines_to : (order count : ℕ) (old mid : Kept) (before after all : List ℕ) → 1 ≤ order → TookAll count order old mid
    → after ≡ before ++ free_lines (order - 1) (free_in mid) → all ≡ after ++ free_line order count
    → all ≡ before ++ free_lines order (free_in old)
lines_to zero count old mid before after all from took e f = absurd (omega arith)
lines_to (suc lower) count old mid before after all from took e f =
    let same : suc lower - 1 ≡ lower = omega arith in
    f ∙ ap (λ (t : List ℕ). t ++ free_line (suc lower) count)
    (e ∙ ap (λ (k : ℕ). before ++ free_lines k (free_in mid)) same)
    ∙ append_assoc before (free_lines lower (free_in mid)) (free_line (suc lower) count)
    ∙ ap (λ (t : List ℕ). before ++ t) (lines_at lower count old mid took)

as_many : (order i : ℕ) (o : Option Placing) → AsMany order o → order ≤ i → at (lists o) i ≡ []
as_many order i None h l = refl
as_many order i (Some p) h l = nothing_past p.book i (omega arith)

pub highest_last : (order : ℕ) (heap : Kept) → heap.order ≡ order → IsLast order (free_in heap)
highest_last order heap e = record {
  above = λ k h. as_many heap.order (k - 1) (place heap.order heap.log) (placed_as heap.order heap.log) (omega arith);
}
