-- What every heap keeps if its newest request is undone.
use Rattle.std.proofs.Common.{◌≡◌, ℕ, zero, suc, ◌+◌, ◌-◌, ◌<◌, ◌≤◌, refl, sym, ap, subst, ◌∙◌, arith, List, [], ◌∷◌}
use Rattle.std.proofs.Common.{◌++◌, length, length-set, Some, None, eq-eqb, true, if◌then◌else◌}
use Rattle.std.specs.Prelude.{Option, slice_get, slice_set, take as front}
use Rattle.meaning_machine.specs.buddy_book.Book.{take, give_back}
use Rattle.meaning_machine.specs.buddy_book.Place.{Log, Taken, Given, Placing, count_taken, block_of, place}
use Rattle.meaning_machine.specs.buddy_book.Shown.{Shown, order_in, with_taken, without_taken}
use Rattle.meaning_machine.specs.roopl_semantics.Store.{Value, Head, without}
use Rattle.meaning_machine.specs.roopl_semantics.Execution.{order_of_cells, new_object}
use Rattle.meaning_machine.specs.roopl_semantics.Laws.{book_of, block_in as block_in_places}
use Rattle.meaning_machine.specs.Reversed.{put_back}
use Rattle.source_store.specs.declared.object.Object.{Object as Live}
use Rattle.source_store.specs.declared.requests.Request.{Request as Asked}
use Rattle.source_store.specs.declared.requests.Request.TheVariants as asked
use Rattle.source_store.specs.ValueView.{object_of}
use Rattle.source_store.specs.HeapView.{Kept, kept_of, store_of, heap_request, log_of, live_block_in}
use Rattle.source_store.specs.HeapView.{block_and_size, live_block_at, IsBookPlaced, IsHeap, SamePlaces, AreUndone}
use Rattle.source_store.specs.HeapView.{before_take, before_give, is_free_slot}
use Rattle.source_store.proofs.Tables.{pushed_length, pushed_store, block_before, block_past, filled_block}
use Rattle.source_store.proofs.Tables.{filled_other, filled_store}
use Rattle.source_store.proofs.Blocks.{one_more, took_placed, gave_placed}

-- ---- lists that lose their last element

pub last_of : {A : Type 0} (xs : List A) (i : ℕ) (x : A) → length xs ≡ suc i → slice_get xs i ≡ Some x
    → xs ≡ front i xs ++ x ∷ []
last_of [] i x e h = cc
last_of (y ∷ []) zero x e h = let z : y ≡ x = cc in ap (λ v. v ∷ []) z
last_of (y ∷ (z ∷ xs)) zero x e h = absurd (omega arith)
last_of (y ∷ xs) (suc i) x e h = ap (λ l. y ∷ l) (last_of xs i x (omega arith) h)

inside : {A : Type 0} (xs : List A) (i : ℕ) (x : A) → slice_get xs i ≡ Some x → i < length xs
inside [] i x h = cc
inside (y ∷ xs) zero x h = omega arith
inside (y ∷ xs) (suc i) x h = let l = inside xs i x h in omega arith

not_past : {A : Type 0} (xs : List A) (i : ℕ) → i < length xs → slice_get xs i ≡ None → ⊥
not_past [] i h e = omega arith
not_past (x ∷ xs) zero h e = cc
not_past (x ∷ xs) (suc i) h e = not_past xs i (omega arith) e

-- a list of no last element, and one without its last element
pub no_last : {A : Type 0} (xs : List A) → slice_get xs (length xs - 1) ≡ None → xs ≡ []
no_last [] e = refl
no_last (x ∷ xs) e = absurd (not_past (x ∷ xs) (length (x ∷ xs) - 1) (omega arith) e)

pub ended : {A : Type 0} (xs : List A) (x : A) → slice_get xs (length xs - 1) ≡ Some x
    → xs ≡ front (length xs - 1) xs ++ x ∷ []
ended xs x h = let l = inside xs (length xs - 1) x h in last_of xs (length xs - 1) x (omega arith) h

-- the log of no newest request, and of one
pub log_of_none : (requests : List Asked) → slice_get requests (length requests - 1) ≡ None → log_of requests ≡ []
log_of_none requests e = ap log_of (no_last requests e)

pub log_of_some : (requests : List Asked) (r : Asked) → slice_get requests (length requests - 1) ≡ Some r
    → log_of requests ≡ heap_request r ∷ log_of (front (length requests - 1) requests)
log_of_some requests r e = ap log_of (ended requests r e) ∙ one_more (front (length requests - 1) requests) r

-- ---- the places before a request

relaid : (book : Shown) (f : ℕ → Option (ℕ × ℕ)) (log older : Log) → IsBookPlaced book f log
    → SamePlaces (place book.h log) (place book.h older) → AreUndone book.h older → IsBookPlaced book f older
relaid book f log older p same undone = by (place book.h older) refl
  where
    by : (q : Option Placing) → place book.h older ≡ q → IsBookPlaced book f older
    by None e =
        let none : Some book.free ≡ None = sym (ap book_of p.placed) ∙ same.book ∙ ap book_of e in cc
    by (Some q) e =
        let free : Some book.free ≡ Some q.book = sym (ap book_of p.placed) ∙ same.book ∙ ap book_of e in
        let is_free : q.book ≡ book.free = cc in
        let block : (n : ℕ) → Some (block_of p.blocks n) ≡ Some (block_of q.blocks n) = λ n.
        sym (ap (λ r. block_in_places r n) p.placed) ∙ same.blocks n ∙ ap (λ r. block_in_places r n) e in
        let is_block : (n : ℕ) → block_of p.blocks n ≡ block_of q.blocks n = λ n. inner _ _ (block n) in
        record {
          kept = p.kept;
          blocks = q.blocks;
          placed = e ∙ ap (λ b. Some (record { book = b; blocks = q.blocks })) is_free;
          each = λ name address size there. (let own = p.each name address size there in
              let P : ℕ → Type 0 = λ b. address ≡ book.base + b in
              record {
                at = subst P (is_block name) own.at;
                with_order = ap (order_in book.taken) (sym (is_block name)) ∙ own.with_order;
              });
          apart = p.apart;
          undone = undone;
        }
      where
        inner : (x y : ℕ) → Some x ≡ Some y → x ≡ y
        inner x y h = cc

-- ---- an allocation undone

live_there : (slot : Option (Option Live)) (at size : ℕ) → live_block_in slot ≡ Some (at, size)
    → (live : Live) × (slot ≡ Some (Some live))
live_there None at size e = cc
live_there (Some None) at size e = cc
live_there (Some (Some live)) at size e = (live, refl)

module _ (order : ℕ) (book : Shown) (table shrunk : List (Option Live)) (requests fewer : List Asked)
    (name at size k : ℕ) (heap : IsHeap order book table requests)
    (newest : slice_get requests (length requests - 1) ≡ Some (asked.Taken name k))
    (less : fewer ≡ front (length requests - 1) requests)
    (there : live_block_at table name ≡ Some (at, size)) (is : k ≡ order_of_cells size) (last : name + 1 ≡ length table)
    (short : shrunk ≡ front (length table - 1) table) where
  log_before : log_of requests ≡ Taken name k ∷ log_of fewer
  log_before = log_of_some requests (asked.Taken name k) newest ∙ ap (λ l. Taken name k ∷ log_of l) (sym less)

  live : Live
  live = (live_there (slice_get table name) at size there).0

  whole : table ≡ shrunk ++ Some live ∷ []
  unfolding live
  whole =
      let before : name ≡ length table - 1 = omega arith in
      last_of table name (Some live) (omega arith) (live_there (slice_get table name) at size there).1
      ∙ ap (λ k. front k table ++ Some live ∷ []) before ∙ ap (λ l. l ++ Some live ∷ []) (sym short)

  many : length shrunk ≡ name
  many = let p = ap length whole in let q = pushed_length shrunk (Some live) in omega arith

  stays : (n : ℕ) → (n ≡ name → ⊥) → live_block_at shrunk n ≡ live_block_at table n
  stays n other = sym (block_before shrunk live n (λ e. other (e ∙ many)))
      ∙ ap (λ t. live_block_at t n) (sym whole)

  pub untook_heap : (after : Shown) → after.free ≡ give_back book.free k (at - book.base)
      → after.taken ≡ without_taken (at - book.base) book.taken
      → after ≡ record { h = book.h; base = book.base; free = after.free; taken = after.taken }
      → IsHeap order after shrunk fewer
  untook_heap after free taken all =
      let own = heap.placed.each name at size there in
      let block : at - book.base ≡ block_of heap.placed.blocks name = let z = own.at in omega arith in
      let full : after ≡ record {
        h = book.h;
        base = book.base;
        free = give_back book.free (order_of_cells size) (block_of heap.placed.blocks name);
        taken = without_taken (block_of heap.placed.blocks name) book.taken;
      } = all ∙ ap (λ f. record { h = book.h; base = book.base; free = f; taken = after.taken })
      (free ∙ ap (λ j. give_back book.free j (at - book.base)) is
      ∙ ap (give_back book.free (order_of_cells size)) block)
      ∙ ap (λ t. record {
        h = book.h;
        base = book.base;
        free = give_back book.free (order_of_cells size) (block_of heap.placed.blocks name);
        taken = t;
      }) (taken ∙ ap (λ b. without_taken b book.taken) block) in
      let gave = gave_placed book (live_block_at table) (live_block_at shrunk) (log_of requests) heap.placed name size
      at there
      (block_past shrunk name (omega (arith, many))) stays in
      let P : Log → Type 0 = λ l. AreUndone book.h l in
      let undone = subst P log_before heap.placed.undone in
      let same : SamePlaces (place book.h (Given name (order_of_cells size) ∷ log_of requests))
      (place book.h (log_of fewer)) =
      (let Q : ℕ → Type 0 = λ j. SamePlaces (place book.h (Given name j ∷ (Taken name k ∷ log_of fewer)))
      (place book.h (log_of fewer)) in
      let R : Log → Type 0 = λ l. SamePlaces (place book.h (Given name (order_of_cells size) ∷ l))
      (place book.h (log_of fewer)) in subst R (sym log_before) (subst Q is undone.0)) in
      let S : Shown → Type 0 = λ b. IsBookPlaced b (live_block_at shrunk) (log_of fewer) in
      record {
        same = ap (λ b. b.h) full ∙ heap.same;
        next = let h = heap.next in let l = ap (λ l. count_taken l) log_before in let m = many in omega arith;
        few = let f = heap.few in let m = many in omega arith;
        placed = subst S (sym full) (relaid _ (live_block_at shrunk)
            (Given name (order_of_cells size) ∷ log_of requests)
            (log_of fewer) gave same undone.1);
      }

  pub untook_view : (kept : Kept) → kept_of order table requests ≡ kept
      → before_take kept kept.log ≡ Some (kept_of order shrunk fewer)
  untook_view kept view =
      ap (λ k. before_take k k.log) (sym view)
      ∙ ap (before_take (kept_of order table requests)) log_before
      ∙ ap (λ s. Some (record { order = order; store = without s name; log = log_of fewer }))
      (ap store_of whole ∙ pushed_store shrunk live)
      ∙ ap (λ t. Some (record {
        order = order;
        store = if t then store_of shrunk else (length shrunk, object_of live) ∷ without (store_of shrunk) name;
        log = log_of fewer;
      })) (eq-eqb (length shrunk) name many)

-- ---- a freeing undone

module _ (order : ℕ) (book : Shown) (table : List (Option Live)) (requests fewer : List Asked) (live : Live)
    (name at k : ℕ) (heap : IsHeap order book table requests)
    (newest : slice_get requests (length requests - 1) ≡ Some (asked.Given name k))
    (less : fewer ≡ front (length requests - 1) requests) (free : slice_get table name ≡ Some None)
    (is : k ≡ order_of_cells (length live.cells.items)) (block : live.block ≡ Some at) where
  log_of_give : log_of requests ≡ Given name k ∷ log_of fewer
  log_of_give = log_of_some requests (asked.Given name k) newest ∙ ap (λ l. Given name k ∷ log_of l) (sym less)

  in_table : name < length table
  in_table = inside table name None free

  pub ungave_heap : (after : Shown) → book.base ≤ at → take book.free k ≡ Some (at - book.base, after.free)
      → after.taken ≡ with_taken (at - book.base) k book.taken
      → after ≡ record { h = book.h; base = book.base; free = after.free; taken = after.taken }
      → IsHeap order after (slice_set table name (Some live)) fewer
  ungave_heap after base took taken all =
      let full : after ≡ record {
        h = book.h;
        base = book.base;
        free = after.free;
        taken = with_taken (at - book.base) k book.taken;
      } = all ∙ ap (λ t. record { h = book.h; base = book.base; free = after.free; taken = t }) taken in
      let after_table = slice_set table name (Some live) in
      let placed = took_placed book (live_block_at table) (live_block_at after_table) (log_of requests) heap.placed name
      (length live.cells.items) k at after.free is base took
      (filled_block table name live in_table ∙ ap (λ b. block_and_size b (length live.cells.items)) block)
      (λ n other. filled_other table name live n other) in
      let P : Log → Type 0 = λ l. AreUndone book.h l in
      let undone = subst P log_of_give heap.placed.undone in
      let R : Log → Type 0 = λ l. SamePlaces (place book.h (Taken name k ∷ l)) (place book.h (log_of fewer)) in
      let S : Shown → Type 0 = λ b. IsBookPlaced b (live_block_at after_table) (log_of fewer) in
      record {
        same = ap (λ b. b.h) full ∙ heap.same;
        next = let p = length-set table name (Some live) in let h = heap.next in let l =
            ap (λ l. count_taken l) log_of_give in omega arith;
        few = let p = length-set table name (Some live) in let f = heap.few in omega arith;
        placed = subst S (sym full) (relaid _ (live_block_at after_table) (Taken name k ∷ log_of requests)
            (log_of fewer)
            placed (subst R (sym log_of_give) undone.0) undone.1);
      }

  pub ungave_view : (kept : Kept) (head : Head) (cells : List Value) → kept_of order table requests ≡ kept
      → object_of live ≡ new_object head cells → before_give kept head cells kept.log
      ≡ Some (name, kept_of order (slice_set table name (Some live)) fewer)
  ungave_view kept head cells view new =
      ap (λ k. before_give k head cells k.log) (sym view)
      ∙ ap (before_give (kept_of order table requests) head cells) log_of_give
      ∙ ap (λ o. Some (name, record { order = order; store = put_back (store_of table) name o; log = log_of fewer }))
      (sym new)
      ∙ ap (λ s. Some (name, record { order = order; store = s; log = log_of fewer }))
      (sym (filled_store table name live free in_table))

-- ---- as the results have it

module _ (order : ℕ) (book : Shown) (table : List (Option Live)) (requests fewer : List Asked) (live : Live)
    (name at k : ℕ) (slot : Option Live) (heap : IsHeap order book table requests)
    (newest : slice_get requests (length requests - 1) ≡ Some (asked.Given name k))
    (less : fewer ≡ front (length requests - 1) requests) (free : slice_get table name ≡ Some None)
    (is : k ≡ order_of_cells (length live.cells.items)) (block : live.block ≡ Some at) (filled : slot ≡ Some live) where
  pub ungave_so : (after : Shown) → book.base ≤ at → take book.free k ≡ Some (at - book.base, after.free)
      → after.taken ≡ with_taken (at - book.base) k book.taken
      → after ≡ record { h = book.h; base = book.base; free = after.free; taken = after.taken }
      → IsHeap order after (slice_set table name slot) fewer
  ungave_so after base took taken all = let P : Option Live → Type 0 = λ s. IsHeap order after (slice_set table name s)
      fewer in
      subst P (sym filled) (ungave_heap order book table requests fewer live name at k heap newest less free is block
      after base took taken all)

  pub ungave_shown : (kept : Kept) (head : Head) (cells : List Value) → kept_of order table requests ≡ kept
      → object_of live ≡ new_object head cells
      → before_give kept head cells kept.log ≡ Some (name, kept_of order (slice_set table name slot) fewer)
  ungave_shown kept head cells view new =
      ungave_view order book table requests fewer live name at k heap newest less free is block kept head cells view new
      ∙ ap (λ s. Some (name, kept_of order (slice_set table name s) fewer)) (sym filled)

pub free_slot : (o : Option (Option Live)) → true ≡ is_free_slot o → o ≡ Some None
free_slot None e = cc
free_slot (Some None) e = refl
free_slot (Some (Some live)) e = cc
