-- What every heap keeps, through its changes.
use Rattle.std.proofs.Common.{◌≡◌, ℕ, zero, suc, ◌+◌, ◌-◌, ◌^◌, ◌%◌, ◌<◌, ◌≤◌, refl, sym, ap, subst, ◌∙◌, arith, List}
use Rattle.std.proofs.Common.{length-set}
use Rattle.std.proofs.Common.{[], ◌∷◌, ◌++◌, length, map, reverse, Some, None, eq-eqb, Bool, true, false, if◌then◌else◌}
use Rattle.std.proofs.lemmas.Bool.{eqb-true, eqb-false, ltb-true, ltb-false}
use Rattle.std.proofs.lemmas.List.{reverse-append, map_push, length-map}
use Rattle.std.specs.Prelude.{Option, nat_eq, nat_lt, is_none, slice_get, slice_set}
use Rattle.std.proofs.Math.Nat.{pow-le-pow_right}
use Rattle.std.specs.Option.{unwrap_or}
use Rattle.meaning_machine.specs.rpp_words.Order.{IsOrderFor}
use Rattle.meaning_machine.specs.rpp_words.declared.input.TheConstants.{HEADER_WORDS}
use Rattle.meaning_machine.specs.buddy_book.Book.{Book, start, take, give_back, order_for}
use Rattle.meaning_machine.specs.buddy_book.Place.{Log, Taken, Given, count_taken, block_of, without_name, with_block}
use Rattle.meaning_machine.specs.buddy_book.Place.{after_request}
use Rattle.meaning_machine.specs.buddy_book.Place.{place}
use Rattle.meaning_machine.specs.buddy_book.Shown.{Shown, TakenBlocks, order_in, with_taken, without_taken}
use Rattle.meaning_machine.proofs.buddy_book_laws.LeastOrder.{order_for-only}
use Rattle.meaning_machine.proofs.buddy_book_laws.Beginning.{start-kept}
use Rattle.meaning_machine.proofs.buddy_book_laws.Table.{order_in-with}
use Rattle.meaning_machine.proofs.buddy_book_laws.Orders.{take_took, give_gave}
use Rattle.meaning_machine.proofs.buddy_book_laws.Kept.{none_taken, take_kept, given_back, give_kept}
use Rattle.meaning_machine.proofs.buddy_book_laws.Requests.{order_in-with_other, order_in-without_other}
use Rattle.meaning_machine.proofs.buddy_book_laws.Requests.{block_of_other}
use Rattle.meaning_machine.specs.roopl_semantics.Store.{Value, Head, no_object, object_at, without}
use Rattle.meaning_machine.specs.roopl_semantics.Execution.{order_of_cells, new_object}
use Rattle.meaning_machine.specs.roopl_semantics.Laws.{book_of, block_in as block_in_places}
use Rattle.meaning_machine.proofs.roopl_semantics_laws.Orders.{order_from_one, has_room}
use Rattle.source_store.specs.declared.object.Object.{Object as Live}
use Rattle.source_store.specs.declared.requests.Request.{Request as Asked}
use Rattle.source_store.specs.ValueView.{value_of, values_of, object_of}
use Rattle.source_store.specs.HeapView.{Kept, kept_of, store_of, heap_request, log_of, live_in, block_and_size}
use Rattle.source_store.specs.HeapView.{live_block_in}
use Rattle.source_store.specs.HeapView.{live_block_at, IsBlock, IsBookPlaced, IsHeap, SameBlocks, TookBlock}
use Rattle.source_store.proofs.Tables.{differs, object_named_store, pushed_length, pushed_store, pushed_block}
use Rattle.source_store.proofs.Tables.{block_before, block_past, cleared_store, cleared_block, other_block}

pub order_is : (size k : ℕ) → size < 2 ^ 31 → IsOrderFor (size + HEADER_WORDS) k → k ≡ order_of_cells size
order_is size k h is =
    let turned : size + HEADER_WORDS ≡ HEADER_WORDS + size = omega arith in
    sym (order_for-only (size + HEADER_WORDS) k (omega arith) is) ∙ ap (λ n. order_for n) turned

-- ---- changes that move no block

moved_over : (book : Shown) (f g : ℕ → Option (ℕ × ℕ)) (log : Log) → ((k : ℕ) → g k ≡ f k) → IsBookPlaced book f log
    → IsBookPlaced book g log
moved_over book f g log same p = record {
  kept = p.kept;
  blocks = p.blocks;
  placed = p.placed;
  each = λ name address size e. p.each name address size (sym (same name) ∙ e);
  apart = λ n m address size other a b. p.apart n m address size other (sym (same n) ∙ a) (sym (same m) ∙ b);
  undone = p.undone;
}

pub heap_stays : (order : ℕ) (book : Shown) (table after : List (Option Live)) (requests : List Asked)
    → SameBlocks table after → IsHeap order book table requests → IsHeap order book after requests
heap_stays order book table after requests same heap = record {
  same = heap.same;
  next = same.length ∙ heap.next;
  few = let l = same.length in let f = heap.few in omega arith;
  placed = moved_over book (live_block_at table) (live_block_at after) (log_of requests) same.blocks heap.placed;
}

pub one_more : (requests : List Asked) (request : Asked)
    → log_of (requests ++ request ∷ []) ≡ heap_request request ∷ log_of requests
one_more requests request = ap reverse (map_push heap_request requests request)
    ∙ reverse-append (map heap_request requests) (heap_request request ∷ [])

-- ---- a block taken

some_pair : (x y : ℕ × ℕ) → Some x ≡ Some y → x ≡ y
some_pair x y e = cc

module _ (book : Shown) (f g : ℕ → Option (ℕ × ℕ)) (log : Log) (p : IsBookPlaced book f log) where
  module _ (name size k at : ℕ) (after : Book) (is : k ≡ order_of_cells size) (base : book.base ≤ at)
      (took : take book.free k ≡ Some (at - book.base, after))
      (here : g name ≡ Some (at, size)) (there : (n : ℕ) → (n ≡ name → ⊥) → g n ≡ f n) where
    abbrev block : ℕ
    block = at - book.base

    from : 1 ≤ k
    from = let one = order_from_one size in omega arith

    none : order_in book.taken block ≡ None
    none = none_taken book k block after p.kept from took (order_in book.taken block) refl

    first_block : (n : ℕ) → n ≡ name → block_of ((name, block) ∷ p.blocks) n ≡ block
    first_block n e = ap (λ t. if t then block else block_of p.blocks n) (eq-eqb name n (sym e))

    later_block : (n : ℕ) → (n ≡ name → ⊥) → block_of ((name, block) ∷ p.blocks) n ≡ block_of p.blocks n
    later_block n other = ap (λ t. if t then block else block_of p.blocks n) (differs name n (λ e. other (sym e)))

    not_taken : (n address s : ℕ) → f n ≡ Some (address, s) → block ≡ block_of p.blocks n → ⊥
    not_taken n address s e same =
        let old = (p.each n address s e).with_order in
        let gone = sym none ∙ ap (order_in book.taken) same ∙ old in
        cc

    new_at : (n address s : ℕ) → n ≡ name → g n ≡ Some (address, s) → (at ≡ address) × (size ≡ s)
    new_at n address s e q =
        let pair = some_pair (at, size) (address, s) (sym here ∙ ap g (sym e) ∙ q) in
        (ap (λ z. z.0) pair, ap (λ z. z.1) pair)

    each_after : (n address s : ℕ) → g n ≡ Some (address, s) → (t : Bool) → nat_eq n name ≡ t
        → IsBlock (record { h = book.h; base = book.base; free = after; taken = with_taken block k book.taken })
        ((name, block) ∷ p.blocks) n address s
    each_after n address s e true q =
        let same : n ≡ name = eqb-true n name q in
        let now = new_at n address s same e in
        let first = first_block n same in
        let a = now.0 in
        record {
          at = let z : address ≡ book.base + block = omega arith in z ∙ ap (λ b. book.base + b) (sym first);
          with_order = ap (order_in (with_taken block k book.taken)) first ∙ order_in-with block k book.taken none
              ∙ ap (λ z. Some z) (is ∙ ap order_of_cells now.1);
        }
    each_after n address s e false q =
        let other : n ≡ name → ⊥ = eqb-false n name q in
        let before = sym (there n other) ∙ e in
        let old = p.each n address s before in
        record {
          at = old.at ∙ ap (λ b. book.base + b) (sym (later_block n other));
          with_order = ap (order_in (with_taken block k book.taken)) (later_block n other)
              ∙ order_in-with_other block k (block_of p.blocks n) book.taken (not_taken n address s before)
              ∙ old.with_order;
        }

    met : (n m address s o : ℕ) → n ≡ name → (m ≡ name → ⊥) → g n ≡ Some (address, s) → g m ≡ Some (address, o) → ⊥
    met n m address s o same other a b =
        let now = (new_at n address s same a).0 in
        let before = sym (there m other) ∙ b in
        let old = (p.each m address o before).at in
        not_taken m address o before (omega arith)

    apart_after : (n m address s o : ℕ) → g n ≡ Some (address, s) → g m ≡ Some (address, o) → (t : Bool)
        → nat_eq n name ≡ t → (u : Bool) → nat_eq m name ≡ u → n ≡ m
    apart_after n m address s o a b true q true r = eqb-true n name q ∙ sym (eqb-true m name r)
    apart_after n m address s o a b true q false r = absurd
        (met n m address s o (eqb-true n name q) (eqb-false m name r) a b)
    apart_after n m address s o a b false q true r = absurd
        (met m n address o s (eqb-true m name r) (eqb-false n name q) b a)
    apart_after n m address s o a b false q false r = p.apart n m address s o (sym (there n (eqb-false n name q)) ∙ a)
        (sym (there m (eqb-false m name r)) ∙ b)

    taken_back : place book.h (Given name k ∷ (Taken name k ∷ log)) ≡ place book.h log
    taken_back =
        ap (λ q. after_request (Given name k) (after_request (Taken name k) q)) p.placed
        ∙ ap (λ t. after_request (Given name k) (with_block name p.blocks t)) took
        ∙ ap (λ t. Some (record {
          book = give_back after k (if t then block else block_of p.blocks name);
          blocks = if t then p.blocks else (name, block) ∷ without_name p.blocks name;
        })) (eq-eqb name name refl)
        ∙ ap (λ b. Some (record { book = b; blocks = p.blocks }))
        (take_took book.h k block book.free after from p.kept.sound took).undone
        ∙ sym p.placed

    pub took_placed : IsBookPlaced (record {
      h = book.h;
      base = book.base;
      free = after;
      taken = with_taken block k book.taken;
    }) g (Taken name k ∷ log)
    took_placed = record {
      kept = take_kept book k block after p.kept from took
          ((take_took book.h k block book.free after from p.kept.sound took).count ∙ p.kept.lists);
      blocks = (name, block) ∷ p.blocks;
      placed = ap (after_request (Taken name k)) p.placed ∙ ap (with_block name p.blocks) took;
      each = λ n address s e. each_after n address s e (nat_eq n name) refl;
      apart = λ n m address s o a b. apart_after n m address s o a b (nat_eq n name) refl (nat_eq m name) refl;
      undone = (
        record { book = ap book_of taken_back; blocks = λ n. ap (λ q. block_in_places q n) taken_back },
        p.undone,
      );
    }

  -- ---- a block given back

  module _ (name size at : ℕ) (before : f name ≡ Some (at, size)) (gone : g name ≡ None)
      (there : (n : ℕ) → (n ≡ name → ⊥) → g n ≡ f n) where
    abbrev k : ℕ
    k = order_of_cells size

    own : IsBlock book p.blocks name at size
    own = p.each name at size before

    abbrev its_block : ℕ
    its_block = block_of p.blocks name

    not_it : (n address s : ℕ) → g n ≡ Some (address, s) → n ≡ name → ⊥
    not_it n address s e same = let z = sym e ∙ ap g same ∙ gone in cc

    given_taken : place book.h (Taken name k ∷ (Given name k ∷ log))
        ≡ Some (record { book = book.free; blocks = (name, its_block) ∷ without_name p.blocks name })
    given_taken =
        let back = given_back book k its_block p.kept own.with_order in
        ap (λ q. after_request (Taken name k) (after_request (Given name k) q)) p.placed
        ∙ ap (with_block name (without_name p.blocks name))
        (give_gave book.h k its_block book.free (order_from_one size) back.order_to p.kept.lists p.kept.sound
        back.aligned back.fits).undone

    same_block : (n : ℕ) (t : Bool) → nat_eq name n ≡ t
        → (if t then its_block else block_of (without_name p.blocks name) n) ≡ block_of p.blocks n
    same_block n true e = ap (block_of p.blocks) (eqb-true name n e)
    same_block n false e = block_of_other p.blocks name n (eqb-false name n e)

    pub gave_placed : IsBookPlaced (record {
      h = book.h;
      base = book.base;
      free = give_back book.free k its_block;
      taken = without_taken its_block book.taken;
    }) g (Given name k ∷ log)
    gave_placed =
        let back = given_back book k its_block p.kept own.with_order in
        record {
          kept = give_kept book k its_block p.kept (order_from_one size) own.with_order
              ((give_gave book.h k its_block book.free (order_from_one size) back.order_to p.kept.lists p.kept.sound
              back.aligned back.fits).count ∙ p.kept.lists);
          blocks = without_name p.blocks name;
          placed = ap (after_request (Given name k)) p.placed;
          each = λ n address s e.
              let other : n ≡ name → ⊥ = not_it n address s e in
              let old = p.each n address s (sym (there n other) ∙ e) in
              let stays = block_of_other p.blocks name n (λ q. other (sym q)) in
              record {
                at = old.at ∙ ap (λ b. book.base + b) (sym stays);
                with_order = ap (order_in (without_taken its_block book.taken)) stays
                    ∙ order_in-without_other its_block (block_of p.blocks n) book.taken
                    (λ q. other (p.apart n name address s size (sym (there n other) ∙ e)
                    (before ∙ ap (λ a. Some (a, size)) (own.at ∙ ap (λ b. book.base + b) q ∙ sym old.at))))
                    ∙ old.with_order;
              };
          apart = λ n m address s o a b. p.apart n m address s o (sym (there n (not_it n address s a)) ∙ a)
              (sym (there m (not_it m address o b)) ∙ b);
          undone = (
            record {
              book = ap book_of given_taken ∙ sym (ap book_of p.placed);
              blocks = λ n. ap (λ q. block_in_places q n) given_taken
                  ∙ ap (λ b. Some b) (same_block n (nat_eq name n) refl)
                  ∙ sym (ap (λ q. block_in_places q n) p.placed);
            },
            p.undone,
          );
        }

-- ---- the heap before a run

pub base_fits : (h : ℕ) → 1 ≤ h → h ≤ 20 → 2097152 % 2 ^ h ≡ 0
base_fits zero h k = absurd (omega arith)
base_fits (suc zero) h k = refl
base_fits (suc (suc zero)) h k = refl
base_fits (suc (suc (suc zero))) h k = refl
base_fits (suc (suc (suc (suc zero)))) h k = refl
base_fits (suc (suc (suc (suc (suc zero))))) h k = refl
base_fits (suc (suc (suc (suc (suc (suc zero)))))) h k = refl
base_fits (suc (suc (suc (suc (suc (suc (suc zero))))))) h k = refl
base_fits (suc (suc (suc (suc (suc (suc (suc (suc zero)))))))) h k = refl
base_fits (suc (suc (suc (suc (suc (suc (suc (suc (suc zero))))))))) h k = refl
base_fits (suc (suc (suc (suc (suc (suc (suc (suc (suc (suc zero)))))))))) h k = refl
base_fits (suc (suc (suc (suc (suc (suc (suc (suc (suc (suc (suc zero))))))))))) h k = refl
base_fits (suc (suc (suc (suc (suc (suc (suc (suc (suc (suc (suc (suc zero)))))))))))) h k = refl
base_fits (suc (suc (suc (suc (suc (suc (suc (suc (suc (suc (suc (suc (suc zero))))))))))))) h k = refl
base_fits (suc (suc (suc (suc (suc (suc (suc (suc (suc (suc (suc (suc (suc (suc zero)))))))))))))) h k = refl
base_fits (suc (suc (suc (suc (suc (suc (suc (suc (suc (suc (suc (suc (suc (suc (suc zero))))))))))))))) h k = refl
base_fits (suc (suc (suc (suc (suc (suc (suc (suc (suc (suc (suc (suc (suc (suc (suc (suc zero)))))))))))))))) h k =
    refl
base_fits (suc (suc (suc (suc (suc (suc (suc (suc (suc (suc (suc (suc (suc (suc (suc (suc (suc zero))))))))))))))))) h k
    = refl
base_fits (suc (suc (suc (suc (suc (suc (suc (suc (suc
    (suc (suc (suc (suc (suc (suc (suc (suc (suc zero)))))))))))))))))) h k = refl
base_fits (suc (suc (suc (suc (suc (suc (suc (suc (suc
    (suc (suc (suc (suc (suc (suc (suc (suc (suc (suc zero))))))))))))))))))) h k = refl
base_fits (suc (suc (suc (suc (suc (suc (suc (suc (suc
    (suc (suc (suc (suc (suc (suc (suc (suc (suc (suc (suc zero)))))))))))))))))))) h k = refl
base_fits (suc (suc (suc (suc (suc (suc (suc (suc (suc
    (suc (suc (suc (suc (suc (suc (suc (suc (suc (suc (suc (suc n))))))))))))))))))))) h k =
    absurd (omega arith)

pub starts_so : (order : ℕ) (book : Shown) (table : List (Option Live)) (first : Live) (requests : List Asked)
    → 1 ≤ order → order ≤ 20 → book ≡ record { h = order; base = 2097152; free = start order; taken = [] }
    → table ≡ None ∷ Some first ∷ [] → first.block ≡ None → requests ≡ [] → IsHeap order book table requests
starts_so order book table first requests from to is items alone nothing =
    subst (IsHeap order book table) (sym nothing) (record {
      same = ap (λ b. b.h) is;
      next = ap length items;
      few = let l = ap length items in omega arith;
      placed = record {
        kept = rw is (start-kept order 2097152 from to (omega arith));
        blocks = [];
        placed = rw is refl;
        each = λ name address size e. absurd (no_block name address size
            (ap (λ t. live_block_at t name) (sym items) ∙ e));
        apart = λ n m address size other a b. absurd (no_block n address size
            (ap (λ t. live_block_at t n) (sym items) ∙ a));
        undone = tt;
      };
    })
  where
    no_block : (name address size : ℕ) → live_block_at (None ∷ Some first ∷ []) name ≡ Some (address, size) → ⊥
    no_block zero address size e = cc
    no_block (suc zero) address size e = let z = ap (λ b. block_and_size b (length first.cells.items)) (sym alone)
        ∙ e in cc
    no_block (suc (suc name)) address size e = cc

-- ---- the heap with a new object

with_taken_block : (book after : Shown) (at k : ℕ) → after.taken ≡ with_taken at k book.taken
    → after ≡ record { h = book.h; base = book.base; free = after.free; taken = after.taken }
    → after ≡ record { h = book.h; base = book.base; free = after.free; taken = with_taken at k book.taken }
with_taken_block book after at k e is = is ∙ ap (λ t. record
    { h = book.h; base = book.base; free = after.free; taken = t }) e

module _ (order : ℕ) (book after : Shown) (table : List (Option Live)) (requests : List Asked) (live : Live)
    (asked : Asked) (k at : ℕ)
    (heap : IsHeap order book table requests) (is : k ≡ order_of_cells (length live.cells.items))
    (block : live.block ≡ Some at) (request : heap_request asked ≡ Taken (length table) k)
    (base : book.base ≤ at) (took : take book.free k ≡ Some (at - book.base, after.free)) where
  log_after : log_of (requests ++ asked ∷ []) ≡ Taken (length table) k ∷ log_of requests
  log_after = one_more requests asked ∙ ap (λ r. r ∷ log_of requests) request

  pub took_heap : suc (length table) < 2 ^ 32 → after.taken ≡ with_taken (at - book.base) k book.taken
      → after ≡ record { h = book.h; base = book.base; free = after.free; taken = after.taken }
      → IsHeap order after (table ++ Some live ∷ []) (requests ++ asked ∷ [])
  took_heap few taken whole =
      let full = with_taken_block book after (at - book.base) k taken whole in
      let placed = took_placed book (live_block_at table) (live_block_at (table ++ Some live ∷ [])) (log_of requests)
      heap.placed
      (length table) (length live.cells.items) k at after.free is base took
      (pushed_block table live (length table) refl ∙ ap (λ b. block_and_size b (length live.cells.items)) block)
      (λ n other. block_before table live n other) in
      record {
        same = ap (λ b. b.h) full ∙ heap.same;
        next = let p = pushed_length table (Some live) in let h = heap.next in let l =
            ap (λ l. count_taken l) log_after in omega arith;
        few = let p = pushed_length table (Some live) in omega arith;
        placed = subst (λ b. IsBookPlaced b (live_block_at (table ++ Some live ∷ [])) (log_of (requests ++ asked ∷ [])))
            (sym full) (subst (λ l. IsBookPlaced (record {
              h = book.h;
              base = book.base;
              free = after.free;
              taken = with_taken (at - book.base) k book.taken;
            }) (live_block_at (table ++ Some live ∷ [])) l)
            (sym log_after) placed);
      }

  pub took_view : (kept : Kept) (head : Head) (cells : List Value) → kept_of order table requests ≡ kept
      → object_of live ≡ new_object head cells → TookBlock (length table) kept
      (kept_of order (table ++ Some live ∷ []) (requests ++ asked ∷ [])) head cells
  took_view kept head cells view new = subst (λ z. TookBlock (length table) z
      (kept_of order (table ++ Some live ∷ []) (requests ++ asked ∷ [])) head cells) view
      (record {
        named = heap.next;
        has_block = with_size (λ z. is_none (place order (Taken (2 + count_taken (log_of requests)) (order_of_cells z)
            ∷ log_of requests)) ≡ false)
            (ap (λ h. is_none (after_request (Taken next (order_of_cells size)) (place h (log_of requests))))
            (sym heap.same)
            ∙ ap (λ o. is_none (after_request (Taken next (order_of_cells size)) o)) heap.placed.placed
            ∙ ap (λ j. is_none (with_block next heap.placed.blocks (take book.free j))) (sym is)
            ∙ ap (λ t. is_none (with_block next heap.placed.blocks t)) took);
        heap = ap (λ s. record { order = order; store = s; log = log_of (requests ++ asked ∷ []) })
            (pushed_store table live ∙ ap (λ o. (length table, o) ∷ store_of table) new)
            ∙ ap (λ l. record {
              order = order;
              store = (length table, new_object head cells) ∷ store_of table;
              log = l;
            }) (log_after ∙ ap (λ n. Taken n k ∷ log_of requests) heap.next
            ∙ ap (λ j. Taken next j ∷ log_of requests) (is ∙ ap order_of_cells same_size));
      })
    where
      size : ℕ
      size = length live.cells.items

      next : ℕ
      next = 2 + count_taken (log_of requests)

      same_size : size ≡ length cells
      same_size = sym (length-map live.cells.items value_of) ∙ ap (λ o. length o.cells) new

      with_size : (P : ℕ → Type 0) → P size → P (length cells)
      with_size P p = subst P same_size p

-- ---- the heap without an object

abbrev given_to : Shown → Book → TakenBlocks → Shown
given_to book f t = record { h = book.h; base = book.base; free = f; taken = t }

size_of_block : (slot : Option (Option Live)) (at size : ℕ) → live_block_in slot ≡ Some (at, size)
    → length (unwrap_or (live_in slot) no_object).cells ≡ size
size_of_block None at size e = cc
size_of_block (Some None) at size e = cc
size_of_block (Some (Some live)) at size e = by live.block e
  where
    by : (b : Option ℕ) → block_and_size b (length live.cells.items) ≡ Some (at, size)
        → length (values_of live.cells.items) ≡ size
    by None q = cc
    by (Some address) q = length-map live.cells.items value_of
        ∙ ap (λ z. z.1) (some_pair (address, length live.cells.items) (at, size) q)

module _ (order : ℕ) (book : Shown) (table : List (Option Live)) (requests : List Asked) (name at size : ℕ)
    (heap : IsHeap order book table requests) (there : live_block_at table name ≡ Some (at, size)) where
  own_block : IsBlock book heap.placed.blocks name at size
  own_block = heap.placed.each name at size there

  pub small_size : size < 2 ^ 31
  small_size =
      let back = given_back book (order_of_cells size) (block_of heap.placed.blocks name) heap.placed.kept
      own_block.with_order in
      let top = heap.placed.kept.h_to in
      let to = back.order_to in
      let room = has_room size (omega arith) in
      let pow = pow-le-pow_right {n = 2} (omega arith) {i = order_of_cells size} {j = 20} (omega arith) in
      omega arith

  pub in_table : name < length table
  in_table = by (nat_lt name (length table)) refl
    where
      by : (t : Bool) → nat_lt name (length table) ≡ t → name < length table
      by true e = ltb-true name (length table) e
      by false e = let none = sym (block_past table name (ltb-false name (length table) e)) ∙ there in cc

  module _ (after : Shown) (asked : Asked) (k : ℕ) (is : k ≡ order_of_cells size)
      (request : heap_request asked ≡ Given name k) where
    log_given : log_of (requests ++ asked ∷ []) ≡ Given name (order_of_cells size) ∷ log_of requests
    log_given = one_more requests asked ∙ ap (λ r. r ∷ log_of requests) request
        ∙ ap (λ j. Given name j ∷ log_of requests) is

    pub gave_heap : after.free ≡ give_back book.free k (at - book.base)
        → after.taken ≡ without_taken (at - book.base) book.taken
        → after ≡ record { h = book.h; base = book.base; free = after.free; taken = after.taken }
        → IsHeap order after (slice_set table name None) (requests ++ asked ∷ [])
    gave_heap free taken whole =
        let block : at - book.base ≡ block_of heap.placed.blocks name = let z = own_block.at in omega arith in
        let full : after ≡ given_to book (give_back book.free (order_of_cells size) (block_of heap.placed.blocks name))
        (without_taken (block_of heap.placed.blocks name) book.taken)
        = whole ∙ ap (λ f. given_to book f after.taken) (free ∙ ap (λ j. give_back book.free j (at - book.base)) is
        ∙ ap (give_back book.free (order_of_cells size)) block)
        ∙ ap (given_to book (give_back book.free (order_of_cells size) (block_of heap.placed.blocks name)))
        (taken ∙ ap (λ b. without_taken b book.taken) block) in
        let placed = gave_placed book (live_block_at table) (live_block_at (slice_set table name None))
        (log_of requests)
        heap.placed name size at there (cleared_block table name in_table)
        (λ n other. other_block table name n other) in
        record {
          same = ap (λ b. b.h) full ∙ heap.same;
          next = let p = length-set table name None in let h = heap.next in let l = ap (λ l. count_taken l) log_given in
              omega arith;
          few = let p = length-set table name None in let f = heap.few in omega arith;
          placed = subst (λ b. IsBookPlaced b (live_block_at (slice_set table name None))
              (log_of (requests ++ asked ∷ [])))
              (sym full) (subst (λ l. IsBookPlaced (given_to book (give_back book.free (order_of_cells size)
              (block_of heap.placed.blocks name)) (without_taken (block_of heap.placed.blocks name) book.taken))
              (live_block_at (slice_set table name None)) l) (sym log_given) placed);
        }

    pub gave_view : (kept : Kept) → kept_of order table requests ≡ kept
        → kept_of order (slice_set table name None) (requests ++ asked ∷ [])
        ≡ record {
          order = kept.order;
          store = without kept.store name;
          log = Given name (order_of_cells (length (object_at kept.store name).cells)) ∷ kept.log;
        }
    gave_view kept view =
        ap (λ s. record { order = order; store = s; log = log_of (requests ++ asked ∷ []) })
        (cleared_store table name in_table)
        ∙ ap (λ l. record { order = order; store = without (store_of table) name; log = l })
        (log_given ∙ ap (λ n. Given name (order_of_cells n) ∷ log_of requests) (sym size_there))
        ∙ ap (λ k. record {
          order = k.order;
          store = without k.store name;
          log = Given name (order_of_cells (length (object_at k.store name).cells)) ∷ k.log;
        }) view
      where
        size_there : length (object_at (store_of table) name).cells ≡ size
        size_there = ap (λ o. length (unwrap_or o no_object).cells) (object_named_store table name)
            ∙ size_of_block (slice_get table name) at size there

-- ---- as the results have it

pub took_so : (order : ℕ) (book after : Shown) (table grown : List (Option Live)) (requests more : List Asked)
    (live : Live) (asked : Asked) (k at : ℕ)
    → IsHeap order book table requests → suc (length table) < 2 ^ 32
    → k ≡ order_of_cells (length live.cells.items) → live.block ≡ Some at
    → heap_request asked ≡ Taken (length table) k
    → book.base ≤ at → take book.free k ≡ Some (at - book.base, after.free)
    → after.taken ≡ with_taken (at - book.base) k book.taken
    → after ≡ record { h = book.h; base = book.base; free = after.free; taken = after.taken }
    → grown ≡ table ++ Some live ∷ [] → more ≡ requests ++ asked ∷ [] → IsHeap order after grown more
took_so order book after table grown requests more live asked k at heap few is block request base took taken whole g m
    =
    subst (λ t. IsHeap order after t more) (sym g) (subst (λ r. IsHeap order after (table ++ Some live ∷ []) r) (sym m)
    (took_heap order book after table requests live asked k at heap is block request base took few taken whole))

pub took_shown : (order : ℕ) (book after : Shown) (table grown : List (Option Live)) (requests more : List Asked)
    (live : Live) (asked : Asked) (k at name : ℕ) (kept : Kept) (head : Head) (cells : List Value)
    → IsHeap order book table requests → k ≡ order_of_cells (length live.cells.items) → live.block ≡ Some at
    → heap_request asked ≡ Taken (length table) k
    → book.base ≤ at → take book.free k ≡ Some (at - book.base, after.free)
    → grown ≡ table ++ Some live ∷ [] → more ≡ requests ++ asked ∷ [] → name ≡ length table
    → kept_of order table requests ≡ kept → object_of live ≡ new_object head cells
    → TookBlock name kept (kept_of order grown more) head cells
took_shown order book after table grown requests more live asked k at name kept head cells heap is block request base
    took g m n view new =
    subst (λ z. TookBlock z kept (kept_of order grown more) head cells) (sym n)
    (subst (λ t. TookBlock (length table) kept (kept_of order t more) head cells) (sym g)
    (subst (λ r. TookBlock (length table) kept (kept_of order (table ++ Some live ∷ []) r) head cells) (sym m)
    (took_view order book after table requests live asked k at heap is block request base took kept head cells view
    new)))

pub gave_so : (order : ℕ) (book after : Shown) (table : List (Option Live)) (requests more : List Asked)
    (name at size : ℕ) (slot : Option Live) (asked : Asked) (k : ℕ)
    → IsHeap order book table requests → live_block_at table name ≡ Some (at, size) → k ≡ order_of_cells size
    → heap_request asked ≡ Given name k
    → after.free ≡ give_back book.free k (at - book.base) → after.taken ≡ without_taken (at - book.base) book.taken
    → after ≡ record { h = book.h; base = book.base; free = after.free; taken = after.taken }
    → slot ≡ None → more ≡ requests ++ asked ∷ [] → IsHeap order after (slice_set table name slot) more
gave_so order book after table requests more name at size slot asked k heap there is request free taken whole s m =
    subst (λ t. IsHeap order after (slice_set table name t) more) (sym s)
    (subst (λ r. IsHeap order after (slice_set table name None) r) (sym m)
    (gave_heap order book table requests name at size heap there after asked k is request free taken whole))

pub gave_shown : (order : ℕ) (book : Shown) (table : List (Option Live)) (requests more : List Asked) (name at size : ℕ)
    (slot : Option Live) (asked : Asked) (k : ℕ) (kept : Kept)
    → IsHeap order book table requests → live_block_at table name ≡ Some (at, size) → k ≡ order_of_cells size
    → heap_request asked ≡ Given name k
    → slot ≡ None → more ≡ requests ++ asked ∷ [] → kept_of order table requests ≡ kept
    → kept_of order (slice_set table name slot) more ≡ record {
      order = kept.order;
      store = without kept.store name;
      log = Given name (order_of_cells (length (object_at kept.store name).cells)) ∷ kept.log;
    }
gave_shown order book table requests more name at size slot asked k kept heap there is request s m view =
    ap (λ t. kept_of order (slice_set table name t) more) s ∙ ap (λ r. kept_of order (slice_set table name None) r) m
    ∙ gave_view order book table requests name at size heap there book asked k is request kept view
