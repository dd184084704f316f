-- What contracts see of a heap, and what every heap keeps.
use Rattle.std.specs.Prelude.{◌≡◌, ℕ, zero, suc, ◌+◌, ◌^◌, ◌<◌, List, [], ◌∷◌, map, length}
use Rattle.std.specs.Prelude.{reverse, Option}
use Rattle.std.specs.Prelude.{Some, None, slice_get, is_none, Bool, true, false}
use Rattle.meaning_machine.specs.buddy_book.Place.{Request, Taken, Given, Log, Placing, count_taken, block_of, place}
use Rattle.meaning_machine.specs.buddy_book.Shown.{Shown, order_in, IsKept}
use Rattle.meaning_machine.specs.roopl_semantics.Store.{Value, Head, Object, Store, without}
use Rattle.meaning_machine.specs.roopl_semantics.Execution.{order_of_cells, new_object}
use Rattle.meaning_machine.specs.roopl_semantics.Laws.{book_of, block_in as block_in_places}
use Rattle.meaning_machine.specs.Reversed.{put_back}
use Rattle.source_store.specs.declared.object.Object.{Object as Live}
use Rattle.source_store.specs.declared.requests.Request.{Request as Asked}
use Rattle.source_store.specs.declared.requests.Request.TheVariants as asked
use Rattle.source_store.specs.ValueView.{object_of}

-- the objects and arrays of a run, its requests, and the order of its heap
pub record Kept : Type 0 where
  pub order : ℕ
  pub store : Store
  pub log : Log

abbrev pub live_in : Option (Option Live) → Option Object
live_in None = None
live_in (Some None) = None
live_in (Some (Some live)) = Some (object_of live)

-- the live object at a place of the table
abbrev pub live_at : List (Option Live) → ℕ → Option Object
live_at table name = live_in (slice_get table name)

abbrev pub listed : {A : Type 0} → ℕ → Option A → List (ℕ × A) → List (ℕ × A)
listed name None rest = rest
listed name (Some a) rest = (name, a) ∷ rest

-- the values at the indexes below a number, the highest first
abbrev pub numbered_listing : {A : Type 0} → ℕ → (ℕ → Option A) → List (ℕ × A)
numbered_listing zero f = []
numbered_listing (suc n) f = listed n (f n) (numbered_listing n f)

abbrev pub store_of : List (Option Live) → Store
store_of table = numbered_listing (length table) (live_at table)

abbrev pub heap_request : Asked → Request
heap_request (asked.Taken name order) = Taken name order
heap_request (asked.Given name order) = Given name order

-- the requests, kept in their order, the newest first
abbrev pub log_of : List Asked → Log
log_of requests = reverse (map heap_request requests)

abbrev pub kept_of : ℕ → List (Option Live) → List Asked → Kept
kept_of order table requests = record {
  order = order;
  store = store_of table;
  log = log_of requests;
}

-- the address of an object's block, and the number of its cells
abbrev pub block_and_size : Option ℕ → ℕ → Option (ℕ × ℕ)
block_and_size None size = None
block_and_size (Some address) size = Some (address, size)

abbrev pub live_block_in : Option (Option Live) → Option (ℕ × ℕ)
live_block_in None = None
live_block_in (Some None) = None
live_block_in (Some (Some live)) = block_and_size live.block (length live.cells.items)

abbrev pub live_block_at : List (Option Live) → ℕ → Option (ℕ × ℕ)
live_block_at table name = live_block_in (slice_get table name)

-- an object's block is the one of its name, and is taken with the order of its size
pub record IsBlock (book : Shown) (blocks : List (ℕ × ℕ)) (name address size : ℕ) : Type 0 where
  pub at : address ≡ book.base + block_of blocks name
  pub with_order : order_in book.taken (block_of blocks name) ≡ Some (order_of_cells size)

-- the free blocks are the same, and the block of each name
pub record SamePlaces (first second : Option Placing) : Type 0 where
  pub book : book_of first ≡ book_of second
  pub blocks : (name : ℕ) → block_in_places first name ≡ block_in_places second name

-- the request that undoes one
abbrev pub opposite : Request → Request
opposite (Taken name order) = Given name order
opposite (Given name order) = Taken name order

-- each of these requests, undone, leads to the places before it
abbrev pub AreUndone : ℕ → Log → Type 0
AreUndone h [] = Unit {0}
AreUndone h (request ∷ older) =
    SamePlaces (place h (opposite request ∷ (request ∷ older))) (place h older) × AreUndone h older

-- the blocks of these names, as the requests place them
pub record IsBookPlaced (book : Shown) (block_of_name : ℕ → Option (ℕ × ℕ)) (log : Log) : Type 0 where
  pub kept : IsKept book
  pub blocks : List (ℕ × ℕ)
  pub placed : place book.h log ≡ Some (record { book = book.free; blocks = blocks })
  pub each : (name address size : ℕ) → block_of_name name ≡ Some (address, size)
      → IsBlock book blocks name address size
  pub apart : (n m address size other : ℕ) → block_of_name n ≡ Some (address, size)
      → block_of_name m ≡ Some (address, other) → n ≡ m
  pub undone : AreUndone book.h log

-- what every heap keeps: the next object id is the table's length, and a word, and each block is
-- where the requests put it
pub record IsHeap (order : ℕ) (book : Shown) (table : List (Option Live))
    (requests : List Asked) : Type 0 where
  pub same : book.h ≡ order
  pub next : length table ≡ 2 + count_taken (log_of requests)
  pub few : length table < 2 ^ 32
  pub placed : IsBookPlaced book (live_block_at table) (log_of requests)

-- two tables with the same blocks
pub record SameBlocks (old new : List (Option Live)) : Type 0 where
  pub length : length new ≡ length old
  pub blocks : (name : ℕ) → live_block_at new name ≡ live_block_at old name

-- the requests with one more, for a new name
abbrev pub asked_for : Kept → ℕ → Log
asked_for heap size = Taken (2 + count_taken heap.log) (order_of_cells size) ∷ heap.log

-- the heap has a block for a new object: it lives under the next name
pub record TookBlock (name : ℕ) (old new : Kept) (head : Head) (cells : List Value) : Type 0 where
  pub named : name ≡ 2 + count_taken old.log
  pub has_block : is_none (place old.order (asked_for old (length cells))) ≡ false
  pub heap : new ≡ record {
    order = old.order;
    store = (name, new_object head cells) ∷ old.store;
    log = asked_for old (length cells);
  }

-- the heap has no block, and stays
pub record TookNone (old new : Kept) (size : ℕ) : Type 0 where
  pub no_block : is_none (place old.order (asked_for old size)) ≡ true
  pub heap : new ≡ old

-- what a request for a new object comes to
abbrev pub Took : Option ℕ → Kept → Kept → Head → List Value → Type 0
Took (Some name) old new head cells = TookBlock name old new head cells
Took None old new head cells = TookNone old new (length cells)

-- the heap before the newest request, if that was for a new object
abbrev pub before_take : Kept → Log → Option Kept
before_take heap (Taken name order ∷ older) =
    Some (record heap { store = without heap.store name; log = older })
before_take heap (Given name order ∷ older) = None
before_take heap [] = None

-- the heap before the newest request, if that gave an object back: with the object's name, which
-- has one variable, this head and these cells
abbrev pub before_give : Kept → Head → List Value → Log → Option (ℕ × Kept)
before_give heap head cells (Given name order ∷ older) =
    Some (
      name,
      record heap {
        store = put_back heap.store name (new_object head cells);
        log = older;
      },
    )
before_give heap head cells (Taken name order ∷ older) = None
before_give heap head cells [] = None

-- whether this is a place of the table where nothing lives
abbrev pub is_free_slot : Option (Option Live) → Bool
is_free_slot (Some None) = true
is_free_slot (Some (Some live)) = false
is_free_slot None = false
