-- The memory that represents a store holds its free lists, before and after the allocator.
use Rattle.std.specs.Prelude.{◌≡◌, ◌<◌, ◌≤◌, ℕ, ◌+◌, ◌^◌, List, [], ◌∷◌, length, Some}
use Rattle.std.specs.List.{All}
use Rattle.buddy_pisa.specs.rpp_words.Words.{IsWord}
use Rattle.buddy_pisa.specs.rpp_words.declared.input.Limits.{Limits}
use Rattle.roopl_semantics.specs.rpp_tree.Tree.{Source}
use Rattle.buddy_pisa.specs.pisa_isa.Loaded.{heap_base}
use Rattle.buddy_pisa.specs.buddy_book.Book.{Book, take, give_back}
use Rattle.buddy_pisa.specs.buddy_book.Shown.{TakenBlocks, order_in, cover, IsKept, weight}
use Rattle.buddy_pisa.specs.buddy_book.Place.{Placing}
use Rattle.roopl_semantics.specs.Store.{Store, object_at, main_name}
use Rattle.roopl_semantics.specs.Layout.{object_words, laid}
use Rattle.buddy_pisa.specs.Held.{AllZero, HoldsBook, ChangesList}

-- how many words an object has
abbrev pub block_words : Source → ℕ → Store → List (ℕ × ℕ) → ℕ → ℕ
block_words program base store all name =
    length (object_words program base all (object_at store name))

-- the words of each object are in no free block, and within the heap
abbrev pub StandApart : Source → (size base : ℕ) → Store → (all blocks : List (ℕ × ℕ)) → Book
    → Type 0
StandApart program size base store all [] book = Unit {0}
StandApart program size base store all ((name, block) ∷ rest) book =
    (block + block_words program base store all name ≤ size)
    × ((x : ℕ) → block ≤ x → x < block + block_words program base store all name
    → weight (cover x) 2 book ≡ 0)
    × StandApart program size base store all rest book

-- the same of the blocks of a run, in the heap of these limits, with a book
abbrev pub StandsBeside : Source → Limits → List ℕ → Store → List (ℕ × ℕ) → Book → Type 0
StandsBeside program limits statics store blocks book =
    let base = heap_base limits.heap (length statics) in
    StandApart program (2 ^ limits.heap) base store blocks blocks book

-- a placing: its free lists are kept, its objects are apart from them, and main's object has space
pub record IsHeapPlaced (program : Source) (limits : Limits) (statics : List ℕ) (store : Store)
    (placing : Placing) (taken : TakenBlocks) : Type 0 where
  pub kept : IsKept (record {
    h = limits.heap;
    base = heap_base limits.heap (length statics);
    free = placing.book;
    taken = taken;
  })
  pub apart : StandsBeside program limits statics store placing.blocks placing.book
  pub main : block_words program (heap_base limits.heap (length statics)) store placing.blocks
      main_name
      ≤ length statics

-- it holds the placing's book
abbrev pub LayoutLaw : Type 0
LayoutLaw = (program : Source) (limits : Limits) (statics : List ℕ) (store : Store)
    (placing : Placing) (taken : TakenBlocks) (stack : List ℕ)
    → IsHeapPlaced program limits statics store placing taken
    → All IsWord (laid program limits statics store placing stack)
    → HoldsBook (heap_base limits.heap (length statics)) limits.heap placing.book
    (laid program limits statics store placing stack)

-- what an allocation leaves is the memory over the free lists that it leaves
abbrev pub TakenLaw : Type 0
TakenLaw = (program : Source) (limits : Limits) (statics : List ℕ) (store : Store)
    (placing : Placing) (taken : TakenBlocks) (stack : List ℕ)
    (k block : ℕ) (after : Book) (cells : List ℕ)
    → IsHeapPlaced program limits statics store placing taken
    → 1 ≤ k → take placing.book k ≡ Some (block, after)
    → HoldsBook (heap_base limits.heap (length statics)) limits.heap after cells
    → AllZero cells (heap_base limits.heap (length statics) + block)
    (heap_base limits.heap (length statics) + block + 2 ^ k)
    → ChangesList (heap_base limits.heap (length statics)) limits.heap k placing.book
    (laid program limits statics store placing stack) cells
    → cells ≡ laid program limits statics store
    (record { book = after; blocks = placing.blocks }) stack

-- and so it is when a block is freed, if no object's words are in the block
abbrev pub GivenLaw : Type 0
GivenLaw = (program : Source) (limits : Limits) (statics : List ℕ) (store : Store)
    (placing : Placing) (taken : TakenBlocks) (stack : List ℕ) (k block : ℕ) (cells : List ℕ)
    → IsHeapPlaced program limits statics store placing taken
    → 1 ≤ k → order_in taken block ≡ Some k
    → StandsBeside program limits statics store placing.blocks (give_back placing.book k block)
    → HoldsBook (heap_base limits.heap (length statics)) limits.heap (give_back placing.book k block)
    cells
    → ChangesList (heap_base limits.heap (length statics)) limits.heap k (give_back placing.book k block)
    (laid program limits statics store placing stack) cells
    → cells ≡ laid program limits statics store
    (record { book = give_back placing.book k block; blocks = placing.blocks }) stack
