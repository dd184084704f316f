-- The allocated blocks have space for the objects.
use Rattle.std.specs.Prelude.{◌≡◌, ◌≢◌, ◌≤◌, ℕ, ◌^◌, List, [], ◌∷◌, Some, None}
use Rattle.roopl_semantics.specs.rpp_tree.Tree.{Source}
use Rattle.buddy_pisa.specs.buddy_book.Book.{Book}
use Rattle.buddy_pisa.specs.buddy_book.Shown.{TakenBlocks, order_in, with_taken, without_taken, IsKept}
use Rattle.roopl_semantics.specs.Store.{Store}
use Rattle.refine_heap.specs.Laid.{block_words, StandApart}

-- each object's block is allocated, with an order that has space for its words
abbrev pub HaveRoom : Source → (base : ℕ) → Store → (all blocks : List (ℕ × ℕ)) → TakenBlocks
    → Type 0
HaveRoom program base store all [] taken = Unit {0}
HaveRoom program base store all ((name, block) ∷ rest) taken =
    ((k : ℕ) × (order_in taken block ≡ Some k) × (block_words program base store all name ≤ 2 ^ k))
    × HaveRoom program base store all rest taken

-- no object has this block
abbrev pub NotAmongBlocks : ℕ → List (ℕ × ℕ) → Type 0
NotAmongBlocks block [] = Unit {0}
NotAmongBlocks block ((name, b) ∷ rest) = (b ≢ block) × NotAmongBlocks block rest

-- then their words are apart from the free blocks; they also have space after an allocation, and
-- after the freeing of a block that is no object's
pub record RoomLaw : Type 0 where
  pub apart : (program : Source) (h base : ℕ) (store : Store) (all blocks : List (ℕ × ℕ))
      (book : Book) (taken : TakenBlocks)
      → IsKept (record { h = h; base = base; free = book; taken = taken })
      → HaveRoom program base store all blocks taken
      → StandApart program (2 ^ h) base store all blocks book
  pub with_one : (program : Source) (base : ℕ) (store : Store) (all blocks : List (ℕ × ℕ))
      (block k : ℕ) (taken : TakenBlocks)
      → order_in taken block ≡ None
      → HaveRoom program base store all blocks taken
      → HaveRoom program base store all blocks (with_taken block k taken)
  pub without_one : (program : Source) (base : ℕ) (store : Store) (all blocks : List (ℕ × ℕ))
      (block : ℕ) (taken : TakenBlocks)
      → NotAmongBlocks block blocks
      → HaveRoom program base store all blocks taken
      → HaveRoom program base store all blocks (without_taken block taken)
