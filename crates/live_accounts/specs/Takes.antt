-- Free blocks that are taken until none is left.
use Rattle.std.specs.Prelude.{◌≡◌, ◌≢◌, ◌<◌, ◌≤◌, ℕ, suc, Bool, true, false, [], length}
use Rattle.source_debugger.specs.buddy_book.Book.{Book}
use Rattle.source_debugger.specs.buddy_book.Shown.{list_at}
use Rattle.source_debugger.specs.source_store.HeapView.{Kept}
use Rattle.live_accounts.specs.Free.{free_after}

-- the free lists of a heap
abbrev pub free_in : Kept → Book
free_in heap = free_after heap.order heap.log

-- no block of a higher order is free
pub record IsLast (order : ℕ) (book : Book) : Type 0 where
  pub above : (k : ℕ) → order < k → list_at book k ≡ []

-- two books have the same lists, except for one order
pub record SameBut (order : ℕ) (old new : Book) : Type 0 where
  pub others : (k : ℕ) → 1 ≤ k → k ≢ order → list_at new k ≡ list_at old k

-- a block of an order was taken
pub record TookOne (order : ℕ) (old new : Kept) : Type 0 where
  pub less : length (list_at (free_in old) order) ≡ suc (length (list_at (free_in new) order))
  pub others : SameBut order (free_in old) (free_in new)
  pub same : new.order ≡ old.order

-- there was none
pub record TakesNone (order : ℕ) (old new : Kept) : Type 0 where
  pub none : list_at (free_in old) order ≡ []
  pub stays : new ≡ old

abbrev pub TakesBlock : Bool → (order : ℕ) → (old new : Kept) → Type 0
TakesBlock true order old new = TookOne order old new
TakesBlock false order old new = TakesNone order old new

-- so many blocks of an order were taken, and none is left
pub record TookAll (taken order : ℕ) (old new : Kept) : Type 0 where
  pub count : taken ≡ length (list_at (free_in old) order)
  pub none : list_at (free_in new) order ≡ []
  pub others : SameBut order (free_in old) (free_in new)
  pub same : new.order ≡ old.order
