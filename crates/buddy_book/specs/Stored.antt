-- The lists of a book as they are stored: for each order a vector whose last element is the head of
-- the list.
use Rattle.std.specs.Prelude.{◌≡◌, ◌≤◌, ℕ, ◌-◌, ◌*◌, ◌^◌, List, length, map, reverse, Some}
use Rattle.std.specs.Prelude.{slice_get, Vec, vec_capacity}
use Rattle.std.specs.declared.alloc.Global.{Global}
use Rattle.buddy_book.specs.Book.{Book}
use Rattle.buddy_book.specs.Shown.{Shown, taken_from, IsKept}

-- the list of one order
abbrev pub list_of : Vec ℕ Global → List ℕ
list_of list = reverse list.items

-- the lists from order 1 on
abbrev pub free_of : List (Vec ℕ Global) → Book
free_of lists = map list_of lists

-- each list has space for every block of its order
pub record HasRoom (lists : List (Vec ℕ Global)) : Type 0 where
  pub each : (at : ℕ) (list : Vec ℕ Global) → slice_get lists at ≡ Some list
      → 2 ^ (length lists - 1 - at) ≤ vec_capacity list

-- what is shown of a stored book
abbrev pub shown_book : (h base : ℕ) → List (Vec ℕ Global) → List ℕ → Shown
shown_book h base lists orders =
    record { h = h; base = base; free = free_of lists; taken = taken_from 0 orders }

-- what every stored book keeps; its table has an entry for each second word of the heap
pub record IsStored (h base : ℕ) (lists : List (Vec ℕ Global)) (orders : List ℕ) : Type 0 where
  pub kept : IsKept (shown_book h base lists orders)
  pub room : HasRoom lists
  pub table : 2 * length orders ≡ 2 ^ h
