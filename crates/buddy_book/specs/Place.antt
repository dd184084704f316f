-- The blocks of a run: its requests to the heap, folded over the free lists.
use Rattle.std.specs.Prelude.{ℕ, suc, nat_eq, List, [], ◌∷◌, Option, Some, None, if◌then◌else◌}
use Rattle.buddy_book.specs.Book.{Book, start, take, give_back}

-- a request to the heap: a block of an order for a name, or the block of a name back
pub data Request : Type 0 where
  Taken : (name order : ℕ) → Request
  Given : (name order : ℕ) → Request

-- the requests of a run, the newest first
abbrev pub Log : Type 0
Log = List Request

-- how many blocks were asked for
abbrev pub count_taken : Log → ℕ
count_taken [] = 0
count_taken (Taken name order ∷ older) = suc (count_taken older)
count_taken (Given name order ∷ older) = count_taken older

-- the free lists, and the block of each live object id, the newest first
pub record Placing : Type 0 where
  pub book : Book
  pub blocks : List (ℕ × ℕ)

-- the block of a name
abbrev pub block_of : List (ℕ × ℕ) → ℕ → ℕ
block_of [] name = 0
block_of ((n, block) ∷ blocks) name = if nat_eq n name then block else block_of blocks name

-- a list with names, without the first entry of this name
abbrev pub without_name : {A : Type 0} → List (ℕ × A) → ℕ → List (ℕ × A)
without_name [] name = []
without_name ((n, it) ∷ list) name = if nat_eq n name then list else (n, it)
    ∷ without_name list name

-- the name gets the block that was taken, if there was one
abbrev pub with_block : ℕ → List (ℕ × ℕ) → Option (ℕ × Book) → Option Placing
with_block name blocks None = None
with_block name blocks (Some (block, book)) =
    Some (record { book = book; blocks = (name, block) ∷ blocks })

abbrev pub after_request : Request → Option Placing → Option Placing
after_request request None = None
after_request (Taken name order) (Some placing) =
    with_block name placing.blocks (take placing.book order)
after_request (Given name order) (Some placing) =
    Some (record {
      book = give_back placing.book order (block_of placing.blocks name);
      blocks = without_name placing.blocks name;
    })

-- the blocks after these requests on an empty heap of order h; none if one of them found no block
abbrev pub place : ℕ → Log → Option Placing
place h [] = Some (record { book = start h; blocks = [] })
place h (request ∷ older) = after_request request (place h older)
