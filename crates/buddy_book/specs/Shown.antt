-- What contracts see of a book, and what every book keeps.
use Rattle.std.specs.Prelude.{◌≡◌, ◌≤◌, ℕ, zero, suc, ◌+◌, ◌-◌, ◌*◌, ◌^◌, ◌%◌, min, Bool, true}
use Rattle.std.specs.Prelude.{◌&&◌, nat_eq, nat_lt, nat_le, is_none, IsTrue, List, [], ◌∷◌, length}
use Rattle.std.specs.Prelude.{Option, Some, None, slice_get, if◌then◌else◌}
use Rattle.std.specs.Option.{option_map, unwrap_or}
use Rattle.buddy_book.specs.Book.{Book, lower_half}

-- the taken blocks with their orders, in ascending order of the blocks, as distances from the
-- heap's base
abbrev pub TakenBlocks : Type 0
TakenBlocks = List (ℕ × ℕ)

-- a book over a heap of order h at a base: its free lists, and its taken blocks
pub record Shown : Type 0 where
  pub h : ℕ
  pub base : ℕ
  pub free : Book
  pub taken : TakenBlocks

-- the order of a taken block
abbrev pub order_in : TakenBlocks → ℕ → Option ℕ
order_in [] block = None
order_in ((b, order) ∷ taken) block = if nat_eq b block then Some order else order_in taken block

-- a block of the heap, by its address, is taken with this order
pub record IsTaken (book : Shown) (address order : ℕ) : Type 0 where
  pub block : ℕ
  pub at : address ≡ book.base + block
  pub with_order : order_in book.taken block ≡ Some order

-- the first block of a list, if there is one
abbrev pub first_block : List ℕ → Option ℕ
first_block [] = None
first_block (block ∷ free) = Some block

-- the free list of order k
abbrev pub list_at : Book → ℕ → List ℕ
list_at free k = unwrap_or (slice_get free (k - 1)) []

-- the address of the first block of a list, or 0
abbrev pub first_address : ℕ → List ℕ → ℕ
first_address base [] = 0
first_address base (block ∷ free) = base + block

-- the address of the head of the free list of order k
abbrev pub head_address : Shown → ℕ → Option ℕ
head_address book k = option_map (λ block. book.base + block) (first_block (list_at book.free k))

-- one more taken block, at its place in the order
abbrev pub with_taken : ℕ → ℕ → TakenBlocks → TakenBlocks
with_taken block order [] = (block, order) ∷ []
with_taken block order ((b, o) ∷ taken) = if nat_lt block b then (block, order) ∷ (b, o) ∷ taken
    else (b, o) ∷ with_taken block order taken

-- one taken block less
abbrev pub without_taken : ℕ → TakenBlocks → TakenBlocks
without_taken block [] = []
without_taken block ((b, order) ∷ taken) =
    if nat_eq b block then taken else (b, order) ∷ without_taken block taken

-- the allocated blocks of a table that holds, for each second word, the order of the block that
-- begins there, or 0
abbrev pub taken_from : ℕ → List ℕ → TakenBlocks
taken_from block [] = []
taken_from block (zero ∷ orders) = taken_from (2 + block) orders
taken_from block (suc order ∷ orders) = (block, suc order) ∷ taken_from (2 + block) orders

-- blocks of this size are at multiples of it below the top, and none is the upper half over its
-- lower half as the last two
abbrev pub is_sound_list : ℕ → ℕ → List ℕ → Bool
is_sound_list top size [] = true
is_sound_list top size (block ∷ free) =
    nat_eq (block % size) 0 && (nat_le (block + size) top
    && (is_none (lower_half size block free) && is_sound_list top size free))

-- the same of each list, if the blocks of the first have this size
abbrev pub is_sound : ℕ → ℕ → Book → Bool
is_sound top size [] = true
is_sound top size (free ∷ higher) = is_sound_list top size free && is_sound top (2 * size) higher

-- each allocated block is at a multiple of its size
abbrev pub is_aligned : TakenBlocks → Bool
is_aligned [] = true
is_aligned ((block, order) ∷ taken) = nat_eq (block % 2 ^ order) 0 && is_aligned taken

-- what a block and its size weigh is what its halves weigh
abbrev pub IsAdditive : (ℕ → ℕ → ℕ) → Type 0
IsAdditive f = (block size : ℕ) → f block (2 * size) ≡ f block size + f (block + size) size

abbrev pub list_weight : (ℕ → ℕ → ℕ) → ℕ → List ℕ → ℕ
list_weight f size [] = 0
list_weight f size (block ∷ free) = f block size + list_weight f size free

-- what the free blocks weigh together, if those of the first list have this size
abbrev pub weight : (ℕ → ℕ → ℕ) → ℕ → Book → ℕ
weight f size [] = 0
weight f size (free ∷ higher) = list_weight f size free + weight f (2 * size) higher

-- the number of words of a block
abbrev pub size_of : ℕ → ℕ → ℕ
size_of block size = size

-- 1 if a block of this size covers a word of the heap, else 0
abbrev pub cover : ℕ → ℕ → ℕ → ℕ
cover x block size = min 1 (suc x - block) - min 1 (suc x - (block + size))

-- what the taken blocks weigh together
abbrev pub taken_weight : (ℕ → ℕ → ℕ) → TakenBlocks → ℕ
taken_weight f [] = 0
taken_weight f ((block, order) ∷ taken) = f block (2 ^ order) + taken_weight f taken

-- every book: free and taken blocks make up the heap, whatever is measured of them
pub record IsKept (book : Shown) : Type 0 where
  pub h_from : 1 ≤ book.h
  pub h_to : book.h ≤ 20
  pub base_to : book.base ≤ 2 ^ 21
  pub lists : length book.free ≡ book.h
  pub sound : IsTrue (is_sound (2 ^ book.h) 2 book.free)
  pub aligned : IsTrue (is_aligned book.taken)
  pub balanced : (f : ℕ → ℕ → ℕ) → IsAdditive f → weight f 2 book.free + taken_weight f book.taken
      ≡ f 0 (2 ^ book.h)
