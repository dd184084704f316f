-- The free lists of a heap: for each order from 1 on the list of its free blocks, as distances from
-- the heap's base.
use Rattle.std.specs.Prelude.{ℕ, zero, suc, ◌+◌, ◌-◌, ◌*◌, ◌%◌, ◌^◌, Bool, ◌&&◌, nat_eq, nat_le}
use Rattle.std.specs.Prelude.{List, [], ◌∷◌, Option, Some, None, if◌then◌else◌}

-- the free blocks of order 1, of order 2 and so on, the head of each list first
abbrev pub Book : Type 0
Book = List (List ℕ)

-- one free block of the highest order
abbrev pub start : ℕ → Book
start zero = []
start (suc zero) = (0 ∷ []) ∷ []
start (suc (suc h)) = [] ∷ start (suc h)

-- the least order from k on whose blocks can hold so many words, in at most so many tries
abbrev pub order_from : ℕ → ℕ → ℕ → ℕ
order_from zero k words = k
order_from (suc tries) k words = if nat_le words (2 ^ k) then k else order_from tries (suc k) words

-- the order of a block for so many words: the least k from 1 on with 2 ^ k at least that number
abbrev pub order_for : ℕ → ℕ
order_for words = order_from 31 1 words

-- a larger block is halved: its lower half becomes free, its upper half is taken
abbrev pub upper_half : ℕ → Option (ℕ × Book) → Option (ℕ × Book)
upper_half size None = None
upper_half size (Some (block, higher)) = Some (block + size, (block ∷ []) ∷ higher)

-- takes a block of the first list's order, whose blocks have this size
abbrev pub take_first : ℕ → Book → Option (ℕ × Book)
take_first size [] = None
take_first size ((block ∷ free) ∷ higher) = Some (block, free ∷ higher)
take_first size ([] ∷ higher) = upper_half size (take_first (2 * size) higher)

-- puts back a list of a lower order
abbrev pub below_taken : List ℕ → Option (ℕ × Book) → Option (ℕ × Book)
below_taken free None = None
below_taken free (Some (block, higher)) = Some (block, free ∷ higher)

-- the lists of so many lower orders stay
abbrev pub take_past : ℕ → ℕ → Book → Option (ℕ × Book)
take_past zero size book = take_first size book
take_past (suc lower) size [] = None
take_past (suc lower) size (free ∷ higher) = below_taken free (take_past lower size higher)

-- takes a block of order k from the free lists, if there is one
abbrev pub take : Book → ℕ → Option (ℕ × Book)
take book k = take_past (k - 1) (2 ^ k) book

-- whether a block is the upper half of the one whose lower half is this
abbrev pub is_buddy : ℕ → ℕ → ℕ → Bool
is_buddy size low block = nat_eq block (low + size) && nat_eq (low % (2 * size)) 0

-- the lower half with which a block merges: the only free block of its order, and its buddy
abbrev pub lower_half : ℕ → ℕ → List ℕ → Option ℕ
lower_half size block (low ∷ []) = if is_buddy size low block then Some low else None
lower_half size block _ = None

-- a block merges with its lower half, which is given to the next order; or it becomes the head of
-- its list
abbrev pub merged : ℕ → List ℕ → Book → (ℕ → Book) → Option ℕ → Book
merged block free higher give_next (Some low) = [] ∷ give_next low
merged block free higher give_next None = (block ∷ free) ∷ higher

-- gives a block to the first list's order, whose blocks have this size
abbrev pub give_first : ℕ → ℕ → Book → Book
give_first size block [] = []
give_first size block (free ∷ higher) =
    merged block free higher (λ low. give_first (2 * size) low higher) (lower_half size block free)

-- the lists of so many lower orders stay
abbrev pub give_past : ℕ → ℕ → ℕ → Book → Book
give_past zero size block book = give_first size block book
give_past (suc lower) size block [] = []
give_past (suc lower) size block (free ∷ higher) = free ∷ give_past lower size block higher

-- frees a block of order k
abbrev pub give_back : Book → ℕ → ℕ → Book
give_back book k block = give_past (k - 1) (2 ^ k) block book
