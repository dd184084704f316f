-- Worked books: two blocks of order 1 given back in either order.
use Rattle.std.proofs.Common.{◌≡◌, ◌∷◌, [], None, Some, refl}
use Rattle.buddy_book.specs.Book.{Book, start, take, give_back, order_for}

-- both blocks are taken
abbrev both_taken : Book
both_taken = [] ∷ [] ∷ []

first : take (start 2) 1 ≡ Some (2, (0 ∷ []) ∷ [] ∷ [])
first = refl

second : take ((0 ∷ []) ∷ [] ∷ []) 1 ≡ Some (0, both_taken)
second = refl

third : take both_taken 1 ≡ None
third = refl

-- the upper half first: they stay apart
apart : give_back (give_back both_taken 1 2) 1 0 ≡ (0 ∷ 2 ∷ []) ∷ [] ∷ []
apart = refl

-- the lower half first: they merge
merged : give_back (give_back both_taken 1 0) 1 2 ≡ start 2
merged = refl

orders : order_for 1 ∷ order_for 2 ∷ order_for 3 ∷ order_for 4 ∷ order_for 5 ∷ order_for 2147483649 ∷ []
    ≡ 1 ∷ 1 ∷ 2 ∷ 2 ∷ 3 ∷ 32 ∷ []
orders = refl
