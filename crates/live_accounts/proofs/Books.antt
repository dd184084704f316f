-- Blocks that are taken from free lists, if no higher order has any.
use Rattle.std.proofs.Common.{◌≡◌, ℕ, zero, suc, ◌-◌, ◌*◌, ◌^◌, ◌<◌, ◌≤◌, refl, sym, ap, subst, ◌∙◌, arith, List}
use Rattle.std.proofs.Common.{[], ◌∷◌, length, Some, None}
use Rattle.std.specs.Prelude.{Option, slice_get}
use Rattle.std.specs.Option.{unwrap_or}
use Rattle.source_debugger.specs.buddy_book.Book.{Book, start, take, take_past, take_first, upper_half}
use Rattle.source_debugger.specs.buddy_book.Book.{below_taken, give_past, give_first, merged}
use Rattle.source_debugger.specs.buddy_book.Book.{lower_half}
use Rattle.source_debugger.specs.buddy_book.Place.{Log, Request, Taken, Given, Placing, place}
use Rattle.source_debugger.specs.buddy_book.Place.{with_block, block_of, after_request}

-- the list at an index
abbrev pub at : Book → ℕ → List ℕ
at book i = unwrap_or (slice_get book i) []

abbrev Took : Type 0
Took = Option (ℕ × Book)

-- ---- a block is taken

none_free : (size : ℕ) (book : Book) → ((i : ℕ) → at book i ≡ []) → take_first size book ≡ None
none_free size [] empty = refl
none_free size ((block ∷ free) ∷ higher) empty = let no : block ∷ free ≡ [] = empty 0 in cc
none_free size ([] ∷ higher) empty = ap (upper_half size) (none_free (2 * size) higher (λ i. empty (suc i)))

-- one list has a block less, and the others are the same
pub record OneLess (m : ℕ) (old new : Book) : Type 0 where
  pub less : length (at old m) ≡ suc (length (at new m))
  pub others : (i : ℕ) → (i ≡ m → ⊥) → at new i ≡ at old i

same_took : (x y : ℕ × Book) → Some x ≡ Some y → x ≡ y
same_took x y e = cc

abbrev gave : ℕ → Book → Took
gave block book = Some (block, book)

took_here : (m : ℕ) (old after new : Book) (x block : ℕ) → OneLess m old after → gave x after ≡ gave block new
    → OneLess m old new
took_here m old after new x block h e =
    subst (λ (b : Book). OneLess m old b) (ap (λ (z : ℕ × Book). z.1) (same_took (x, after) (block, new) e)) h

pub took_past : (m size : ℕ) (book : Book) (block : ℕ) (after : Book) → ((i : ℕ) → m < i → at book i ≡ [])
    → take_past m size book ≡ Some (block, after) → OneLess m book after
took_past zero size [] block after empty e = cc
took_past zero size ((x ∷ free) ∷ higher) block after empty e =
    took_here 0 ((x ∷ free) ∷ higher) (free ∷ higher) after x block
    (record { less = refl; others = λ i other. on i other })
    e
  where
    on : (i : ℕ) → (i ≡ 0 → ⊥) → at (free ∷ higher) i ≡ at ((x ∷ free) ∷ higher) i
    on zero other = absurd (other refl)
    on (suc i) other = refl
took_past zero size ([] ∷ higher) block after empty e =
    let none : take_first (2 * size) higher ≡ None =
    none_free (2 * size) higher (λ i. empty (suc i) (omega arith)) in
    let no : None ≡ gave block after = sym (ap (upper_half size) none) ∙ e in
    cc
took_past (suc m) size [] block after empty e = cc
took_past (suc m) size (free ∷ higher) block after empty e =
    by (take_past m size higher) (λ b later f. took_past m size higher b later (λ i less. empty (suc i) (omega arith))
    f) e
  where
    by : (o : Took) → ((b : ℕ) (later : Book) → o ≡ Some (b, later) → OneLess m higher later)
        → below_taken free o ≡ Some (block, after) → OneLess (suc m) (free ∷ higher) after
    by None on f = cc
    by (Some (b, later)) on f =
        let h = on b later refl in
        took_here (suc m) (free ∷ higher) (free ∷ later) after b block
        (record { less = h.less; others = λ i other. others i other h }) f
      where
        others : (i : ℕ) → (i ≡ suc m → ⊥) → OneLess m higher later → at (free ∷ later) i ≡ at (free ∷ higher) i
        others zero other h = refl
        others (suc i) other h = h.others i (λ same. other (ap suc same))

pub none_past : (m size : ℕ) (book : Book) → take_past m size book ≡ None → at book m ≡ []
none_past zero size [] e = refl
none_past zero size ((x ∷ free) ∷ higher) e = cc
none_past zero size ([] ∷ higher) e = refl
none_past (suc m) size [] e = refl
none_past (suc m) size (free ∷ higher) e = by (take_past m size higher) (none_past m size higher) e
  where
    by : (o : Took) → (o ≡ None → at higher m ≡ []) → below_taken free o ≡ None → at higher m ≡ []
    by None on f = on refl
    by (Some (b, later)) on f = cc

-- ---- the number of lists stays

abbrev IsAs : ℕ → Took → Type 0
IsAs n None = Unit {0}
IsAs n (Some (block, book)) = length book ≡ n

as_upper : (size n : ℕ) (o : Took) → IsAs n o → IsAs (suc n) (upper_half size o)
as_upper size n None h = tt
as_upper size n (Some (block, book)) h = ap suc h

as_below : (free : List ℕ) (n : ℕ) (o : Took) → IsAs n o → IsAs (suc n) (below_taken free o)
as_below free n None h = tt
as_below free n (Some (block, book)) h = ap suc h

as_first : (size : ℕ) (book : Book) → IsAs (length book) (take_first size book)
as_first size [] = tt
as_first size ((block ∷ free) ∷ higher) = refl
as_first size ([] ∷ higher) = as_upper size (length higher) (take_first (2 * size) higher) (as_first (2 * size) higher)

as_past : (m size : ℕ) (book : Book) → IsAs (length book) (take_past m size book)
as_past zero size book = as_first size book
as_past (suc m) size [] = tt
as_past (suc m) size (free ∷ higher) = as_below free (length higher) (take_past m size higher) (as_past m size higher)

as_merged : (block : ℕ) (free : List ℕ) (higher : Book) (next : ℕ → Book) (o : Option ℕ)
    → ((low : ℕ) → length (next low) ≡ length higher) → length (merged block free higher next o) ≡ suc (length higher)
as_merged block free higher next None h = refl
as_merged block free higher next (Some low) h = ap suc (h low)

given_first : (size block : ℕ) (book : Book) → length (give_first size block book) ≡ length book
given_first size block [] = refl
given_first size block (free ∷ higher) =
    as_merged block free higher (λ low. give_first (2 * size) low higher) (lower_half size block free)
    (λ low. given_first (2 * size) low higher)

given_past : (m size block : ℕ) (book : Book) → length (give_past m size block book) ≡ length book
given_past zero size block book = given_first size block book
given_past (suc m) size block [] = refl
given_past (suc m) size block (free ∷ higher) = ap suc (given_past m size block higher)

first_lists : (order : ℕ) → length (start order) ≡ order
first_lists zero = refl
first_lists (suc zero) = refl
first_lists (suc (suc h)) = ap suc (first_lists (suc h))

abbrev pub AsMany : ℕ → Option Placing → Type 0
AsMany n None = Unit {0}
AsMany n (Some placing) = length placing.book ≡ n

with_as : (name n : ℕ) (blocks : List (ℕ × ℕ)) (o : Took) → IsAs n o → AsMany n (with_block name blocks o)
with_as name n blocks None h = tt
with_as name n blocks (Some (block, book)) h = h

after_as : (n : ℕ) (request : Request) (o : Option Placing) → AsMany n o → AsMany n (after_request request o)
after_as n request None h = tt
after_as n (Taken name order) (Some placing) h =
    with_as name n placing.blocks (take placing.book order)
    (subst (λ (i : ℕ). IsAs i (take placing.book order)) h (as_past (order - 1) (2 ^ order) placing.book))
after_as n (Given name order) (Some placing) h =
    given_past (order - 1) (2 ^ order) (block_of placing.blocks name) placing.book ∙ h

pub placed_as : (order : ℕ) (log : Log) → AsMany order (place order log)
placed_as order [] = first_lists order
placed_as order (request ∷ older) = after_as order request (place order older) (placed_as order older)

pub nothing_past : (book : Book) (i : ℕ) → length book ≤ i → at book i ≡ []
nothing_past [] i h = refl
nothing_past (free ∷ higher) zero h = absurd (omega arith)
nothing_past (free ∷ higher) (suc i) h = nothing_past higher i (omega arith)
