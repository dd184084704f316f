-- What a request leaves: the orders of other blocks and the blocks of other object ids. Also the
-- least order that has space.
use Rattle.std.proofs.Common.{◌≡◌, ◌≢◌, ◌∙◌, sym, ap, refl, ℕ, zero, suc, ◌+◌, ◌^◌, ◌<◌, ◌≤◌, Bool, true, false, List}
use Rattle.std.proofs.Common.{[], ◌∷◌, Some, None, arith, ne_eqb}
use Rattle.std.proofs.lemmas.Bool.{eqb-true, leb-true}
use Rattle.std.specs.Prelude.{nat_eq, nat_lt, nat_le, if◌then◌else◌}
use Rattle.buddy_book.specs.Book.{order_from}
use Rattle.buddy_book.specs.Place.{block_of, without_name}
use Rattle.buddy_book.specs.Shown.{TakenBlocks, order_in, with_taken, without_taken}

-- ---- orders begin at 1

pub order_least : (tries k words : ℕ) → k ≤ order_from tries k words
order_least zero k words = omega arith
order_least (suc tries) k words = by (nat_le words (2 ^ k)) (order_least tries (suc k) words)
  where
    by : (b : Bool) → suc k ≤ order_from tries (suc k) words → k ≤ (if b then k else order_from tries (suc k) words)
    by true h = omega arith
    by false h = omega arith

-- an order that is no more than 31 has space
pub order_room : (tries k words : ℕ) → order_from tries k words < k + tries → words ≤ 2 ^ order_from tries k words
order_room zero k words h = absurd (omega arith)
order_room (suc tries) k words h = by (nat_le words (2 ^ k)) refl h (λ q. order_room tries (suc k) words q)
  where
    by : (b : Bool) → nat_le words (2 ^ k) ≡ b → (if b then k else order_from tries (suc k) words) < k + suc tries
        → (order_from tries (suc k) words < suc k + tries → words ≤ 2 ^ order_from tries (suc k) words)
        → words ≤ 2 ^ (if b then k else order_from tries (suc k) words)
    by true e q rest = leb-true words (2 ^ k) e
    by false e q rest = rest (omega arith)

-- ---- the taken blocks

pub order_in-with_other : (block order other : ℕ) (taken : TakenBlocks) → block ≢ other
    → order_in (with_taken block order taken) other ≡ order_in taken other
order_in-with_other block order other [] h = ap (λ t. if t then Some order else None) (ne_eqb block other h)
order_in-with_other block order other ((b, o) ∷ taken) h =
    by (order_in-with_other block order other taken h) (nat_lt block b)
  where
    by : order_in (with_taken block order taken) other ≡ order_in taken other → (t : Bool)
        → order_in (if t then (block, order) ∷ (b, o) ∷ taken else (b, o) ∷ with_taken block order taken) other
        ≡ order_in ((b, o) ∷ taken) other
    by rest true = ap (λ t. if t then Some order else order_in ((b, o) ∷ taken) other) (ne_eqb block other h)
    by rest false = ap (λ z. if nat_eq b other then Some o else z) rest

pub order_in-without_other : (block other : ℕ) (taken : TakenBlocks) → block ≢ other
    → order_in (without_taken block taken) other ≡ order_in taken other
order_in-without_other block other [] h = refl
order_in-without_other block other ((b, o) ∷ taken) h =
    by (order_in-without_other block other taken h) (nat_eq b block) refl
  where
    by : order_in (without_taken block taken) other ≡ order_in taken other → (t : Bool) → nat_eq b block ≡ t
        → order_in (if t then taken else (b, o) ∷ without_taken block taken) other ≡ order_in ((b, o) ∷ taken) other
    by rest true e = sym (ap (λ t. if t then Some o else order_in taken other)
        (ne_eqb b other (λ q. h (sym (eqb-true b block e) ∙ q))))
    by rest false e = ap (λ z. if nat_eq b other then Some o else z) rest

-- ---- names

pub block_of_other : (blocks : List (ℕ × ℕ)) (n m : ℕ) → n ≢ m → block_of (without_name blocks n) m ≡ block_of blocks m
block_of_other [] n m h = refl
block_of_other ((k, b) ∷ blocks) n m h = by (block_of_other blocks n m h) (nat_eq k n) refl
  where
    by : block_of (without_name blocks n) m ≡ block_of blocks m → (t : Bool) → nat_eq k n ≡ t
        → block_of (if t then blocks else (k, b) ∷ without_name blocks n) m ≡ block_of ((k, b) ∷ blocks) m
    by rest true e = sym (ap (λ t. if t then b else block_of blocks m) (ne_eqb k m (λ q. h (sym (eqb-true k n e) ∙ q))))
    by rest false e = ap (λ z. if nat_eq k m then b else z) rest
