-- The allocator gives a request the least order that has space, and no other order.
use Rattle.std.proofs.Common.{◌≡◌, ℕ, zero, suc, ◌+◌, ◌^◌, ◌≤◌, ◌<◌, true, false, nat_le, sym, subst, arith}
use Rattle.std.proofs.Common.{le_antisymm, if◌then◌else◌}
use Rattle.std.proofs.lemmas.Bool.Decides.{leb_tells}
use Rattle.std.specs.Prelude.{◌⊎◌}
use Rattle.std.proofs.Common.{inl, inr, eq-or-lt_of_le}
use Rattle.rpp_words.specs.Order.{IsOrderFor}
use Rattle.buddy_book.specs.Book.{order_from, order_for}

abbrev IsBelow : ℕ → ℕ → Type 0
IsBelow words k = (j : ℕ) → 1 ≤ j → words ≤ 2 ^ j → k ≤ j

above : (words k : ℕ) → IsBelow words k → 2 ^ k < words → IsBelow words (suc k)
above words k least small j from room = above_by (eq-or-lt_of_le (least j from room)) where
  above_by : (k ≡ j) ⊎ (k < j) → suc k ≤ j
  above_by (inl e) = let h : words ≤ 2 ^ k = subst (λ i. words ≤ 2 ^ i) (sym e) room in absurd (omega arith)
  above_by (inr l) = omega arith

order_by : (tries k words : ℕ) → 1 ≤ k → IsBelow words k
    → ((nat_le words (2 ^ k) ≡ true) × (words ≤ 2 ^ k)) ⊎ ((nat_le words (2 ^ k) ≡ false) × (2 ^ k < words))
    → (2 ^ k < words → IsOrderFor words (order_from tries (suc k) words))
    → IsOrderFor words (order_from (suc tries) k words)
order_by tries k words from least (inl p) later = subst
    (λ t. IsOrderFor words (if t then k else order_from tries (suc k) words)) (sym p.0)
    (record { from_one = from; has_room = p.1; least = least })
order_by tries k words from least (inr p) later = subst
    (λ t. IsOrderFor words (if t then k else order_from tries (suc k) words)) (sym p.0) (later p.1)

order_is : (tries k words : ℕ) → 1 ≤ k → words ≤ 2 ^ (tries + k) → IsBelow words k
    → IsOrderFor words (order_from tries k words)
order_is zero k words from room least = record {
  from_one = from;
  has_room = let e : 0 + k ≡ k = omega arith in
      subst (λ i. words ≤ 2 ^ i) e room;
  least = least;
}
order_is (suc tries) k words from room least =
    order_by tries k words from least (leb_tells words (2 ^ k))
    (λ h. let e : suc tries + k ≡ tries + suc k = omega arith in
    order_is tries (suc k) words (omega arith) (subst (λ i. words ≤ 2 ^ i) e room) (above words k least h))

-- what the definition of the allocator gives
pub order_for-is : (words : ℕ) → words ≤ 2 ^ 32 → IsOrderFor words (order_for words)
order_for-is words room = order_is 31 1 words (omega arith) room (λ j from h. from)

-- and nothing else is the order
pub order_for-only : (words k : ℕ) → words ≤ 2 ^ 32 → IsOrderFor words k → order_for words ≡ k
order_for-only words k room is =
    let own = order_for-is words room in
    le_antisymm (own.least k is.from_one is.has_room) (is.least (order_for words) own.from_one own.has_room)
