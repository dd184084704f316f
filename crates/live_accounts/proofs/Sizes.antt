-- The sizes of arrays, and the orders of their blocks.
use Rattle.std.proofs.Common.{◌≡◌, ℕ, suc, ◌+◌, ◌-◌, ◌*◌, ◌%◌, ◌^◌, ◌≤◌, refl, ◌∙◌, arith, true}
use Rattle.std.proofs.Common.{false}
use Rattle.std.proofs.lemmas.Bool.{ltb-true, ltb-false}
use Rattle.std.proofs.Math.Nat.{pow-le-pow_right, pow-succ'}
use Rattle.std.specs.Prelude.{nat_lt, Bool}
use Rattle.source_debugger.specs.rpp_words.declared.input.TheConstants.{HEADER_WORDS}
use Rattle.source_debugger.specs.roopl_semantics.Execution.{order_of_cells}
use Rattle.source_debugger.proofs.buddy_book_laws.LeastOrder.{order_for-only}

least : (m n : ℕ) → n + 1 ≡ 2 ^ m → 1 ≤ 2 ^ m → (j : ℕ) → 1 ≤ j → HEADER_WORDS + n ≤ 2 ^ j → suc m ≤ j
least m n e one j from room = by (nat_lt j (suc m)) refl
  where
    by : (b : Bool) → nat_lt j (suc m) ≡ b → suc m ≤ j
    by true t =
        let below = ltb-true j (suc m) t in
        let small : 2 ^ j ≤ 2 ^ m = pow-le-pow_right {n = 2} (omega arith) {i = j} {j = m} (omega arith) in
        absurd (omega arith)
    by false t = ltb-false j (suc m) t

pub size_is : (m n : ℕ) → m ≤ 20 → n + 1 ≡ 2 ^ m → order_of_cells n ≡ suc m
size_is m n h e =
    let one : 1 ≤ 2 ^ m = omega arith in
    let next = pow-succ' 2 m in
    let most : 2 ^ m ≤ 2 ^ 20 = pow-le-pow_right {n = 2} (omega arith) {i = m} {j = 20} h in
    order_for-only (HEADER_WORDS + n) (suc m) (omega arith)
    (record { from_one = omega arith; has_room = omega arith; least = least m n e one })

pub size_for : (order n : ℕ) → 1 ≤ order → order ≤ 21 → n + 1 ≡ 2 ^ (order - 1) → order_of_cells n ≡ order
size_for order n from to e = size_is (order - 1) n (omega arith) e ∙ omega arith

pub shifted : (order : ℕ) → 1 ≤ order → order ≤ 21 → order_of_cells (1 * 2 ^ (order - 1) % 4294967296 - 1) ≡ order
shifted order from to =
    let most : 2 ^ (order - 1) ≤ 2 ^ 20 = pow-le-pow_right {n = 2} (omega arith) {i = order - 1} {j = 20} (omega arith)
    in
    let one : 2 ^ 0 ≤ 2 ^ (order - 1) = pow-le-pow_right {n = 2} (omega arith) {i = 0} {j = order - 1} (omega arith) in
    size_for order (1 * 2 ^ (order - 1) % 4294967296 - 1) from to (omega arith)
