use Rattle.std.proofs.Common.{◌≤◌, ◌^◌, ℕ, ◌<◌}
use Rattle.rpp_words.proofs.order.order_for.Given as goal

-- blocks of the orders before have no space
abbrev pub invariant-loop-order : goal.invariant-loop-order
invariant-loop-order l = (j : ℕ) → 1 ≤ j → j < l.order → 2 ^ j < l.words
