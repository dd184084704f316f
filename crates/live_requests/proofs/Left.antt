-- How many moves are left of those that a request asks for.
use Rattle.std.proofs.Common.{◌≡◌, ℕ, suc, ◌+◌, ◌-◌, ◌<◌, ◌≤◌, arith}

pub one_less : (n i : ℕ) → i < n → n - i ≡ suc (n - (i + 1))
one_less n i less = omega arith

pub none_left : (n i : ℕ) → n ≤ i → n - i ≡ 0
none_left n i all = omega arith

pub all_left : (n : ℕ) → n ≡ n - 0
all_left n = omega arith
