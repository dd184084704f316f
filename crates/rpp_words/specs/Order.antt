-- The order of a block that has space for so many words.
use Rattle.std.specs.Prelude.{ℕ, ◌^◌, ◌≤◌}

-- the least k from 1 on such that 2 ^ k is at least the number of words
pub record IsOrderFor (words k : ℕ) : Type 0 where
  pub from_one : 1 ≤ k
  pub has_room : words ≤ 2 ^ k
  pub least : (j : ℕ) → 1 ≤ j → words ≤ 2 ^ j → k ≤ j
