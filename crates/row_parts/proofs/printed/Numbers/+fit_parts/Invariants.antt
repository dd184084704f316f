use Rattle.std.proofs.Common.{◌≡◌, ℕ, ◌<◌, ◌≤◌, None, length, drop, map}
use Rattle.row_parts.specs.Printed.{fit}
use Rattle.row_parts.specs.Shown.{part_shown}
use Rattle.row_parts.proofs.printed.Numbers.+fit_parts.Given as goal

abbrev pub decreases-fit_parts : goal.decreases-fit_parts
decreases-fit_parts l = length l.parts.now

-- no shorter end fits, and no number is kept
abbrev pub invariant-ends : goal.invariant-ends
invariant-ends l = record {
  within : l.begin ≤ length l.said;
  count : l.count ≡ length l.fn.self;
  known : l.self ≡ l.fn.self;
  tried : (k : ℕ) → l.begin < k → k ≤ length l.said
      → fit (map part_shown l.rest) l.fn.self (drop k l.said) ≡ None;
}

abbrev pub decreases-ends : goal.decreases-ends
decreases-ends l = l.begin
