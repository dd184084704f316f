use Rattle.std.proofs.Common.{◌≡◌}
use Rattle.std.specs.Prelude.{string_bytes}
use Rattle.row_parts.specs.Names.{filled_times}
use Rattle.row_parts.proofs.names.Names.filled_times.Given as goal

-- the rounds that are left decide
abbrev pub invariant-loop-rounds : goal.invariant-loop-rounds
invariant-loop-rounds l = filled_times l.rounds l.self (string_bytes l.made)
    ≡ filled_times 9 l.self l.text

abbrev pub decreases-loop-rounds : goal.decreases-loop-rounds
decreases-loop-rounds l = l.rounds
