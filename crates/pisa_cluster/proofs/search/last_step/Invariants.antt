use Rattle.std.proofs.Common.{◌≢◌, ◌≤◌, All, length, drop}
use Rattle.pisa_cluster.specs.declared.processor.Kept.{Kept}
use Rattle.pisa_cluster.proofs.search.last_step.Given as goal

abbrev pub invariant-loop-at : goal.invariant-loop-at
invariant-loop-at l = (l.at ≤ length l.kept) × All (λ (k : Kept). k.who ≢ l.who) (drop l.at l.kept)

abbrev pub decreases-loop-at : goal.decreases-loop-at
decreases-loop-at l = l.at
