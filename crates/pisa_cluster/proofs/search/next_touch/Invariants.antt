use Rattle.std.proofs.Common.{◌≡◌, find, drop}
use Rattle.pisa_cluster.specs.declared.processor.Kept.{Kept}
use Rattle.pisa_cluster.specs.Schedules.{is_same_cell}
use Rattle.pisa_cluster.proofs.search.next_touch.Given as goal

abbrev pub invariant-loop-step : goal.invariant-loop-step
invariant-loop-step l = find (λ (k : Kept). is_same_cell l.touched k.touched) (drop l.step-index l.later)
    ≡ find (λ (k : Kept). is_same_cell l.touched k.touched) l.later
