use Rattle.std.proofs.Common.{map, take}
use Rattle.rpp_probes.specs.Tally.{AreSureFor}
use Rattle.rpp_probes.proofs.telling.sure_of_all.Given as goal

abbrev pub invariant-loop-probe : goal.invariant-loop-probe
invariant-loop-probe g l = AreSureFor l.sure (map (λ b. (goal.Probe-dyn g (b.vtable, b.value)).watch b.value)
    (take l.probe-index l.probes))
