use Rattle.std.proofs.Common.{map}
use Rattle.rpp_probes.proofs.Sure.{AreTold}
use Rattle.rpp_probes.proofs.telling.tell_each_of.Given as goal

-- the probes before observed it
abbrev pub invariant-loop-probe : goal.invariant-loop-probe
invariant-loop-probe g l =
    AreTold l.steps l.probe-index
    (map (λ b. (goal.Probe-dyn g (b.vtable, b.value)).watch b.value) l.initial.probes)
    (map (λ b. (goal.Probe-dyn g (b.vtable, b.value)).watch b.value) l.probes)
