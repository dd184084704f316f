use Rattle.std.proofs.Common.{◌-◌, map, vec_len, string_bytes}
use Rattle.rpp_probes.proofs.Told.{IsToldTo}
use Rattle.rpp_probes.proofs.telling.tell_all.Given as goal

-- the probes before observed it
abbrev pub invariant-loop-at : goal.invariant-loop-at
invariant-loop-at g l =
    IsToldTo l.step l.at
    (map (λ b. (goal.Probe-dyn g (b.vtable, b.value)).watch b.value) l.initial.probes.items)
    (map (λ b. (goal.Probe-dyn g (b.vtable, b.value)).watch b.value) l.probes.items)
    (map string_bytes l.initial.lines.items) (map string_bytes l.lines.items)

abbrev pub decreases-loop-at : goal.decreases-loop-at
decreases-loop-at g l = vec_len l.probes - l.at
