use Rattle.std.proofs.Common.{◌≡◌, ◌++◌, map, take, string_bytes}
use Rattle.rpp_probes.specs.Tally.{watch_line, lines_shown}
use Rattle.rpp_probes.proofs.telling.lines_of.Given as goal

-- the lines of the probes so far
abbrev pub invariant-loop-probe : goal.invariant-loop-probe
invariant-loop-probe g l =
    string_bytes l.lines ≡ lines_shown (map watch_line (map (λ b. (goal.Probe-dyn g (b.vtable, b.value)).watch b.value)
    (take l.probe-index l.probes)))
