use Rattle.std.proofs.Common.{◌≡◌, false, drop}
use Rattle.rpp_probes.specs.Tally.{told_all, is_ended_in}
use Rattle.rpp_probes.proofs.probe.Probe.told_each.Given as goal

-- what is left to observe gives the whole probe state, and ends nothing
abbrev pub invariant-loop-step : goal.invariant-loop-step
invariant-loop-step g l = record {
  told : told_all (drop l.step-index l.steps) (g.Self.Probe.watch l.self)
      ≡ told_all l.steps (g.Self.Probe.watch l.initial.self);
  sure : is_ended_in (drop l.step-index l.steps) (g.Self.Probe.watch l.self) ≡ false;
}
