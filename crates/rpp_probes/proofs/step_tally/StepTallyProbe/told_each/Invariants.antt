use Rattle.std.proofs.Common.{◌≡◌, drop}
use Rattle.rpp_probes.specs.Tally.{told_all}
use Rattle.rpp_probes.specs.Rules.{step_tally}
use Rattle.rpp_probes.proofs.step_tally.StepTallyProbe.told_each.Given as goal

-- what is left to observe gives the whole probe state
abbrev pub invariant-loop-step : goal.invariant-loop-step
invariant-loop-step l =
    told_all (drop l.step-index l.steps) (step_tally l.forward l.back)
    ≡ told_all l.steps (step_tally l.initial.forward l.initial.back)
