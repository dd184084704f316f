use Rattle.std.proofs.Common.{◌≡◌, drop}
use Rattle.std.specs.Option.{option_to_list}
use Rattle.rpp_probes.specs.Tally.{told_all}
use Rattle.rpp_probes.specs.Rules.{deepest_place}
use Rattle.rpp_probes.proofs.deepest_place.DeepestPlaceProbe.told_each.Given as goal

-- what is left to observe gives the whole probe state
abbrev pub invariant-loop-step : goal.invariant-loop-step
invariant-loop-step l =
    told_all (drop l.step-index l.steps) (deepest_place (option_to_list l.deepest))
    ≡ told_all l.steps (deepest_place (option_to_list l.initial.deepest))
