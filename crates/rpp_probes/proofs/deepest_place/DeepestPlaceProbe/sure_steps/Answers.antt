use Rattle.std.proofs.Common.{refl}
use Rattle.rpp_probes.proofs.Sure.{never_ends}
use Rattle.rpp_probes.proofs.deepest_place.DeepestPlaceProbe.sure_steps.Goals as goal

pub returns : goal.returns
returns c = λ steps few. never_ends steps _ (λ tally. refl)
