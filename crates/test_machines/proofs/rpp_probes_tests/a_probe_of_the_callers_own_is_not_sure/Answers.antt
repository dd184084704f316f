use Rattle.std.proofs.Common.{refl, false, [], ◌∷◌}
use Rattle.std.specs.Prelude.{codes}
use Rattle.two_way_debugger.specs.rpp_probes.Tally.{Watch}
use Rattle.two_way_debugger.proofs.rpp_probes_laws.Sure.{never_ends}
use Rattle.test_machines.proofs.rpp_probes_tests.a_probe_of_the_callers_own_is_not_sure.Goals as goal

pub told_each-requires : goal.told_each-requires
told_each-requires g c =
    let last : Watch = record {
      tally = 0 ∷ [];
      rule = λ tally step. step.place ∷ [];
      is_end = λ tally. false;
      shown = λ tally. codes "last";
    } in
    never_ends c.deref.result.now last (λ tally. refl)
