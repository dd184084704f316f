use Rattle.std.proofs.Common.{arith}
use Rattle.rpp_probes.proofs.Marking.{sum_few}
use Rattle.rpp_probes.proofs.coverage.mark_place.Goals as goal

pub returns-else-place-lt-MOST_PLACES-clause-few : goal.returns-else-place-lt-MOST_PLACES-clause-few
returns-else-place-lt-MOST_PLACES-clause-few c = omega
    (arith, sum_few c.args.marks.now.items c.requires.marks, c.requires.whole)
