use Rattle.std.proofs.Common.{arith}
use Rattle.rpp_probes.proofs.Marking.{sum_few}
use Rattle.rpp_probes.proofs.coverage.mark_each.Goals as goal

pub returns-clause-few : goal.returns-clause-few
returns-clause-few c = omega (
  arith,
  sum_few c.loop-step.marks.items c.loop-step.invariant.are,
  c.loop-step.invariant.whole,
)
