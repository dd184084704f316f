use Rattle.std.proofs.Common.{arith}
use Rattle.rpp_probes.proofs.Sure.{not_yet, no_more}
use Rattle.rpp_probes.proofs.coverage.CoverageProbe.sure_steps.Goals as goal

pub returns-then-self : goal.returns-then-self
returns-then-self c = λ steps few. not_yet steps _ _ _ (omega (arith, few)) (omega arith)

pub returns-then-self-lt18446744073709551615 : goal.returns-then-self-lt18446744073709551615
returns-then-self-lt18446744073709551615 c = λ steps few. no_more steps _ _ _ (omega arith) (omega arith) (omega arith)
