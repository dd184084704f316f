use Rattle.std.proofs.Common.{◌∙◌, sym, refl}
use Rattle.live_searches.proofs.searches.judge.Goals as goal

pub returns-then-met-clause-judged : goal.returns-then-met-clause-judged
returns-then-met-clause-judged c = (sym c.in-Ok.ensures.told ∙ c.if-met.true, refl, refl)

pub returns-else-met-clause-judged : goal.returns-else-met-clause-judged
returns-else-met-clause-judged c = sym c.in-Ok.ensures.told ∙ c.if-met.false
