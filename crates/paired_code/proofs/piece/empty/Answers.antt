use Rattle.std.proofs.Common.{sym, subst}
use Rattle.paired_code.specs.Laws.{EmptyLaw}
use Rattle.paired_code.proofs.Small.{runs_empty}
use Rattle.paired_code.proofs.piece.empty.Goals as goal

pub returns-clause-law : goal.returns-clause-law
returns-clause-law c = subst EmptyLaw (sym c.new.ensures) (λ im d m. runs_empty im d m)
