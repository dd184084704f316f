use Rattle.std.proofs.Common.{rules, sym, subst}
use Rattle.paired_code.specs.Laws.{EnterLaw}
use Rattle.paired_code.specs.Code.{Code}
use Rattle.paired_code.proofs.MoreLaws.{enter_law}
use Rattle.paired_code.proofs.piece.enter.Goals as goal

pub returns-clause-code : goal.returns-clause-code
returns-clause-code c = search rules

pub returns-clause-law : goal.returns-clause-law
returns-clause-law c = subst (λ (p : Code). EnterLaw c.args.routine c.args.back p.cells) (sym (returns-clause-code c))
    (enter_law c.args.routine c.args.back)
