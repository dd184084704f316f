use Rattle.std.proofs.Common.{rules, sym, subst}
use Rattle.paired_code.specs.Laws.{EnterAtLaw}
use Rattle.paired_code.specs.Code.{Code}
use Rattle.paired_code.proofs.MoreLaws.{enter_at_law}
use Rattle.paired_code.proofs.piece.enter_at.Goals as goal

pub returns-clause-code : goal.returns-clause-code
returns-clause-code c = search rules

pub returns-clause-law : goal.returns-clause-law
returns-clause-law c = subst (λ (p : Code). EnterAtLaw c.args.reg c.args.back p.cells) (sym (returns-clause-code c))
    (enter_at_law c.args.reg c.args.back)
