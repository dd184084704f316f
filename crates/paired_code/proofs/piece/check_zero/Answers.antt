use Rattle.std.proofs.Common.{rules, sym, subst}
use Rattle.paired_code.specs.Laws.{CheckLaw}
use Rattle.paired_code.specs.Code.{Code}
use Rattle.paired_code.proofs.MoreLaws.{check_law}
use Rattle.paired_code.proofs.piece.check_zero.Goals as goal

pub returns-clause-code : goal.returns-clause-code
returns-clause-code c = search rules

pub returns-clause-law : goal.returns-clause-law
returns-clause-law c = subst (λ (p : Code). CheckLaw c.args.reg c.args.code p.cells) (sym (returns-clause-code c))
    (check_law c.args.reg c.args.code)
