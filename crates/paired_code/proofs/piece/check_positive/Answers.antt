use Rattle.std.proofs.Common.{rules, sym, subst}
use Rattle.paired_code.specs.Layout.{Positive}
use Rattle.paired_code.specs.Laws.{BranchTestLaw}
use Rattle.paired_code.specs.Code.{Code}
use Rattle.paired_code.proofs.MoreLaws.{test_law}
use Rattle.paired_code.proofs.piece.check_positive.Goals as goal

pub returns-clause-code : goal.returns-clause-code
returns-clause-code c = search rules

pub returns-clause-law : goal.returns-clause-law
returns-clause-law c =
    subst (λ (p : Code). BranchTestLaw (Positive c.args.reg) c.args.code p.cells) (sym (returns-clause-code c))
    (test_law (Positive c.args.reg) c.args.code)
