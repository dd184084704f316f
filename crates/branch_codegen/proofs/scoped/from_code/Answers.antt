use Rattle.refine_expressions.specs.rpp_tree.Views.{expression_of}
use Rattle.refine_expressions.specs.code_scope.Visible.{known_in}
use Rattle.branch_codegen.proofs.InScope.{from_returns}
use Rattle.branch_codegen.proofs.scoped.from_code.Goals as goal

pub returns-clause-law : goal.returns-clause-law
returns-clause-law c = from_returns (known_in c.args.scope.now) (expression_of c.args.entry.now)
    (expression_of c.args.until.now) _ _ _ _ c.repetition.result c.in_ok-begins.ensures.law c.in_ok-exits.ensures.law
    c.repetition.ensures.law
