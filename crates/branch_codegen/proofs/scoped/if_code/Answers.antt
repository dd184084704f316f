use Rattle.refine_expressions.specs.rpp_tree.Views.{expression_of}
use Rattle.refine_expressions.specs.code_scope.Visible.{known_in}
use Rattle.branch_codegen.proofs.InScope.{if_returns}
use Rattle.branch_codegen.proofs.scoped.if_code.Goals as goal

pub returns-clause-law : goal.returns-clause-law
returns-clause-law c = if_returns (known_in c.args.scope.now) (expression_of c.args.test.now)
    (expression_of c.args.after.now) _ _ _ _ c.conditional.result c.in_ok-tested.ensures.law c.in_ok-ended.ensures.law
    c.conditional.ensures.law
