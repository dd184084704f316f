use Rattle.refine_objects.specs.rpp_tree.Views.{expression_of}
use Rattle.branch_codegen.specs.code_scope.Visible.{known_in}
use Rattle.statement_codegen.proofs.Clauses.{local_returns}
use Rattle.statement_codegen.proofs.locals.local_code.Goals as goal

pub returns-clause-law : goal.returns-clause-law
returns-clause-law c = local_returns (known_in c.args.scope.now) c.args._var.now (expression_of c.args.value.now)
    (expression_of c.args.last.now) _ _ _ _ c.local_block.result c.free-word.ensures.value c.in_ok-begins.ensures.law
    c.in_ok-ends.ensures.law c.local_block.ensures.law
