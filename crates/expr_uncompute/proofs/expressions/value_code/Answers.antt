use Rattle.register_expressions.specs.rpp_tree.Views.{expression_of}
use Rattle.expr_uncompute.proofs.Bounds.{value_most}
use Rattle.expr_uncompute.proofs.expressions.value_code.Goals as goal

pub returns-clause-steps : goal.returns-clause-steps
returns-clause-steps c = value_most (expression_of c.args.e.now)
