use Rattle.register_expressions.specs.rpp_tree.Views.{lvalue_of}
use Rattle.expr_uncompute.proofs.Bounds.{swap_most}
use Rattle.expr_uncompute.proofs.expressions.swap_code.Goals as goal

pub returns-clause-steps : goal.returns-clause-steps
returns-clause-steps c = swap_most (lvalue_of c.args.left.now) (lvalue_of c.args.right.now)
