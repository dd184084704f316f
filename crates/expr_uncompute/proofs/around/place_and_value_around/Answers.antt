use Rattle.register_expressions.specs.rpp_tree.Views.{expression_of, lvalue_of}
use Rattle.expr_uncompute.proofs.Bounds.{found_value_most}
use Rattle.expr_uncompute.proofs.around.place_and_value_around.Goals as goal

pub returns-clause-steps : goal.returns-clause-steps
returns-clause-steps c = found_value_most (lvalue_of c.args.place.now) (expression_of c.args.value.now)
