use Rattle.register_expressions.specs.rpp_tree.Views.{lvalue_of}
use Rattle.expr_uncompute.proofs.Bounds.{found_place_most}
use Rattle.expr_uncompute.proofs.around.place_around.Goals as goal

pub returns-clause-steps : goal.returns-clause-steps
returns-clause-steps c = found_place_most (lvalue_of c.args.place.now)
