use Rattle.register_expressions.specs.rpp_tree.Views.{lvalue_of}
use Rattle.expr_uncompute.proofs.Bounds.{found_places_most}
use Rattle.expr_uncompute.proofs.around.places_around.Goals as goal

pub returns-clause-steps : goal.returns-clause-steps
returns-clause-steps c = found_places_most (lvalue_of c.args.source.now) (lvalue_of c.args.target.now)
