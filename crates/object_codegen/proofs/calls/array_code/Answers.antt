use Rattle.std.specs.Prelude.{◌+◌, ◌*◌}
use Rattle.refine_heap.specs.rpp_tree.Views.{expression_of, lvalue_of}
use Rattle.expr_uncompute.specs.code_scope.Visible.{spot_of, free_words_of, known_in}
use Rattle.expr_uncompute.specs.register_expressions.Steps.{token_count}
use Rattle.expr_uncompute.specs.Steps.{place_tokens}
use Rattle.object_codegen.specs.declared.shape.Shape.TheVariants.{Lengthy}
use Rattle.object_codegen.specs.Code.{order_cells, new_mid}
use Rattle.object_codegen.proofs.Bounds.{array_cells_are}
use Rattle.object_codegen.proofs.Clauses.{array_returns, array_length, size_returns, no_more}
use Rattle.object_codegen.proofs.calls.array_code.Goals as goal

pub returns-clause-law : goal.returns-clause-law
returns-clause-law c = array_returns (spot_of (known_in c.args.scope.now)) (free_words_of (known_in c.args.scope.now))
    (lvalue_of c.args.place.now) (expression_of c.args.size.now) _ _ c.place_and_value_around.result
    c.in_ok-orders.ensures c.in_ok-middle.ensures c.place_and_value_around.ensures.law

pub returns-clause-size : goal.returns-clause-size
returns-clause-size c =
    size_returns 164 (80 * (place_tokens (lvalue_of c.args.place.now) + token_count (expression_of c.args.size.now)))
    (new_mid Lengthy order_cells) _ c.place_and_value_around.result
    (array_length _ _ c.in_ok-orders.ensures c.in_ok-middle.ensures) (no_more array_cells_are)
    c.place_and_value_around.ensures.size
