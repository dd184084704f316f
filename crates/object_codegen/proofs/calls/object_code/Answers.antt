use Rattle.std.proofs.Common.{[], ◌∷◌, arith}
use Rattle.std.specs.Prelude.{◌+◌, ◌*◌}
use Rattle.refine_heap.specs.rpp_tree.Views.{lvalue_of}
use Rattle.expr_uncompute.specs.code_scope.Visible.{spot_of, free_words_of, known_in}
use Rattle.expr_uncompute.specs.register_expressions.Code.{xori}
use Rattle.expr_uncompute.specs.Steps.{place_tokens}
use Rattle.object_codegen.specs.declared.shape.Shape.TheVariants.{Fixed}
use Rattle.object_codegen.specs.Code.{order, new_mid}
use Rattle.object_codegen.proofs.Bounds.{object_cells_are}
use Rattle.object_codegen.proofs.Clauses.{object_returns, object_length, size_returns}
use Rattle.object_codegen.proofs.calls.object_code.Goals as goal

pub returns-clause-law : goal.returns-clause-law
returns-clause-law c = object_returns (spot_of (known_in c.args.scope.now)) (free_words_of (known_in c.args.scope.now))
    c.args.table c.args.fields c.args.order (lvalue_of c.args.place.now) _ _ c.place_around.result (omega arith)
    (omega arith) (omega arith) c.in_ok-orders.ensures c.in_ok-middle.ensures c.place_around.ensures.law

pub returns-clause-size : goal.returns-clause-size
returns-clause-size c =
    size_returns 86 (80 * (1 + place_tokens (lvalue_of c.args.place.now)))
    (new_mid (Fixed c.args.table c.args.fields) (xori order c.args.order ∷ [])) _ c.place_around.result
    (object_length c.args.table c.args.fields c.args.order _ _ c.in_ok-orders.ensures c.in_ok-middle.ensures)
    (object_cells_are c.args.table c.args.fields c.args.order)
    c.place_around.ensures.size
