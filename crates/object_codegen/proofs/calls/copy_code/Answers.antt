use Rattle.std.specs.Prelude.{◌+◌, ◌*◌}
use Rattle.refine_heap.specs.rpp_tree.Views.{lvalue_of}
use Rattle.expr_uncompute.specs.code_scope.Visible.{spot_of, free_words_of, known_in}
use Rattle.expr_uncompute.specs.Steps.{place_tokens}
use Rattle.object_codegen.specs.Code.{copy_mid}
use Rattle.object_codegen.proofs.Bounds.{copy_cells_are}
use Rattle.object_codegen.proofs.Clauses.{copy_returns, size_returns, no_more, copy_most}
use Rattle.object_codegen.proofs.calls.copy_code.Goals as goal

pub returns-clause-law : goal.returns-clause-law
returns-clause-law c = copy_returns (spot_of (known_in c.args.scope.now)) (free_words_of (known_in c.args.scope.now))
    (lvalue_of c.args.source.now) (lvalue_of c.args.target.now) _ c.places_around.result c.in_ok-middle.ensures
    c.places_around.ensures.law

pub returns-in_err-middle-clause-steps : goal.returns-in_err-middle-clause-steps
returns-in_err-middle-clause-steps c = copy_most (lvalue_of c.args.source.now) (lvalue_of c.args.target.now)

pub returns-clause-size : goal.returns-clause-size
returns-clause-size c = size_returns 47 (80 * (place_tokens (lvalue_of c.args.source.now) + place_tokens
    (lvalue_of c.args.target.now))) copy_mid _ c.places_around.result c.in_ok-middle.ensures
    (no_more copy_cells_are)
    c.places_around.ensures.size
