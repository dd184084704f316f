use Rattle.std.proofs.Common.{rules}
use Rattle.register_expressions.specs.rpp_tree.Views.{expression_of, lvalue_of}
use Rattle.register_expressions.specs.paired_code.Code.{unmarked}
use Rattle.register_expressions.proofs.paired_code_laws.Contract.{if_ok_law}
use Rattle.register_expressions.specs.code_scope.Visible.{spot_of, free_words_of, known_by}
use Rattle.expr_uncompute.specs.Code.{update_cells}
use Rattle.expr_uncompute.specs.Promises.{UpdateLaw}
use Rattle.std.specs.Prelude.{◌≤◌, ◌*◌, ◌+◌, length}
use Rattle.register_expressions.specs.Steps.{token_count}
use Rattle.expr_uncompute.specs.Steps.{place_tokens}
use Rattle.expr_uncompute.proofs.Bounds
use Rattle.expr_uncompute.proofs.ForContracts.{update_law}
use Rattle.expr_uncompute.proofs.places.update_piece.Goals as goal

pub returns-clause-code : goal.returns-clause-code
returns-clause-code c = search rules

pub returns-clause-law : goal.returns-clause-law
returns-clause-law c = if_ok_law (λ p. UpdateLaw (spot_of (known_by c.args.names.now))
    (free_words_of (known_by c.args.names.now)) c.args.op (lvalue_of c.args.place.now) (expression_of c.args.value.now)
    p.cells) _ (unmarked (update_cells (spot_of (known_by c.args.names.now)) (free_words_of (known_by c.args.names.now))
    c.args.op (lvalue_of c.args.place.now) (expression_of c.args.value.now))) (returns-clause-code c)
    (update_law (spot_of (known_by c.args.names.now)) (free_words_of (known_by c.args.names.now)) c.args.op
    (lvalue_of c.args.place.now) (expression_of c.args.value.now))

pub returns-clause-size : goal.returns-clause-size
returns-clause-size c = if_ok_law (λ p. length p.cells ≤ 80 *
    (place_tokens (lvalue_of c.args.place.now) + 1 + token_count (expression_of c.args.value.now))) _
    (unmarked (update_cells (spot_of (known_by c.args.names.now)) (free_words_of (known_by c.args.names.now)) c.args.op
    (lvalue_of c.args.place.now) (expression_of c.args.value.now))) (returns-clause-code c)
    (Bounds.update_cells (spot_of (known_by c.args.names.now)) (free_words_of (known_by c.args.names.now)) c.args.op
    (lvalue_of c.args.place.now) (expression_of c.args.value.now))
