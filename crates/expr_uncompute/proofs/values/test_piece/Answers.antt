use Rattle.std.proofs.Common.{rules}
use Rattle.register_expressions.specs.rpp_tree.Views.{expression_of}
use Rattle.register_expressions.specs.paired_code.Code.{unmarked}
use Rattle.register_expressions.proofs.paired_code_laws.Contract.{if_ok_law}
use Rattle.register_expressions.specs.code_scope.Visible.{spot_of, free_words_of, known_by}
use Rattle.expr_uncompute.specs.Code.{test_cells}
use Rattle.expr_uncompute.specs.Promises.{ConditionLaw}
use Rattle.std.specs.Prelude.{◌≤◌, ◌*◌, length}
use Rattle.register_expressions.specs.Steps.{token_count}
use Rattle.expr_uncompute.proofs.Bounds
use Rattle.expr_uncompute.proofs.ForContracts.{test_law}
use Rattle.expr_uncompute.proofs.values.test_piece.Goals as goal

pub returns-clause-code : goal.returns-clause-code
returns-clause-code c = search rules

pub returns-clause-law : goal.returns-clause-law
returns-clause-law c = if_ok_law (λ p. ConditionLaw (spot_of (known_by c.args.names.now))
    (free_words_of (known_by c.args.names.now)) c.args.into (expression_of c.args.e.now) p.cells) _
    (unmarked (test_cells (spot_of (known_by c.args.names.now)) (free_words_of (known_by c.args.names.now))
    (expression_of c.args.e.now) c.args.into)) (returns-clause-code c)
    (test_law (spot_of (known_by c.args.names.now)) (free_words_of (known_by c.args.names.now)) c.args.into
    (expression_of c.args.e.now) c.requires.register)

pub returns-clause-size : goal.returns-clause-size
returns-clause-size c = if_ok_law (λ p. length p.cells ≤ 58 * token_count (expression_of c.args.e.now)) _
    (unmarked (test_cells (spot_of (known_by c.args.names.now)) (free_words_of (known_by c.args.names.now))
    (expression_of c.args.e.now) c.args.into)) (returns-clause-code c)
    (Bounds.test_cells (spot_of (known_by c.args.names.now)) (free_words_of (known_by c.args.names.now))
    (expression_of c.args.e.now) c.args.into)
