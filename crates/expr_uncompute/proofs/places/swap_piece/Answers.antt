use Rattle.std.proofs.Common.{rules}
use Rattle.register_expressions.specs.rpp_tree.Views.{lvalue_of}
use Rattle.register_expressions.specs.paired_code.Code.{unmarked}
use Rattle.register_expressions.proofs.paired_code_laws.Contract.{if_ok_law}
use Rattle.register_expressions.specs.code_scope.Visible.{spot_of, free_words_of, known_by}
use Rattle.expr_uncompute.specs.Code.{swap_cells}
use Rattle.expr_uncompute.specs.Promises.{SwapLaw}
use Rattle.std.specs.Prelude.{◌≤◌, length}
use Rattle.expr_uncompute.specs.Sizes.{swap_size}
use Rattle.expr_uncompute.proofs.Bounds
use Rattle.expr_uncompute.proofs.ForContracts.{swap_law}
use Rattle.expr_uncompute.proofs.places.swap_piece.Goals as goal

pub returns-clause-code : goal.returns-clause-code
returns-clause-code c = search rules

pub returns-clause-law : goal.returns-clause-law
returns-clause-law c = if_ok_law (λ p. SwapLaw (spot_of (known_by c.args.names.now))
    (free_words_of (known_by c.args.names.now)) (lvalue_of c.args.left.now) (lvalue_of c.args.right.now) p.cells) _
    (unmarked (swap_cells (spot_of (known_by c.args.names.now)) (free_words_of (known_by c.args.names.now))
    (lvalue_of c.args.left.now) (lvalue_of c.args.right.now))) (returns-clause-code c)
    (swap_law (spot_of (known_by c.args.names.now)) (free_words_of (known_by c.args.names.now))
    (lvalue_of c.args.left.now)
    (lvalue_of c.args.right.now))

pub returns-clause-size : goal.returns-clause-size
returns-clause-size c = if_ok_law (λ p. length p.cells ≤ swap_size (lvalue_of c.args.left.now)
    (lvalue_of c.args.right.now)) _ (unmarked (swap_cells (spot_of (known_by c.args.names.now))
    (free_words_of (known_by c.args.names.now)) (lvalue_of c.args.left.now) (lvalue_of c.args.right.now)))
    (returns-clause-code c) (Bounds.swap_cells (spot_of (known_by c.args.names.now))
    (free_words_of (known_by c.args.names.now)) (lvalue_of c.args.left.now) (lvalue_of c.args.right.now))
