use Rattle.std.proofs.Common.{rules}
use Rattle.std.specs.Prelude.{◌≤◌, ◌*◌, ◌+◌, length}
use Rattle.register_expressions.specs.rpp_tree.Views.{lvalue_of}
use Rattle.register_expressions.specs.paired_code.Code.{unmarked}
use Rattle.register_expressions.proofs.paired_code_laws.Contract.{if_ok_law}
use Rattle.register_expressions.specs.code_scope.Visible.{spot_of, free_words_of, known_by}
use Rattle.register_expressions.specs.Code.{around}
use Rattle.expr_uncompute.specs.Code.{found_place_cells}
use Rattle.expr_uncompute.specs.Found.{PlaceAroundLaw}
use Rattle.expr_uncompute.specs.Steps.{place_tokens}
use Rattle.expr_uncompute.proofs.Bounds
use Rattle.expr_uncompute.proofs.AroundLaws
use Rattle.expr_uncompute.proofs.middles.around_place.Goals as goal

pub returns-clause-code : goal.returns-clause-code
returns-clause-code c = search rules

pub returns-clause-law : goal.returns-clause-law
returns-clause-law c = if_ok_law (λ p. PlaceAroundLaw (spot_of (known_by c.args.names.now))
    (free_words_of (known_by c.args.names.now)) (lvalue_of c.args.place.now) c.args.middle.cells p.cells) _
    (unmarked (around (found_place_cells (spot_of (known_by c.args.names.now)) (free_words_of (known_by c.args.names.now))
    (lvalue_of c.args.place.now)) c.args.middle.cells)) (returns-clause-code c)
    (AroundLaws.place_around (spot_of (known_by c.args.names.now)) (free_words_of (known_by c.args.names.now))
    (lvalue_of c.args.place.now) c.args.middle.cells)

pub returns-clause-size : goal.returns-clause-size
returns-clause-size c = if_ok_law (λ p. length p.cells ≤ length c.args.middle.cells + 80 *
    (1 + place_tokens (lvalue_of c.args.place.now))) _ (unmarked
    (around (found_place_cells (spot_of (known_by c.args.names.now)) (free_words_of (known_by c.args.names.now))
    (lvalue_of c.args.place.now)) c.args.middle.cells)) (returns-clause-code c)
    (Bounds.place_around (spot_of (known_by c.args.names.now)) (free_words_of (known_by c.args.names.now))
    (lvalue_of c.args.place.now) c.args.middle.cells)
