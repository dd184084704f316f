use Rattle.std.proofs.Common.{◌∙◌, ap}
use Rattle.source_blocks.specs.rpp_tree.Places.{statement_place}
use Rattle.source_checks.proofs.places.line_place_at.Goals as goal

pub returns-in-Some-clause-place : goal.returns-in-Some-clause-place
returns-in-Some-clause-place c = c.line_place.ensures ∙ ap statement_place c.in-Some.ensures.statement
