use Rattle.std.proofs.Common.{◌∙◌, ap, subst, sym, ◌≤◌, ◌<◌}
use Rattle.source_blocks.specs.rpp_tree.Places.{statement_place}
use Rattle.source_blocks.specs.rpp_tree.Tree.{Statements}
use Rattle.source_blocks.specs.rpp_tree.Views.{statement_of}
use Rattle.source_blocks.specs.declared.task.Task.{Task}
use Rattle.source_blocks.specs.Blocks.{statement_count, statement_at}
use Rattle.source_blocks.specs.Tasks.{task_of}
use Rattle.source_checks.proofs.Undone.{place_turned}
use Rattle.source_checks.proofs.places.place_at.Goals as goal

pub returns-in-Some-clause-place : goal.returns-in-Some-clause-place
returns-in-Some-clause-place c =
    c.place_of.ensures ∙ place_turned c.in-Text.back (statement_of c.in-Some.s.now)
    ∙ ap statement_place (c.in-Some.ensures.statement
    ∙ ap (λ (t : Task). statement_at c.args.at (task_of t)) (sym c.in-Text.is))
