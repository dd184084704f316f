use Rattle.std.proofs.Common.{◌∙◌, ℕ, Some, sym, ap}
use Rattle.source_checks.specs.source_blocks.Tasks.{task_of}
use Rattle.source_execution.specs.Standing.{next_place}
use Rattle.source_checks.proofs.source_blocks_laws.Blocks.{rest_here, rest_end}
use Rattle.source_execution.proofs.places.run_place.Goals as goal

pub returns-in-None : goal.returns-in-None
returns-in-None c =
    sym (ap next_place (rest_end c.args.run.now.at (task_of c.args.run.now.task) c.in-None.ensures.past))

pub returns-in-Some : goal.returns-in-Some
returns-in-Some c =
    ap (λ (n : ℕ). Some n) c.in-Some.ensures.place
    ∙ sym (ap next_place (rest_here c.args.run.now.at (task_of c.args.run.now.task) c.in-Some.ensures.within))
