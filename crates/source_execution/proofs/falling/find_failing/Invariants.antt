use Rattle.std.proofs.Common.{◌+◌, ◌*◌, ◌<◌, length}
use Rattle.source_statements.specs.rpp_tree.Views.{source_of}
use Rattle.source_execution.specs.Standing.{config_at}
use Rattle.source_checks.specs.Failures.{MOST_STEPS}
use Rattle.source_execution.proofs.Leading.{HasStepped}
use Rattle.source_execution.proofs.falling.find_failing.Given as goal

abbrev pub invariant-loop-execution : goal.invariant-loop-execution
invariant-loop-execution l =
    HasStepped (source_of l.checked) l.fn.limits l.input.words.items l.steps l.execution l.fuel
    × (l.steps < MOST_STEPS)

abbrev pub decreases-loop-execution : goal.decreases-loop-execution
decreases-loop-execution l = 2 * l.fuel + length (config_at l.execution).around
