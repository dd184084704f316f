use Rattle.std.proofs.Common.{◌+◌, ◌*◌, length}
use Rattle.source_execution.specs.Standing.{config_at}
use Rattle.source_execution.proofs.Walked.{HasGone}
use Rattle.source_execution.proofs.execution.Execution.run.Given as goal

abbrev pub invariant-loop-self : goal.invariant-loop-self
invariant-loop-self l = HasGone l.initial.self l.self l.initial.fuel l.fuel

abbrev pub decreases-loop-self : goal.decreases-loop-self
decreases-loop-self l = 2 * l.fuel + length (config_at l.self).around
