use Rattle.std.proofs.Common.{◌+◌, ◌*◌, length}
use Rattle.source_debugger.specs.rpp_tree.Views.{source_of}
use Rattle.source_debugger.specs.source_execution.Standing.{config_at}
use Rattle.live_accounts.proofs.Going.{HasGone}
use Rattle.live_accounts.proofs.arriving.go_to.Given as goal

abbrev pub invariant-loop-execution : goal.invariant-loop-execution
invariant-loop-execution l =
    HasGone (source_of l.checked) l.fn.limits l.input.words.items l.execution l.fuel l.passed

abbrev pub decreases-loop-execution : goal.decreases-loop-execution
decreases-loop-execution l = 2 * l.fuel + length (config_at l.execution).around
