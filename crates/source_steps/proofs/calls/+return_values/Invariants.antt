use Rattle.std.proofs.Common.{length}
use Rattle.source_steps.proofs.calls.+return_values.Given as goal

abbrev pub decreases-return_values : goal.decreases-return_values
decreases-return_values l = length l.receiver.now
