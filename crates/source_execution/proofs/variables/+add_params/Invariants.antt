use Rattle.std.proofs.Common.{length}
use Rattle.source_execution.proofs.variables.+add_params.Given as goal

abbrev pub decreases-add_params : goal.decreases-add_params
decreases-add_params l = length l.params.now
