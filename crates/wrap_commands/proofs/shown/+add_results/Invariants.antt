use Rattle.std.proofs.Common.{length}
use Rattle.wrap_commands.proofs.shown.+add_results.Given as goal

abbrev pub decreases-add_results : goal.decreases-add_results
decreases-add_results l = length l.results.now
