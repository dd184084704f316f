use Rattle.std.proofs.Common.{length}
use Rattle.source_steps.proofs.calls.+move_back.Given as goal

abbrev pub decreases-move_back : goal.decreases-move_back
decreases-move_back l = length l.cells.now
