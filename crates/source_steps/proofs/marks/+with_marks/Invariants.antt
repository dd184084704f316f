use Rattle.std.proofs.Common.{length}
use Rattle.source_steps.proofs.marks.+with_marks.Given as goal

abbrev pub decreases-with_marks : goal.decreases-with_marks
decreases-with_marks l = length l.params.now
