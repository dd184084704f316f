use Rattle.std.proofs.Common.{length}
use Rattle.source_checks.proofs.touched.+first_touched.Given as goal

abbrev pub decreases-first_touched : goal.decreases-first_touched
decreases-first_touched l = length l.cells.now
