use Rattle.std.proofs.Common.{length}
use Rattle.rpp_command.proofs.reading.+images_alone.Given as goal

abbrev pub decreases-images_alone : goal.decreases-images_alone
decreases-images_alone l = length l.images.now
