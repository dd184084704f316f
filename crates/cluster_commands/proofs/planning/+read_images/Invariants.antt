use Rattle.std.proofs.Common.{length}
use Rattle.cluster_commands.proofs.planning.+read_images.Given as goal

abbrev pub decreases-read_images : goal.decreases-read_images
decreases-read_images g l = length l.names.now
