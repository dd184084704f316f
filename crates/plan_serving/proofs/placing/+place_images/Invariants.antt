use Rattle.std.proofs.Common.{length}
use Rattle.plan_serving.proofs.placing.+place_images.Given as goal

abbrev pub decreases-place_images : goal.decreases-place_images
decreases-place_images l = length l.images.now
