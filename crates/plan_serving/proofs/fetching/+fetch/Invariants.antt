use Rattle.std.proofs.Common.{length}
use Rattle.plan_serving.proofs.fetching.+fetch.Given as goal

abbrev pub decreases-fetch : goal.decreases-fetch
decreases-fetch g l = length l.files.now
