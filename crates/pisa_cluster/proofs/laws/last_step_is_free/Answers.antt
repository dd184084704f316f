use Rattle.pisa_cluster.proofs.LastFree.{last_free}
use Rattle.pisa_cluster.proofs.laws.last_step_is_free.Goals as goal

pub returns : goal.returns
returns c = last_free
