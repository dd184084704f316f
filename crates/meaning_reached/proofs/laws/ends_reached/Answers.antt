use Rattle.meaning_reached.proofs.Final.{ends_reached}
use Rattle.meaning_reached.proofs.laws.ends_reached.Goals as goal

pub returns : goal.returns
returns c = ends_reached
