use Rattle.meaning_machine.proofs.Trails.{walked}
use Rattle.meaning_machine.proofs.laws.trail_is_walked.Goals as goal

pub returns : goal.returns
returns c = walked
