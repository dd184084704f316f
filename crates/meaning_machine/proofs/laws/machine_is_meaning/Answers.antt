use Rattle.meaning_machine.proofs.Following.{followed}
use Rattle.meaning_machine.proofs.laws.machine_is_meaning.Goals as goal

pub returns : goal.returns
returns c = followed
