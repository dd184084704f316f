use Rattle.meaning_machine.proofs.Turning.{turned_twice}
use Rattle.meaning_machine.proofs.laws.turns_twice.Goals as goal

pub returns : goal.returns
returns c = turned_twice
