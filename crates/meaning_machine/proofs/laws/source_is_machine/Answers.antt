use Rattle.meaning_machine.proofs.Sources.{joined}
use Rattle.meaning_machine.proofs.laws.source_is_machine.Goals as goal

pub returns : goal.returns
returns c = joined
