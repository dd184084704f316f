use Rattle.meaning_reached.proofs.Final.{execution_reaches}
use Rattle.meaning_reached.proofs.laws.execution_reaches.Goals as goal

pub returns : goal.returns
returns c = execution_reaches
