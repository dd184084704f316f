use Rattle.source_execution.proofs.Failed.{fails_as_meant}
use Rattle.source_execution.proofs.laws.a_step_fails_as_meant.Goals as goal

pub returns : goal.returns
returns c = fails_as_meant
