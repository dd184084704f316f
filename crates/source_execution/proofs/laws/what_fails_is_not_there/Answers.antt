use Rattle.source_execution.proofs.Accessed.{accesses}
use Rattle.source_execution.proofs.laws.what_fails_is_not_there.Goals as goal

pub returns : goal.returns
returns c = accesses
