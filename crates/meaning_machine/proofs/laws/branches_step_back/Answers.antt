use Rattle.meaning_machine.proofs.Branching.{branches_back}
use Rattle.meaning_machine.proofs.laws.branches_step_back.Goals as goal

pub returns : goal.returns
returns c = branches_back
