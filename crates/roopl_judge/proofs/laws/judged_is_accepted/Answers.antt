use Rattle.roopl_judge.proofs.Accepted.{judged_accepted}
use Rattle.roopl_judge.proofs.laws.judged_is_accepted.Goals as goal

pub returns : goal.returns
returns c = judged_accepted
