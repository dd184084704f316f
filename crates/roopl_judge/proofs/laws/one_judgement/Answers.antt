use Rattle.roopl_judge.proofs.OneJudgement.{one_judgement_of}
use Rattle.roopl_judge.proofs.laws.one_judgement.Goals as goal

pub returns : goal.returns
returns c = one_judgement_of
