use Rattle.refine_calls.proofs.Stated.{receivers_are_open}
use Rattle.refine_calls.proofs.laws.receivers_are_open.Goals as goal

pub returns : goal.returns
returns c = receivers_are_open
