use Rattle.refine_calls.proofs.Stated.{locals_are_open}
use Rattle.refine_calls.proofs.laws.locals_are_open.Goals as goal

pub returns : goal.returns
returns c = locals_are_open
