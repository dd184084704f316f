use Rattle.refine_calls.proofs.Stated.{main_is_open}
use Rattle.refine_calls.proofs.laws.main_is_open.Goals as goal

pub returns : goal.returns
returns c = main_is_open
