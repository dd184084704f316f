use Rattle.refine_form.proofs.Stated.{nothing_is_owed}
use Rattle.refine_form.proofs.laws.nothing_is_owed.Goals as goal

pub returns : goal.returns
returns c = nothing_is_owed
