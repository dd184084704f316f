use Rattle.refine_expressions.proofs.Stated.{values_are_told}
use Rattle.refine_expressions.proofs.laws.values_are_told.Goals as goal

pub returns : goal.returns
returns c = values_are_told
