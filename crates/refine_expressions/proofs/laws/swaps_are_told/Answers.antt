use Rattle.refine_expressions.proofs.Stated.{swaps_are_told}
use Rattle.refine_expressions.proofs.laws.swaps_are_told.Goals as goal

pub returns : goal.returns
returns c = swaps_are_told
