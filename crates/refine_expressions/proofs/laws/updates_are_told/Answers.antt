use Rattle.refine_expressions.proofs.Stated.{updates_are_told}
use Rattle.refine_expressions.proofs.laws.updates_are_told.Goals as goal

pub returns : goal.returns
returns c = updates_are_told
