use Rattle.refine_expressions.proofs.Stated.{tests_are_told}
use Rattle.refine_expressions.proofs.laws.tests_are_told.Goals as goal

pub returns : goal.returns
returns c = tests_are_told
