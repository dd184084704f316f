use Rattle.refine_program.proofs.Stated.{statics_are_few}
use Rattle.refine_program.proofs.laws.statics_are_few.Goals as goal

pub returns : goal.returns
returns c = statics_are_few
