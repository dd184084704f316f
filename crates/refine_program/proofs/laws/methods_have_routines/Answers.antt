use Rattle.refine_program.proofs.Stated.{methods_have_routines}
use Rattle.refine_program.proofs.laws.methods_have_routines.Goals as goal

pub returns : goal.returns
returns c = methods_have_routines
