use Rattle.refine_program.proofs.Stated.{program_images_have_routines}
use Rattle.refine_program.proofs.laws.program_images_have_routines.Goals as goal

pub returns : goal.returns
returns c = program_images_have_routines
