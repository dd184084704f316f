use Rattle.refine_program.proofs.Stated.{calls_find_routines}
use Rattle.refine_program.proofs.laws.calls_find_routines.Goals as goal

pub returns : goal.returns
returns c = calls_find_routines
