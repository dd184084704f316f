use Rattle.refine_program.proofs.Stated.{linked_programs_stand}
use Rattle.refine_program.proofs.laws.linked_programs_stand.Goals as goal

pub returns : goal.returns
returns c = linked_programs_stand
