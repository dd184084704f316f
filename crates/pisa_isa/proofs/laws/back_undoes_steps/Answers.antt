use Rattle.pisa_isa.proofs.Keeps.{back_by-steps}
use Rattle.pisa_isa.proofs.laws.back_undoes_steps.Goals as goal

pub returns : goal.returns
returns c = back_by-steps
