use Rattle.refine_program.proofs.Stated.{codes_are_made_in_order}
use Rattle.refine_program.proofs.laws.codes_are_made_in_order.Goals as goal

pub returns : goal.returns
returns c = codes_are_made_in_order
