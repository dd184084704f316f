use Rattle.refine_form.proofs.Stated.{nothing_is_a_block}
use Rattle.refine_form.proofs.laws.nothing_is_a_block.Goals as goal

pub returns : goal.returns
returns c = nothing_is_a_block
