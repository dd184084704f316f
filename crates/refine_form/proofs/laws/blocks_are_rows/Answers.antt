use Rattle.refine_form.proofs.Stated.{blocks_are_rows}
use Rattle.refine_form.proofs.laws.blocks_are_rows.Goals as goal

pub returns : goal.returns
returns c = blocks_are_rows
