use Rattle.refine_frame.proofs.Stated.{open_cells}
use Rattle.refine_frame.proofs.laws.open_cells.Goals as goal

pub returns : goal.returns
returns c = open_cells
