use Rattle.refine_frame.proofs.Stated.{open_layout}
use Rattle.refine_frame.proofs.laws.open_layout.Goals as goal

pub returns : goal.returns
returns c = open_layout
