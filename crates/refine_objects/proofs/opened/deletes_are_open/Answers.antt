-- The law.
use Rattle.refine_objects.proofs.opened.deletes_are_open.Goals as goal
use Rattle.refine_objects.proofs.StatedBlocks as stated

pub returns : goal.returns
returns c = stated.deletes_are_open
