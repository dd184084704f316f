-- The law.
use Rattle.refine_objects.proofs.opened.news_are_open.Goals as goal
use Rattle.refine_objects.proofs.StatedBlocks as stated

pub returns : goal.returns
returns c = stated.news_are_open
