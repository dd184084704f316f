use Rattle.refine_objects.proofs.StatedMade.{deletes_are_told}
use Rattle.refine_objects.proofs.made.deletes_are_told.Goals as goal

pub returns : goal.returns
returns c = deletes_are_told
