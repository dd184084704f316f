use Rattle.refine_objects.proofs.StatedCopies.{copies_are_told}
use Rattle.refine_objects.proofs.copied.copies_are_told.Goals as goal

pub returns : goal.returns
returns c = copies_are_told
