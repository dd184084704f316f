use Rattle.refine_objects.proofs.StatedCopies.{uncopies_are_told}
use Rattle.refine_objects.proofs.copied.uncopies_are_told.Goals as goal

pub returns : goal.returns
returns c = uncopies_are_told
