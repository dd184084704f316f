use Rattle.pisa_isa.proofs.Noting.{fits-flipped, flipped_noted-twice}
use Rattle.pisa_isa.proofs.laws.flipped_notes_fit.Goals as goal

pub returns-clause-fits : goal.returns-clause-fits
returns-clause-fits c = fits-flipped

pub returns-clause-twice : goal.returns-clause-twice
returns-clause-twice c = flipped_noted-twice
