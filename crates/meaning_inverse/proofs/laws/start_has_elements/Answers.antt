use Rattle.meaning_inverse.proofs.Law.{elements_at_start}
use Rattle.meaning_inverse.proofs.laws.start_has_elements.Goals as goal

pub returns : goal.returns
returns c = elements_at_start
