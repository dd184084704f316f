use Rattle.pisa_isa.proofs.Back.{back-next}
use Rattle.pisa_isa.proofs.laws.back_undoes_next.Goals as goal

pub returns : goal.returns
returns c = back-next
