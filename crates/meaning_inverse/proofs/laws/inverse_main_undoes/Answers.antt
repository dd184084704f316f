use Rattle.meaning_inverse.proofs.Back.{main_back}
use Rattle.meaning_inverse.proofs.laws.inverse_main_undoes.Goals as goal

pub returns : goal.returns
returns c = main_back
