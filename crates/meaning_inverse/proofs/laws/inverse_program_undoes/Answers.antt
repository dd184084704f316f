use Rattle.meaning_inverse.proofs.Back.{runs_back}
use Rattle.meaning_inverse.proofs.laws.inverse_program_undoes.Goals as goal

pub returns : goal.returns
returns c = λ program limits input final fuel end cost accepted inside valid done anew. runs_back program limits input
    final accepted inside valid fuel end cost done anew
