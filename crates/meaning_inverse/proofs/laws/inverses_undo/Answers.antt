use Rattle.meaning_inverse.proofs.Law.{leads_back}
use Rattle.meaning_inverse.proofs.laws.inverses_undo.Goals as goal

pub returns : goal.returns
returns c = λ program limits input fuel end cost accepted inside valid e. leads_back program limits input accepted
    inside valid fuel end cost e
