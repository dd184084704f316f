use Rattle.meaning_inverse.proofs.Law.{shows_back}
use Rattle.meaning_inverse.proofs.laws.input_comes_back.Goals as goal

pub returns : goal.returns
returns c = λ program limits input fuel end cost accepted inside valid e. shows_back program limits input accepted
    inside valid fuel end cost e
