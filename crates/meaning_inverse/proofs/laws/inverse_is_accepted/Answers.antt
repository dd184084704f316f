use Rattle.meaning_inverse.proofs.SameTypes.{inverse_accepted}
use Rattle.meaning_inverse.proofs.laws.inverse_is_accepted.Goals as goal

pub returns : goal.returns
returns c = inverse_accepted
