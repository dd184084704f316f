use Rattle.roopl_semantics.proofs.Exactly.{exactly}
use Rattle.roopl_semantics.proofs.laws.images_are_exact.Goals as goal

pub returns : goal.returns
returns c = λ program image stands limits input in_limits valid. exactly program limits input image
    (stands.follows limits input in_limits valid)
