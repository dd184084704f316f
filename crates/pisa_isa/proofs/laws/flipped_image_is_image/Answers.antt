use Rattle.std.proofs.Common.{ap}
use Rattle.pisa_isa.proofs.Flips.{IsImage-flipped, flipped-flipped}
use Rattle.pisa_isa.proofs.laws.flipped_image_is_image.Goals as goal

pub returns : goal.returns
returns c = record {
  image = IsImage-flipped;
  twice = λ image i. ap (λ code. record image { code = code }) (flipped-flipped image.code i.is_code.cells);
}
