-- The reading of a text at its end.
use Rattle.std.proofs.Common.{◌≡◌, [], refl}
use Rattle.row_parts.specs.declared.texts.Reading.{Reading}
use Rattle.row_parts.specs.declared.texts.Reading.TheVariants.{Outside, Escape, HighDigit, LowDigit}
use Rattle.row_parts.specs.Reading.{meant_from}

-- nothing is left
pub nothing_left : (reading : Reading) → meant_from reading [] ≡ []
nothing_left Outside = refl
nothing_left Escape = refl
nothing_left HighDigit = refl
nothing_left (LowDigit high) = refl
