-- What is left of a text's reading.
use Rattle.std.specs.Prelude.{ℕ, List}
use Rattle.row_parts.specs.declared.texts.Reading.{Reading}
use Rattle.row_parts.specs.declared.texts.Reading.TheVariants.{Outside, Escape, HighDigit, LowDigit}
use Rattle.row_parts.specs.Texts.{meant, after_backslash, after_x, after_high}

-- the bytes that the rest of a text means
abbrev pub meant_from : Reading → List ℕ → List ℕ
meant_from Outside text = meant text
meant_from Escape text = after_backslash text
meant_from HighDigit text = after_x text
meant_from (LowDigit high) text = after_high text high
