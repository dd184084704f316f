-- What numbers and parts of texts show.
use Rattle.std.specs.Prelude.{ℕ, List, string_bytes}
use Rattle.row_parts.specs.declared.printed.Number.{Number}
use Rattle.row_parts.specs.declared.printed.Part.{Part as Stored}
use Rattle.row_parts.specs.declared.printed.Part.TheVariants as stored
use Rattle.row_parts.specs.Printed.{Part, Text, Number as Named, Any}

-- the name of a number, and its digits
abbrev pub number_shown : Number → List ℕ × List ℕ
number_shown number = (string_bytes number.name, number.digits.items)

-- a part with its bytes
abbrev pub part_shown : Stored → Part
part_shown (stored.Text bytes) = Text bytes.items
part_shown (stored.Number name) = Named (string_bytes name)
part_shown stored.Any = Any
