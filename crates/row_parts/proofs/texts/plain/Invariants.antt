use Rattle.std.proofs.Common.{◌≡◌, ◌++◌, drop}
use Rattle.row_parts.specs.Texts.{meant}
use Rattle.row_parts.specs.Reading.{meant_from}
use Rattle.row_parts.proofs.texts.plain.Given as goal

-- what is left decides
abbrev pub invariant-loop-byte : goal.invariant-loop-byte
invariant-loop-byte l = l.made.items ++ meant_from l.reading (drop l.byte-index l.bytes) ≡ meant l.bytes
