use Rattle.std.proofs.Common.{◌≡◌, take}
use Rattle.std.specs.Prelude.{flat_map, encode_utf8, string_bytes}
use Rattle.row_parts.proofs.texts.characters.Given as goal

abbrev pub invariant-loop-byte : goal.invariant-loop-byte
invariant-loop-byte l = string_bytes l.made ≡ flat_map encode_utf8 (take l.byte-index l.bytes)
