use Rattle.std.proofs.Common.{◌≡◌, drop}
use Rattle.std.specs.Prelude.{◌==◌, ◌||◌}
use Rattle.std.specs.Char.{is_ascii_alphanumeric}
use Rattle.std.specs.List.{list_all}
use Rattle.row_parts.proofs.texts.is_word.Given as goal

-- what is left decides
abbrev pub invariant-loop-byte : goal.invariant-loop-byte
invariant-loop-byte l =
    list_all (λ byte. is_ascii_alphanumeric byte || byte == 95) (drop l.byte-index l.bytes)
    ≡ list_all (λ byte. is_ascii_alphanumeric byte || byte == 95) l.bytes
