-- What a text with its name shows.
use Rattle.std.specs.Prelude.{ℕ, List, string_bytes}
use Rattle.row_parts.specs.declared.names.Named.{Named}

-- the name, and the text
abbrev pub named_text : Named → List ℕ × List ℕ
named_text named = (string_bytes named.name, string_bytes named.text)
