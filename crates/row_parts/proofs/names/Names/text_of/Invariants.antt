use Rattle.std.proofs.Common.{◌≡◌, map, drop}
use Rattle.std.specs.Prelude.{option_copied}
use Rattle.std.specs.Option.{option_or}
use Rattle.row_parts.specs.Named.{named_text}
use Rattle.row_parts.specs.Names.{text_named}
use Rattle.row_parts.proofs.names.Names.text_of.Given as goal

-- what is left decides
abbrev pub invariant-loop-named : goal.invariant-loop-named
invariant-loop-named l =
    option_or (text_named (map named_text (drop l.named-index l.named-items)) l.name) (option_copied l.found)
    ≡ text_named (map named_text l.named-items) l.name
