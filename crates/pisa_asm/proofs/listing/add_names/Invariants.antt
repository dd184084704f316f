use Rattle.std.proofs.Common.{◌≡◌, ◌++◌, drop}
use Rattle.std.specs.Prelude.{string_bytes}
use Rattle.pisa_asm.specs.Listing.{name_text, lines_by}
use Rattle.pisa_asm.proofs.listing.add_names.Given as goal

-- the lines so far and those of what is left are the whole
abbrev pub invariant-loop-name : goal.invariant-loop-name
invariant-loop-name l = string_bytes l.out ++ lines_by name_text (drop l.name-index l.names)
    ≡ string_bytes l.initial.out ++ lines_by name_text l.names
