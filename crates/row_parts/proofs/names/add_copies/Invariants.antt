use Rattle.std.proofs.Common.{◌≡◌, ◌++◌}
use Rattle.std.specs.Prelude.{string_bytes}
use Rattle.row_parts.specs.Names.{copies}
use Rattle.row_parts.proofs.names.add_copies.Given as goal

abbrev pub invariant-loop-number : goal.invariant-loop-number
invariant-loop-number l = string_bytes l.made ≡ string_bytes l.initial.made ++ copies l.text l.number
