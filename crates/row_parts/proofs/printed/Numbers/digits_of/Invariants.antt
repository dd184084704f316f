use Rattle.std.proofs.Common.{◌≡◌, map, drop}
use Rattle.row_parts.specs.Shown.{number_shown}
use Rattle.row_parts.specs.Printed.{digits_named}
use Rattle.row_parts.proofs.printed.Numbers.digits_of.Given as goal

-- what is left decides
abbrev pub invariant-loop-number : goal.invariant-loop-number
invariant-loop-number l = digits_named (map number_shown (drop l.number-index l.number-items)) l.name
    ≡ digits_named (map number_shown l.number-items) l.name
