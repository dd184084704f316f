use Rattle.std.proofs.Common.{◌≡◌, ◌++◌, length, map}
use Rattle.std.specs.Prelude.{codes, flat_map}
use Rattle.row_parts.specs.Pieces.{pieces}
use Rattle.row_parts.specs.Printed.{end_parts}
use Rattle.row_parts.specs.Shown.{part_shown}
use denote.Shadow.{shadow}
use denote.Text.{Utf8}
use Rattle.row_parts.proofs.printed.add_ends.Given as goal

-- what is left decides
abbrev pub invariant-loop-piece : goal.invariant-loop-piece
invariant-loop-piece l = (map part_shown l.parts.items ++ flat_map end_parts (pieces (codes "...") l.rest)
    ≡ map part_shown l.initial.parts.items ++ flat_map end_parts (pieces (codes "...") l.text))
    × shadow (Utf8 l.rest)

abbrev pub decreases-loop-piece : goal.decreases-loop-piece
decreases-loop-piece l = length l.rest
