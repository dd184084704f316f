use Rattle.std.proofs.Common.{◌≡◌, ◌++◌, length}
use Rattle.std.specs.Prelude.{string_bytes, flat_map, codes}
use Rattle.row_parts.specs.Names.{filled_piece}
use Rattle.row_parts.specs.Pieces.{pieces}
use denote.Shadow.{shadow}
use denote.Text.{Utf8}
use Rattle.row_parts.proofs.names.Names.add_all_filled.Given as goal

-- what is left decides
abbrev pub invariant-loop-piece : goal.invariant-loop-piece
invariant-loop-piece l = (string_bytes l.made
    ++ flat_map (filled_piece l.self) (pieces (codes "{") l.rest)
    ≡ string_bytes l.initial.made
    ++ flat_map (filled_piece l.self) (pieces (codes "{") l.text))
    × shadow (Utf8 l.rest)

abbrev pub decreases-loop-piece : goal.decreases-loop-piece
decreases-loop-piece l = length l.rest
