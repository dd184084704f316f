use Rattle.std.proofs.Common.{◌≡◌, length}
use Rattle.std.specs.Prelude.{codes, is_none}
use Rattle.std.specs.List.{list_all}
use Rattle.rpp_ports.specs.Shelves.{shelf_texts}
use Rattle.row_parts.specs.Pieces.{pieces}
use denote.Shadow.{shadow}
use denote.Text.{Utf8}
use Rattle.row_parts.proofs.files.look_for_none.Given as goal

-- what is left decides
abbrev pub invariant-loop-name : goal.invariant-loop-name
invariant-loop-name l = (list_all (λ name. is_none (shelf_texts l.shelf name)) (pieces (codes " ") l.rest)
    ≡ list_all (λ name. is_none (shelf_texts l.shelf name)) (pieces (codes " ") l.names))
    × shadow (Utf8 l.rest)

abbrev pub decreases-loop-name : goal.decreases-loop-name
decreases-loop-name l = length l.rest
