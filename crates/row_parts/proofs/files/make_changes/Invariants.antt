use Rattle.std.proofs.Common.{◌≡◌, length}
use Rattle.std.specs.Prelude.{codes}
use Rattle.row_parts.specs.Pieces.{pieces}
use Rattle.row_parts.specs.Files.{all_changed}
use denote.Shadow.{shadow}
use denote.Text.{Utf8}
use Rattle.row_parts.proofs.files.make_changes.Given as goal

-- what is left decides
abbrev pub invariant-loop-change : goal.invariant-loop-change
invariant-loop-change l = (all_changed l.bytes.items (pieces (codes ", ") l.rest)
    ≡ all_changed l.initial.bytes.items (pieces (codes ", ") l.changes))
    × shadow (Utf8 l.rest)

abbrev pub decreases-loop-change : goal.decreases-loop-change
decreases-loop-change l = length l.rest
