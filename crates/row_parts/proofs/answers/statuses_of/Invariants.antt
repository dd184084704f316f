use Rattle.std.proofs.Common.{◌≡◌, ◌++◌, length}
use Rattle.std.specs.Prelude.{codes, filter_map}
use Rattle.row_parts.specs.Pieces.{pieces}
use Rattle.row_parts.specs.Digits.{unsigned}
use Rattle.row_parts.specs.Answers.{statuses}
use denote.Shadow.{shadow}
use denote.Text.{Utf8}
use Rattle.row_parts.proofs.answers.statuses_of.Given as goal

-- what is left decides
abbrev pub invariant-loop-piece : goal.invariant-loop-piece
invariant-loop-piece l = (l.made.items ++ filter_map (unsigned 8 10) (pieces (codes " ") l.rest) ≡ statuses l.text)
    × shadow (Utf8 l.rest)

abbrev pub decreases-loop-piece : goal.decreases-loop-piece
decreases-loop-piece l = length l.rest
