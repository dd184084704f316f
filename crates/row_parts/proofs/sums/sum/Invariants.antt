use Rattle.std.proofs.Common.{◌≡◌, length}
use Rattle.std.specs.Prelude.{codes}
use Rattle.row_parts.specs.Pieces.{pieces}
use Rattle.row_parts.specs.Sums.{sum, sum_after}
use denote.Shadow.{shadow}
use denote.Text.{Utf8}
use Rattle.row_parts.proofs.sums.sum.Given as goal

-- what is left decides
abbrev pub invariant-loop-number : goal.invariant-loop-number
invariant-loop-number l = (sum_after l.sum (pieces (codes " + ") l.rest) ≡ sum l.text)
    × shadow (Utf8 l.rest)

abbrev pub decreases-loop-number : goal.decreases-loop-number
decreases-loop-number l = length l.rest
