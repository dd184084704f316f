use Rattle.std.proofs.Common.{length}
use Rattle.method_calls.proofs.calls.+moves_piece.Given as goal

-- fewer spots
abbrev pub decreases-moves_piece : goal.decreases-moves_piece
decreases-moves_piece l = length l.spots.now
