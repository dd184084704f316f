use Rattle.row_parts.proofs.Cuts.{after_gives}
use Rattle.row_parts.proofs.pieces.after.Goals as goal

pub returns : goal.returns
returns c = after_gives _ _ _ c.strip_prefix.ensures.cases
