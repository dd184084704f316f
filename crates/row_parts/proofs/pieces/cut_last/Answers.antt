use Rattle.row_parts.proofs.Cuts.{cut_last_gives}
use Rattle.row_parts.proofs.pieces.cut_last.Goals as goal

pub returns : goal.returns
returns c = cut_last_gives c.args.separator.now c.args.text.now c.rsplit_once.result c.requires
    c.rsplit_once.ensures.cases
