use Rattle.row_parts.proofs.Cuts.{cut_gives, cut_pieces, cut_shorter}
use Rattle.row_parts.proofs.pieces.cut.Goals as goal

pub returns : goal.returns
returns c =
    let separator = c.args.separator.now in
    let text = c.args.text.now in
    let r = c.split_once.result in
    let h = c.split_once.ensures.cases in
    record {
      sides = cut_gives separator text r c.requires h;
      pieces = cut_pieces separator text r c.requires (cut_gives separator text r c.requires h);
      shorter = cut_shorter separator text r c.requires h;
    }
