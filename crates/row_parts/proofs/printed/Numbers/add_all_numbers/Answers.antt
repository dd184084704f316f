use Rattle.std.proofs.Common.{◌++◌, sym, ap, ◌∙◌, rules}
use Rattle.std.specs.Prelude.{codes, option_map, string_bytes}
use Rattle.row_parts.specs.Pieces.{pieces}
use Rattle.row_parts.specs.Printed.{valued_piece, valued_pieces}
use Rattle.row_parts.proofs.AddedTexts.{adds_on}
use Rattle.row_parts.proofs.printed.Numbers.add_all_numbers.Goals as goal

pub loop-piece-preserved : goal.loop-piece-preserved
loop-piece-preserved c =
    let known = c.args.self.now in
    let made = string_bytes c.loop-piece.made in
    record {
      same = adds_on made (string_bytes c.add_number.new.made) (valued_piece known c.in-Some.piece.now)
          (valued_pieces known (pieces (codes "<") c.in-Some.behind.now)) c.in_ok-add_number.ensures
          ∙ (ap (λ pieces. option_map (λ text. made ++ text) (valued_pieces known pieces)) (sym c.in-Some.ensures.pieces)
          ∙ c.loop-piece.invariant.same);
      is_text = search rules;
    }
