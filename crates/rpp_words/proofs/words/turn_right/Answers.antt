use Rattle.std.proofs.Common.{◌∙◌, ◌%◌, arith}
use Rattle.rpp_words.proofs.Turns.{rotated_right}
use Rattle.rpp_words.proofs.words.turn_right.Goals as goal

pub returns : goal.returns
returns c = c.rotate_right.ensures ∙ rotated_right c.args.a (c.args.n % 32) (omega arith) (omega arith)
