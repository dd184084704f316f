use Rattle.std.proofs.Common.{◌∙◌, ◌%◌, arith}
use Rattle.rpp_words.proofs.Turns.{rotated_left}
use Rattle.rpp_words.proofs.words.turn_left.Goals as goal

pub returns : goal.returns
returns c = c.rotate_left.ensures ∙ rotated_left c.args.a (c.args.n % 32) (omega arith) (omega arith)
