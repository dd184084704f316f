use Rattle.std.proofs.Common.{length, sym, arith}
use Rattle.std.proofs.lemmas.List.Sums.{prefix_len_is}
use Rattle.std.specs.Char.{is_ascii_digit}
use Rattle.roopl_lexer.proofs.pieces.digits_len.Goals as goal

pub returns-clause-length : goal.returns-clause-length
returns-clause-length c =
    sym (prefix_len_is is_ascii_digit c.args.rest.now (length c.args.rest.now) 0 (omega arith)
    (λ k below. c.loop-i.invariant k (omega arith)) (λ below. absurd (omega arith)))
