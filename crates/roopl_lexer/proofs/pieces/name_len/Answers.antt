use Rattle.std.proofs.Common.{length, sym, arith}
use Rattle.std.proofs.lemmas.List.Sums.{prefix_len_is}
use Rattle.rpp_tree.specs.rpp_words.Names.{is_name_byte}
use Rattle.roopl_lexer.proofs.pieces.name_len.Goals as goal

pub returns-clause-length : goal.returns-clause-length
returns-clause-length c =
    sym (prefix_len_is is_name_byte c.args.rest.now (length c.args.rest.now) 0 (omega arith)
    (λ k below. c.loop-i.invariant k (omega arith)) (λ below. absurd (omega arith)))
