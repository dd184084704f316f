use Rattle.std.proofs.Common.{length, sym, arith, not, ◌==◌}
use Rattle.std.proofs.lemmas.List.Sums.{prefix_len_is}
use Rattle.pisa_asm.proofs.line.line_len.Goals as goal

pub returns-clause-length : goal.returns-clause-length
returns-clause-length c =
    sym (prefix_len_is (λ b. not (b == 10)) c.args.text.now (length c.args.text.now) 0 (omega arith)
    (λ k below. c.loop-i.invariant k (omega arith)) (λ below. absurd (omega arith)))
