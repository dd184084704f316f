use Rattle.std.proofs.Common.{length, sym, arith}
use Rattle.std.proofs.lemmas.List.Sums.{prefix_len_is}
use Rattle.pisa_asm.specs.Lines.{is_blank_byte}
use Rattle.pisa_asm.proofs.line.blank_len.Goals as goal

pub returns-clause-length : goal.returns-clause-length
returns-clause-length c =
    sym (prefix_len_is (is_blank_byte) c.args.line.now (length c.args.line.now) 0 (omega arith)
    (λ k below. c.loop-i.invariant k (omega arith)) (λ below. absurd (omega arith)))
