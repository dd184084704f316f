use Rattle.std.proofs.Common.{ap, ◌∙◌, ◌^◌, bit_or}
use Rattle.std.proofs.lemmas.Nat.{one_shl}
use Rattle.source_steps.proofs.marks.with_mark.Goals as goal

pub returns : goal.returns
returns c = ap (bit_or c.args.marks)
    (one_shl c.mark_of.result 64 c.mark_of.ensures.few ∙ ap (λ k. 2 ^ k) c.mark_of.ensures.number)
