use Rattle.std.proofs.Common.{◌∙◌, sym, drop, arith}
use Rattle.pisa_asm.proofs.Reading.{too_large}
use Rattle.pisa_asm.proofs.number.number_below.Goals as goal

pub returns-then-number-end : goal.returns-then-number-end
returns-then-number-end c =
    sym (too_large c.args.end c.loop-digit.number (drop c.loop-digit.digit-index c.args.digits.now) (omega arith))
    ∙ c.loop-digit.invariant.left
