use Rattle.std.proofs.Common.{sym, length, arith}
use Rattle.std.specs.Prelude.{nat_eq}
use Rattle.pisa_scripts.specs.Lines.{at_most, digits_after}
use Rattle.pisa_scripts.proofs.Digits.{one_too_many}
use Rattle.pisa_scripts.proofs.numbers.number_up_to.Goals as goal

pub returns-then-number-most-clause-value : goal.returns-then-number-most-clause-value
returns-then-number-most-clause-value c =
    let word = c.args.word.now in
    one_too_many c.args.most c.loop-digit.number c.loop-digit.digit-index word
    (at_most c.args.most (digits_after 0 word))
    c.loop-digit-test.true (sym c.if-not-is_ascii_digit.ensures.value) (omega arith) c.loop-digit.invariant.rest
    (nat_eq (length word) 0)
