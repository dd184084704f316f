use Rattle.std.proofs.Common.{◌+◌, ◌-◌, ◌*◌, get_or, drop, arith}
use Rattle.rpp_tree.proofs.rpp_words_laws.Decimals.{decimal_from-grows, decimal_from-drop}
use Rattle.roopl_lexer.proofs.number.number_of.Goals as goal

pub returns-then-number-from : goal.returns-then-number-from
returns-then-number-from c =
    let grows = decimal_from-grows (10 * c.loop-digit.number +
    (get_or c.args.digits.now c.loop-digit.digit-index 0 - 48))
    (drop (c.loop-digit.digit-index + 1) c.args.digits.now) in
    let step = decimal_from-drop c.loop-digit.number c.loop-digit.digit-index c.args.digits.now (omega arith) in
    omega (arith, c.loop-digit.invariant.so_far)
