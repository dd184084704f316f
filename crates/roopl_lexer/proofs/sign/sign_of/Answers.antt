-- Each arm has the symbols of one, two and three bytes at the beginning.
use Rattle.std.proofs.Common.{arith}
use Rattle.std.specs.Prelude.{None}
use Rattle.roopl_lexer.proofs.Signs.{longest_of, finds_one, finds_two, finds_three}
use Rattle.roopl_lexer.proofs.sign.sign_of.Goals as goal

pub returns-in-len2 : goal.returns-in-len2
returns-in-len2 c =
    rw c.or.ensures (longest_of c.args.rest.now c.single_sign-in-len2.result c.double_sign.result None
    (finds_one c.args.rest.now c.single_sign-in-len2.result (omega arith) c.single_sign-in-len2.ensures)
    (finds_two c.args.rest.now c.double_sign.result (omega arith) c.double_sign.ensures)
    (λ longer. absurd (omega arith)))

pub returns-in-len3-up : goal.returns-in-len3-up
returns-in-len3-up c =
    rw (c.or-in-len3-up-2.ensures, c.or-in-len3-up.ensures)
    (longest_of c.args.rest.now c.single_sign-in-len3-up.result c.double_sign-in-len3-up.result c.triple_sign.result
    (finds_one c.args.rest.now c.single_sign-in-len3-up.result (omega arith) c.single_sign-in-len3-up.ensures)
    (finds_two c.args.rest.now c.double_sign-in-len3-up.result (omega arith) c.double_sign-in-len3-up.ensures)
    (finds_three c.args.rest.now c.triple_sign.result (omega arith) c.triple_sign.ensures))
