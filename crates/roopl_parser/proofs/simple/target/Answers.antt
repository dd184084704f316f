use Rattle.std.proofs.Common.{arith}
use Rattle.roopl_parser.specs.Reader.{scan, walk, ends}
use Rattle.roopl_parser.proofs.Moves.{gives_from}
use Rattle.roopl_parser.proofs.simple.target.Goals as goal

pub returns-in-Sign-LeftParen-clause-gives : goal.returns-in-Sign-LeftParen-clause-gives
unfolding scan walk ends
returns-in-Sign-LeftParen-clause-gives c =
    gives_from _ _ _ _ (λ s vs. grind arith) c.own_call.ensures.gives

pub returns-in-Sign-DoubleColon-clause-gives : goal.returns-in-Sign-DoubleColon-clause-gives
unfolding scan walk ends
returns-in-Sign-DoubleColon-clause-gives c =
    gives_from _ _ _ _ (λ s vs. grind arith) c.send.ensures.gives

pub returns-then-locals-lt-MOST_LOCALS-clause-gives :
    goal.returns-then-locals-lt-MOST_LOCALS-clause-gives
unfolding scan walk ends
returns-then-locals-lt-MOST_LOCALS-clause-gives c =
    gives_from _ _ _ _ (λ s vs. grind arith) c.send-then-locals-lt-MOST_LOCALS.ensures.gives
