use Rattle.std.proofs.Common.{arith}
use Rattle.roopl_parser.specs.Reader.{scan, walk, ends}
use Rattle.roopl_parser.proofs.Moves.{gives_from}
use Rattle.roopl_parser.proofs.arguments.args.Goals as goal

pub returns-in_ok-push-in-Name-clause-gives : goal.returns-in_ok-push-in-Name-clause-gives
unfolding scan walk ends
returns-in_ok-push-in-Name-clause-gives c =
    λ n. gives_from _ _ _ _ (λ s vs. grind arith) (c.more_args.ensures.gives n)
