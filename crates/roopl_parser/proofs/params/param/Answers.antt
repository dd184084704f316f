use Rattle.std.proofs.Common.{arith, ◌∷◌, ◌<◌}
use Rattle.roopl_lexer.specs.rpp_tree.declared.limits.TheConstants.{MOST_PARAMETERS}
use Rattle.roopl_parser.specs.Reader.{Build, AddVar, Vars}
use Rattle.roopl_parser.proofs.Moves.{run_build}
use Rattle.roopl_parser.proofs.MoreMoves.{run_param, gives_through}
use Rattle.roopl_parser.proofs.params.param.Goals as goal

pub returns-else-count-clause-gives : goal.returns-else-count-clause-gives
returns-else-count-clause-gives c =
    let few : c.args.count < MOST_PARAMETERS = omega arith in
    λ n xs. gives_through _ _ _ _ _ (λ s. Build AddVar ∷ s) (λ vs. Vars xs ∷ vs) (λ s vs. run_param _ _ _ _ _ _ few)
    (λ x s vs. run_build _ _ _ _ _ _ _) (c.variable.ensures.gives n)
