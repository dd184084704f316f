use Rattle.std.proofs.Common.{◌∙◌, sym, []}
use Rattle.roopl_parser.proofs.Moves.{gives_from}
use Rattle.roopl_parser.proofs.MoreMoves.{run_params}
use Rattle.roopl_parser.proofs.params.params.Goals as goal

pub returns-in_ok-push-clause-gives : goal.returns-in_ok-push-clause-gives
returns-in_ok-push-clause-gives c =
    λ n. gives_from _ _ _ _ (λ s vs. run_params _ _ _ _ _ _ (sym c.paren_here.ensures ∙ c.if-paren_here.false)
    ∙ c.in_ok-first.ensures.gives n [] _ _ ∙ rw (c.in_ok-push.ensures.items, c.new-params.ensures.items))
    (c.more_params.ensures.gives n)
