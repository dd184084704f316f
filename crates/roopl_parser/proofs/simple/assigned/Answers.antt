use Rattle.std.proofs.Common.{◌≡◌, ◌∙◌, None}
use Rattle.std.proofs.lemmas.Result.{err_from_is_err_and}
use Rattle.roopl_parser.specs.Operators.{update_operator}
use Rattle.roopl_parser.proofs.Moves.{run_build, run_count}
use Rattle.roopl_parser.proofs.MoreMoves.{run_swap}
use Rattle.roopl_lexer.proofs.rpp_tree_laws.Statements.{statement_swap}
use Rattle.roopl_parser.proofs.simple.assigned.Goals as goal

pub returns-in_err-rest-in-None-update_operator-clause-gives :
    goal.returns-in_err-rest-in-None-update_operator-clause-gives
returns-in_err-rest-in-None-update_operator-clause-gives c =
    let none : update_operator c.in-Some.token.now.kind ≡ None = cc in
    let p = err_from_is_err_and c.from_residual-in_err-rest-in-None-update_operator.result
    c.from_residual-in_err-rest-in-None-update_operator.ensures.1 in
    rw (p.1, p.2) (λ known s vs. run_swap _ _ _ _ _ _ _ _ _ c.in-Some.ensures none
    ∙ c.in_err-rest-in-None-update_operator.ensures.gives _ known _ _)

pub returns-in_err-right-in-None-update_operator-clause-gives :
    goal.returns-in_err-right-in-None-update_operator-clause-gives
returns-in_err-right-in-None-update_operator-clause-gives c =
    let none : update_operator c.in-Some.token.now.kind ≡ None = cc in
    let p = err_from_is_err_and c.from_residual-in_err-right-in-None-update_operator.result
    c.from_residual-in_err-right-in-None-update_operator.ensures.1 in
    rw (p.1, p.2) (λ known s vs. run_swap _ _ _ _ _ _ _ _ _ c.in-Some.ensures none
    ∙ c.in_ok-rest-in-None-update_operator.ensures.gives _ _ _
    ∙ c.in_err-right-in-None-update_operator.ensures.gives known _ _)

pub returns-in_ok-right-in-None-update_operator-clause-gives :
    goal.returns-in_ok-right-in-None-update_operator-clause-gives
returns-in_ok-right-in-None-update_operator-clause-gives c =
    let none : update_operator c.in-Some.token.now.kind ≡ None = cc in
    λ s vs. run_swap _ _ _ _ _ _ _ _ _ c.in-Some.ensures none ∙ c.in_ok-rest-in-None-update_operator.ensures.gives _ _ _
    ∙ c.in_ok-right-in-None-update_operator.ensures.gives _ _ ∙ run_build _ _ _ _ _ _ _ ∙ run_count _ _ _ _ _ _ _
    ∙ rw statement_swap
