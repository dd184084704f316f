use Rattle.std.proofs.Common.{arith, ◌∙◌, ◌<◌, ◌≡◌, ◌∷◌, suc, true, sym, ap}
use Rattle.std.proofs.lemmas.Result.{err_from_is_err_and}
use Rattle.roopl_lexer.specs.rpp_tree.declared.limits.TheConstants.{MOST_PARENS, MOST_INDEX_DEPTH}
use Rattle.roopl_lexer.specs.declared.token.Symbol.TheVariants as sign
use Rattle.roopl_parser.specs.Reader.{scan, walk, ends, here, is_sign, Index, Build, MakeRead, AnIdent, AnExpr}
use Rattle.roopl_parser.proofs.Moves.{run_build, run_level, gives_from, read_back}
use Rattle.roopl_parser.proofs.Steps.{parens_step, name_step, more_step}
use Rattle.roopl_parser.proofs.expression.+expression.Goals as goal
use Rattle.roopl_parser.proofs.expression.+expression.Goals.{read-else-indexes-ge-MOST_INDEX_DEPTH-via-then-indexes-ge-MOST_INDEX_DEPTH+else-bracket_here}
use Rattle.roopl_parser.proofs.expression.+expression.Goals.{read-else-indexes-ge-MOST_INDEX_DEPTH-via-else-indexes-ge-MOST_INDEX_DEPTH}

pub binary-returns-in_err-left-clause-gives : goal.binary-returns-in_err-left-clause-gives
binary-returns-in_err-left-clause-gives t c =
    let above : 0 < c.args.level = omega arith in
    let p = err_from_is_err_and c.from_residual.result c.from_residual.ensures.1 in
    rw (p.1, p.2) (λ known s vs. run_level _ _ _ _ _ _ _ _ _ above ∙ c.in_err-left.ensures.gives known _ _)

pub binary-returns-in_ok-left-clause-gives : goal.binary-returns-in_ok-left-clause-gives
binary-returns-in_ok-left-clause-gives t c =
    let above : 0 < c.args.level = omega arith in
    gives_from _ _ _ _ (λ s vs. run_level _ _ _ _ _ _ _ _ _ above ∙ c.in_ok-left.ensures.gives _ _) c.more.ensures.gives

pub grouped-returns-in_err-inner-clause-gives : goal.grouped-returns-in_err-inner-clause-gives
grouped-returns-in_err-inner-clause-gives t c =
    let few : c.args.parens < MOST_PARENS = omega arith in
    let p = err_from_is_err_and c.from_residual.result c.from_residual.ensures.1 in
    rw (p.1, p.2) (λ known s vs. parens_step _ _ _ _ _ _ _ _ _ few ∙ c.in_err-inner.ensures.gives known _ _)

pub grouped-returns-in_err-rest-clause-gives : goal.grouped-returns-in_err-rest-clause-gives
grouped-returns-in_err-rest-clause-gives t c =
    let few : c.args.parens < MOST_PARENS = omega arith in
    let p = err_from_is_err_and c.from_residual-in_err-rest.result c.from_residual-in_err-rest.ensures.1 in
    rw (p.1, p.2) (λ known s vs. parens_step _ _ _ _ _ _ _ _ _ few ∙ c.in_ok-inner.ensures.gives _ _
    ∙ c.in_err-rest.ensures.gives _ known _ _)

pub indexed-returns-in_ok-new-in-Sign-LeftBracket-clause-gives :
    goal.indexed-returns-in_ok-new-in-Sign-LeftBracket-clause-gives
unfolding scan walk ends
indexed-returns-in_ok-new-in-Sign-LeftBracket-clause-gives t c = grind (arith, run_build)

pub more-returns-in_err-right-in-Some-operator_at-clause-gives :
    goal.more-returns-in_err-right-in-Some-operator_at-clause-gives
more-returns-in_err-right-in-Some-operator_at-clause-gives t c =
    let p = err_from_is_err_and c.from_residual-in_err-right-in-Some-operator_at.result
    c.from_residual-in_err-right-in-Some-operator_at.ensures.1 in
    let m = c.in_ok-nodes-in-Some-operator_at.ensures in
    rw (p.1, p.2) (λ known s vs. more_step _ _ _ _ _ _ _ _ _ _ _ _ c.in-Some.ensures c.in-Some-operator_at.ensures m.0
    m.1 ∙ c.in_err-right-in-Some-operator_at.ensures.gives known _ _)

pub more-returns-in_ok-new-in-Some-operator_at-2-clause-gives :
    goal.more-returns-in_ok-new-in-Some-operator_at-2-clause-gives
more-returns-in_ok-new-in-Some-operator_at-2-clause-gives t c =
    let m = c.in_ok-nodes-in-Some-operator_at.ensures in
    gives_from _ _ _ _ (λ s vs. more_step _ _ _ _ _ _ _ _ _ _ s _ c.in-Some.ensures c.in-Some-operator_at.ensures m.0
    m.1 ∙ c.in_ok-right-in-Some-operator_at.ensures.gives _ _ ∙ grind (arith, run_build)) c.more.ensures.gives

pub read-returns-clause-gives : goal.read-returns-clause-gives
read-returns-clause-gives t c =
    let m = c.in_ok-more.ensures in
    let free : here (is_sign sign.LeftBracket) c.args.tokens.now ≡ true
    → c.args.indexes < MOST_INDEX_DEPTH = elim c.else-indexes-ge-MOST_INDEX_DEPTH.branch [
      | read-else-indexes-ge-MOST_INDEX_DEPTH-via-then-indexes-ge-MOST_INDEX_DEPTH+else-bracket_here w ↦ λ e.
          (let p = w.bracket_here.ensures in let q = w.if-bracket_here.false in cc)
      | read-else-indexes-ge-MOST_INDEX_DEPTH-via-else-indexes-ge-MOST_INDEX_DEPTH w ↦ λ e. omega
          (arith, w.if-indexes-ge-MOST_INDEX_DEPTH.false)
    ] in
    λ s vs.
    name_step c.args.name.at c.args.nodes c.args.indexes (here (is_sign sign.LeftBracket) c.args.tokens.now)
    (scan true c.args.end c.args.tokens.now (suc c.args.nodes)
    (Index c.args.parens c.args.indexes ∷ Build MakeRead ∷ s) (AnIdent c.args.name ∷ vs)) m.0 free
    ∙ ap (λ j. scan true c.args.end c.args.tokens.now j (Index c.args.parens c.args.indexes ∷ Build MakeRead ∷ s)
    (AnIdent c.args.name ∷ vs)) (sym m.1)
    ∙ c.in_ok-place.ensures.gives (Build MakeRead ∷ s) vs
    ∙ run_build true c.args.end c.in_ok-place.rest.now c.in_ok-place.more MakeRead s _
    ∙ ap (λ x. scan true c.args.end c.in_ok-place.rest.now c.in_ok-place.more s (AnExpr x ∷ vs))
    (sym (read_back c.in_ok-place.place.name c.in_ok-place.place.index))
