use Rattle.std.proofs.Common.{rules, sym, subst, ◌≡◌, ◌++◌, ◌∷◌, []}
use Rattle.paired_code.specs.Code.{Code, parts}
use Rattle.paired_code.proofs.Marks.{marked_all}
use Rattle.paired_code.proofs.Fits.{marked_within}
use Rattle.paired_code.proofs.piece.marked.Goals as goal

pub sealed-requires-clause-within : goal.sealed-requires-clause-within
sealed-requires-clause-within c =
    marked_within _ _ _ _ _ _ c.in_ok-push.ensures.items c.cover.ensures c.len.ensures.count c.requires
    c.piece.invariant.within

pub returns-clause-code : goal.returns-clause-code
returns-clause-code c = search rules

pub returns-clause-marks : goal.returns-clause-marks
returns-clause-marks c = subst (λ (p : Code). parts p ≡ parts c.args.piece
    ++ record { at = c.args.at; cells = c.args.piece.cells } ∷ []) (sym (returns-clause-code c))
    (marked_all c.args.at c.args.piece)
