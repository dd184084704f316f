use Rattle.std.proofs.Common.{◌∙◌, ap, sym, subst}
use Rattle.paired_code.specs.Layout.{mirror_cells}
use Rattle.paired_code.specs.Laws.{MirrorLaw}
use Rattle.paired_code.specs.Fit.{AllSymbolsFit}
use Rattle.paired_code.specs.Code.{Code}
use Rattle.paired_code.proofs.Contract.{mirror_law, mirrored_is}
use Rattle.paired_code.proofs.Fits.{fit_mirror, code_is}
use Rattle.paired_code.proofs.piece.mirror.Goals as goal

pub sealed-requires-clause-fit : goal.sealed-requires-clause-fit
sealed-requires-clause-fit c = subst AllSymbolsFit (sym (c.in_ok-cells.ensures ∙ mirrored_is c.as_slice.result.now
    ∙ ap mirror_cells c.as_slice.ensures)) (fit_mirror _ c.piece.invariant.fit)

pub returns-clause-code : goal.returns-clause-code
returns-clause-code c = c.sealed.ensures
    ∙ code_is _ _ _ _ (c.in_ok-cells.ensures ∙ mirrored_is c.as_slice.result.now
    ∙ ap mirror_cells (c.as_slice.ensures ∙ ap (λ (z : Code). z.cells) c.piece.view_is)) c.new.ensures.items

pub returns-clause-law : goal.returns-clause-law
returns-clause-law c = subst (λ (p : Code). MirrorLaw c.args.piece.now.cells p.cells) (sym (returns-clause-code c))
    (mirror_law c.args.piece.now.cells)
