use Rattle.std.proofs.Common.{List, ◌∷◌, [], ◌++◌, ◌∙◌, sym, ap, subst, rules}
use Rattle.paired_code.specs.declared.part.Symbol.{Symbol}
use Rattle.paired_code.specs.declared.part.Symbol.TheVariants.{Own}
use Rattle.paired_code.specs.Laws.{PlainLaw}
use Rattle.paired_code.specs.Code.{Code}
use Rattle.paired_code.proofs.Small.{runs_single}
use Rattle.paired_code.specs.Fit.{AllSymbolsFit}
use Rattle.paired_code.proofs.Fits.{inner_single}
use Rattle.code_conventions.proofs.pisa_isa_laws.Ranges.{imm_word}
use Rattle.paired_code.proofs.piece.plain.Goals as goal

pub sealed-requires-clause-fit : goal.sealed-requires-clause-fit
sealed-requires-clause-fit c =
    subst AllSymbolsFit (sym (c.in_ok-push.ensures ∙ ap (λ (z : List Symbol). z ++ Own c.args.cell ∷ [])
    c.new-cells.ensures)) (inner_single c.args.cell c.requires.single c.requires.cell, tt)

pub returns-clause-code : goal.returns-clause-code
returns-clause-code c = search rules

pub returns-clause-law : goal.returns-clause-law
returns-clause-law c = subst (λ (p : Code). PlainLaw c.args.cell p.cells) (sym (returns-clause-code c))
    (λ im d m. runs_single im c.args.cell d m c.requires.single (imm_word c.args.cell c.requires.cell.in_range))
