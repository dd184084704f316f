use Rattle.std.proofs.Common.{◌≡◌, ◌++◌, rules, arith, sym, subst}
use Rattle.paired_code.specs.Laws.{SeqLaw}
use Rattle.paired_code.specs.Fit.{AllSymbolsFit}
use Rattle.paired_code.specs.Code.{Code, parts}
use Rattle.paired_code.proofs.Contract.{seq_law}
use Rattle.paired_code.proofs.Fits.{fit_append, seq_room, seq_within}
use Rattle.paired_code.proofs.Marks.{seq_parts, kept_view}
use Rattle.paired_code.proofs.piece.seq.Goals as goal

pub put_spans-requires : goal.put_spans-requires
put_spans-requires c = seq_room _ _ _ _ _ _ _ c.in_ok-append.ensures
    (omega (arith, c.len-size.ensures.few))
    c.len-front.ensures.count c.deref.ensures.value c.second.invariant.within

pub sealed-requires-clause-fit : goal.sealed-requires-clause-fit
sealed-requires-clause-fit c = subst AllSymbolsFit (sym c.in_ok-append.ensures)
    (fit_append _ _ c.first.invariant.fit c.second.invariant.fit)

pub sealed-requires-clause-within : goal.sealed-requires-clause-within
sealed-requires-clause-within c = seq_within _ _ _ _ _ _ _ _ c.in_ok-append.ensures c.in_ok-put_spans.ensures
    c.len-front.ensures.count c.deref.ensures.value c.first.invariant.within
    c.second.invariant.within

pub returns-clause-code : goal.returns-clause-code
returns-clause-code c = search rules

pub returns-clause-law : goal.returns-clause-law
returns-clause-law c = subst (λ (p : Code). SeqLaw c.args.first.cells c.args.second.cells p.cells)
    (sym (returns-clause-code c)) (seq_law c.args.first.cells c.args.second.cells)

pub returns-clause-marks : goal.returns-clause-marks
returns-clause-marks c = subst (λ (p : Code). parts p ≡ parts c.args.first ++ parts c.args.second)
    (sym (returns-clause-code c))
    (seq_parts c.args.first c.args.second (kept_view c.args.first c.first.view_is c.first.invariant)
    (kept_view c.args.second c.second.view_is c.second.invariant))
