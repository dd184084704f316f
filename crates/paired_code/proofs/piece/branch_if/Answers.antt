use Rattle.std.proofs.Common.{◌∙◌, ap, sym, subst, refl, arith, ◌≡◌, ◌+◌, ◌^◌, ◌++◌}
use Rattle.paired_code.specs.Laws.{BranchLaw}
use Rattle.paired_code.specs.Fit.{AllSymbolsFit}
use Rattle.paired_code.specs.Stored.{symbols_in}
use Rattle.paired_code.specs.Code.{Code, branch_code, parts}
use Rattle.paired_code.proofs.Contract.{branch_law}
use Rattle.paired_code.proofs.Fits.{fit_branch, branch_within, branch_room, room_at, two_marks, code_is}
use Rattle.paired_code.proofs.Marks.{branch_parts, kept_view}
use Rattle.paired_code.proofs.piece.branch_if.Goals as goal

pub put_spans-requires : goal.put_spans-requires
put_spans-requires c = room_at _ _ _ _ _ refl c.deref.ensures.value (branch_room c.args.flag (2 ^ 63)
    (symbols_in c.yes.inside.cells) (symbols_in c.no.inside.cells) (symbols_in c.in_ok-cells.cells)
    c.yes.inside.marks.items
    c.no.inside.marks.items c.in_ok-cells.ensures
    (omega (arith, c.len-size.ensures.few))
    c.yes.invariant.within c.no.invariant.within).0

pub put_spans-requires-2 : goal.put_spans-requires-2
put_spans-requires-2 c = room_at _ _ _ _ _ (ap (λ n. 5 + n) c.len-no_size.ensures.count)
    c.deref-2.ensures.value (branch_room c.args.flag (2 ^ 63)
    (symbols_in c.yes.inside.cells) (symbols_in c.no.inside.cells) (symbols_in c.in_ok-cells.cells)
    c.yes.inside.marks.items
    c.no.inside.marks.items c.in_ok-cells.ensures
    (omega (arith, c.len-size.ensures.few))
    c.yes.invariant.within c.no.invariant.within).1

pub sealed-requires-clause-fit : goal.sealed-requires-clause-fit
sealed-requires-clause-fit c = subst AllSymbolsFit (sym c.in_ok-cells.ensures)
    (fit_branch _ _ _ c.requires c.yes.invariant.fit c.no.invariant.fit)

pub sealed-requires-clause-within : goal.sealed-requires-clause-within
sealed-requires-clause-within c = branch_within _ _ _ _ _ _ _ c.in_ok-cells.ensures
    (two_marks _ _ _ _ _ _ _ _ _ _ c.new-marks.ensures.items c.in_ok-put_spans.ensures c.deref.ensures.value
    c.in_ok-put_spans-2.ensures c.deref-2.ensures.value
    (ap (λ n. 5 + n) c.len-no_size.ensures.count))
    c.yes.invariant.within c.no.invariant.within

pub returns-clause-code : goal.returns-clause-code
returns-clause-code c = c.sealed.ensures
    ∙ code_is _ _ _ _ c.in_ok-cells.ensures
    (two_marks _ _ _ _ _ _ _ _ _ _ c.new-marks.ensures.items c.in_ok-put_spans.ensures c.deref.ensures.value
    c.in_ok-put_spans-2.ensures c.deref-2.ensures.value
    (ap (λ n. 5 + n) c.len-no_size.ensures.count))
    ∙ ap (λ (z : Code). branch_code c.args.flag z (record {
      cells = symbols_in c.no.inside.cells;
      marks = c.no.inside.marks.items;
    })) c.yes.view_is
    ∙ ap (λ (z : Code). branch_code c.args.flag c.args.yes z) c.no.view_is

pub returns-clause-law : goal.returns-clause-law
returns-clause-law c = subst (λ (p : Code). BranchLaw c.args.flag c.args.yes.cells c.args.no.cells p.cells)
    (sym (returns-clause-code c)) (branch_law c.args.flag c.args.yes.cells c.args.no.cells)

pub returns-clause-marks : goal.returns-clause-marks
returns-clause-marks c = subst (λ (p : Code). parts p ≡ parts c.args.no ++ parts c.args.yes)
    (sym (returns-clause-code c))
    (branch_parts c.args.flag c.args.yes c.args.no (kept_view c.args.yes c.yes.view_is c.yes.invariant)
    (kept_view c.args.no c.no.view_is c.no.invariant))
