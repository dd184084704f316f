use Rattle.std.proofs.Common.{◌∙◌, ap, sym, subst, refl, arith, ◌≡◌, ◌+◌, ◌^◌, ◌++◌}
use Rattle.paired_code.specs.Laws.{WhileLaw}
use Rattle.paired_code.specs.Fit.{AllSymbolsFit}
use Rattle.paired_code.specs.Stored.{symbols_in}
use Rattle.paired_code.specs.Code.{Code, loop_code, parts}
use Rattle.paired_code.proofs.MoreLaws.{while_law}
use Rattle.paired_code.proofs.Fits.{fit_loop, loop_within, loop_room, room_at, two_marks, code_is}
use Rattle.paired_code.proofs.Marks.{loop_parts, kept_view}
use Rattle.paired_code.proofs.piece.turn_while.Goals as goal

pub put_spans-requires : goal.put_spans-requires
put_spans-requires c = room_at _ _ _ _ _ refl c.deref.ensures.value (loop_room c.args.flag (2 ^ 63)
    (symbols_in c.head.inside.cells) (symbols_in c.tail.inside.cells) (symbols_in c.in_ok-cells.cells)
    c.head.inside.marks.items
    c.tail.inside.marks.items c.in_ok-cells.ensures
    (omega (arith, c.len-size.ensures.few))
    c.head.invariant.within c.tail.invariant.within).0

pub put_spans-requires-2 : goal.put_spans-requires-2
put_spans-requires-2 c = room_at _ _ _ _ _ (ap (λ n. 5 + n) c.len-tail_size.ensures.count)
    c.deref-2.ensures.value (loop_room c.args.flag (2 ^ 63)
    (symbols_in c.head.inside.cells) (symbols_in c.tail.inside.cells) (symbols_in c.in_ok-cells.cells)
    c.head.inside.marks.items
    c.tail.inside.marks.items c.in_ok-cells.ensures
    (omega (arith, c.len-size.ensures.few))
    c.head.invariant.within c.tail.invariant.within).1

pub sealed-requires-clause-fit : goal.sealed-requires-clause-fit
sealed-requires-clause-fit c = subst AllSymbolsFit (sym c.in_ok-cells.ensures)
    (fit_loop _ _ _ c.requires c.head.invariant.fit c.tail.invariant.fit)

pub sealed-requires-clause-within : goal.sealed-requires-clause-within
sealed-requires-clause-within c = loop_within _ _ _ _ _ _ _ c.in_ok-cells.ensures
    (two_marks _ _ _ _ _ _ _ _ _ _ c.new-marks.ensures.items c.in_ok-put_spans.ensures c.deref.ensures.value
    c.in_ok-put_spans-2.ensures c.deref-2.ensures.value
    (ap (λ n. 5 + n) c.len-tail_size.ensures.count))
    c.head.invariant.within c.tail.invariant.within

pub returns-clause-code : goal.returns-clause-code
returns-clause-code c = c.sealed.ensures
    ∙ code_is _ _ _ _ c.in_ok-cells.ensures
    (two_marks _ _ _ _ _ _ _ _ _ _ c.new-marks.ensures.items c.in_ok-put_spans.ensures c.deref.ensures.value
    c.in_ok-put_spans-2.ensures c.deref-2.ensures.value
    (ap (λ n. 5 + n) c.len-tail_size.ensures.count))
    ∙ ap (λ (z : Code). loop_code c.args.flag z (record {
      cells = symbols_in c.tail.inside.cells;
      marks = c.tail.inside.marks.items;
    })) c.head.view_is
    ∙ ap (λ (z : Code). loop_code c.args.flag c.args.head z) c.tail.view_is

pub returns-clause-law : goal.returns-clause-law
returns-clause-law c = subst (λ (p : Code). WhileLaw c.args.flag c.args.head.cells c.args.tail.cells p.cells)
    (sym (returns-clause-code c)) (while_law c.args.flag c.args.head.cells c.args.tail.cells)

pub returns-clause-marks : goal.returns-clause-marks
returns-clause-marks c = subst (λ (p : Code). parts p ≡ parts c.args.tail ++ parts c.args.head)
    (sym (returns-clause-code c))
    (loop_parts c.args.flag c.args.head c.args.tail (kept_view c.args.head c.head.view_is c.head.invariant)
    (kept_view c.args.tail c.tail.view_is c.tail.invariant))
