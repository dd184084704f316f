use Rattle.std.proofs.Common.{◌≡◌, ◌∙◌, sym, ap, subst, arith, length}
use Rattle.std.proofs.lemmas.List.{length-map}
use Rattle.std.specs.Prelude.{nat_lt}
use Rattle.source_store.specs.roopl_semantics.Execution.{order_of_cells}
use Rattle.source_store.specs.HeapView.{Took}
use Rattle.source_store.specs.ValueView.{value_of, values_of, kept_head}
use Rattle.source_steps.specs.CellView.{cell_view}
use Rattle.source_steps.proofs.Allocated.{placed_new}
use Rattle.source_steps.proofs.objects.allocate.Goals as goal

pub returns-in-Some-clause-ends : goal.returns-in-Some-clause-ends
returns-in-Some-clause-ends c =
    let l = c.len.ensures in
    let k = c.args.cells.ok.0 in
    let many : c.len.result ≡ length c.args.cells.items = omega arith in
    placed_new c.args.setting.now c.args.scope.now c.args.fuel.now c.in-Some.name (length c.args.cells.items)
    (cell_view c.args.cell) (kept_head c.args.head) (values_of c.args.cells.items) c.args.heap.now c.take.new.self
    c.args.values.now.items _
    (sym (length-map c.args.cells.items value_of))
    (ap (λ o. nat_lt o (order_of_cells (length c.args.cells.items))) (sym c.requires.framed.order)
    ∙ ap (λ n. nat_lt c.args.heap.now.order (order_of_cells n)) (sym many)
    ∙ sym c.is_too_large.ensures ∙ c.if-is_too_large.false)
    c.requires.framed.order
    (subst (λ r. Took r c.args.heap.now c.take.new.self (kept_head c.args.head) (values_of c.args.cells.items))
    c.in-Some.is c.in_ok-take.ensures.took) c.write_cell.ensures.written
