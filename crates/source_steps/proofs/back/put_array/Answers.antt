use Rattle.std.proofs.Common.{◌≡◌, ◌∙◌, ap, subst, replicate}
use Rattle.source_store.specs.meaning_machine.Reversed.{ungiven}
use Rattle.source_store.specs.ValueView.{values_of}
use Rattle.source_steps.specs.CellView.{cell_view}
use Rattle.source_steps.specs.Metered.{MeteredGives, metered}
use Rattle.source_steps.specs.StateView.{state_of}
use Rattle.source_steps.specs.Ends.{array_head, first_element}
use Rattle.source_steps.proofs.Tables.{values_replicate}
use Rattle.source_steps.proofs.back.put_array.Goals as goal

pub returns-clause-ends : goal.returns-clause-ends
returns-clause-ends c =
    let st = state_of c.args.setting.now c.args.scope.now c.args.heap.now c.args.values.now.items in
    let items = c.in_ok-cells.cells.items in
    let count = c.number-count.result in
    let equal : values_of items ≡ replicate count (first_element c.args.kind) =
    ap values_of c.in_ok-cells.ensures ∙ values_replicate count c.element_of.result
    ∙ ap (replicate count) c.element_of.ensures in
    subst (λ m. MeteredGives (λ (u : Unit {0}). state_of c.args.setting.now c.args.scope.now c.ungive.new.heap
    c.ungive.new.values.items) c.ungive.result c.ungive.new.fuel m)
    (ap (λ h. metered c.args.fuel.now (ungiven c.args.heap.now.log (cell_view c.args.cell) h (values_of items) st))
    c.head_of_array.ensures
    ∙ ap (λ vs. metered c.args.fuel.now (ungiven c.args.heap.now.log (cell_view c.args.cell)
    (array_head c.args.kind count) vs st)) equal
    ∙ ap (λ n. metered c.args.fuel.now (ungiven c.args.heap.now.log (cell_view c.args.cell)
    (array_head c.args.kind n) (replicate n (first_element c.args.kind)) st)) c.number-count.ensures)
    c.ungive.ensures.ends
