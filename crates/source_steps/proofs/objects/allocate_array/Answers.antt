use Rattle.std.proofs.Common.{◌≡◌, ◌∙◌, sym, ap, subst, length, replicate}
use Rattle.std.proofs.lemmas.List.{length-map, length-replicate}
use Rattle.source_store.specs.roopl_semantics.Execution.{allocated}
use Rattle.source_store.specs.ValueView.{value_of, values_of, kept_head}
use Rattle.source_steps.specs.CellView.{cell_view}
use Rattle.source_steps.specs.Metered.{MeteredGives, metered}
use Rattle.source_steps.specs.StateView.{state_of, setting_of}
use Rattle.source_steps.specs.Ends.{array_head, first_element}
use Rattle.source_steps.proofs.Tables.{values_replicate}
use Rattle.source_steps.proofs.objects.allocate_array.Goals as goal

pub returns-clause-ends : goal.returns-clause-ends
returns-clause-ends c =
    let st = state_of c.args.setting.now c.args.scope.now c.args.heap.now c.args.values.now.items in
    let setting = setting_of c.args.setting.now in
    let items = c.in_ok-cells.cells.items in
    let equal : values_of items ≡ replicate c.args.count (first_element c.args.kind) =
    ap values_of c.in_ok-cells.ensures ∙ values_replicate c.args.count c.element_of.result
    ∙ ap (replicate c.args.count) c.element_of.ensures in
    let many : length items ≡ c.args.count = sym (length-map items value_of) ∙ ap length equal
    ∙ length-replicate c.args.count (first_element c.args.kind) in
    subst (λ m. MeteredGives (λ (u : Unit {0}). state_of c.args.setting.now c.args.scope.now c.allocate.new.heap
    c.allocate.new.values.items) c.allocate.result c.allocate.new.fuel m)
    (ap (λ n. metered c.args.fuel.now (allocated setting n (cell_view c.args.cell) (kept_head c.head_of_array.result)
    (values_of items) st)) many
    ∙ ap (λ h. metered c.args.fuel.now (allocated setting c.args.count (cell_view c.args.cell) h (values_of items) st))
    c.head_of_array.ensures
    ∙ ap (λ vs. metered c.args.fuel.now (allocated setting c.args.count (cell_view c.args.cell)
    (array_head c.args.kind c.args.count) vs st)) equal)
    c.allocate.ensures.ends
