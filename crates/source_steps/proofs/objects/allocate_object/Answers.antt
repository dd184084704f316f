use Rattle.std.proofs.Common.{◌∙◌, sym, ap, subst, length}
use Rattle.std.proofs.lemmas.List.{length-map}
use Rattle.source_store.specs.class_rules.Classes.{class_fields}
use Rattle.source_store.specs.roopl_semantics.Store.{OfClass, zero_values}
use Rattle.source_store.specs.roopl_semantics.Execution.{allocated}
use Rattle.source_store.specs.ValueView.{value_of, values_of}
use Rattle.source_steps.specs.CellView.{cell_view}
use Rattle.source_steps.specs.Metered.{MeteredGives, metered}
use Rattle.source_steps.specs.StateView.{state_of, setting_of}
use Rattle.source_steps.proofs.objects.allocate_object.Goals as goal

pub returns-clause-ends : goal.returns-clause-ends
returns-clause-ends c =
    let st = state_of c.args.setting.now c.args.scope.now c.args.heap.now c.args.values.now.items in
    let setting = setting_of c.args.setting.now in
    let items = c.in_ok-cells.cells.items in
    subst (λ m. MeteredGives (λ (u : Unit {0}). state_of c.args.setting.now c.args.scope.now c.allocate.new.heap
    c.allocate.new.values.items) c.allocate.result c.allocate.new.fuel m)
    (ap (λ n. metered c.args.fuel.now (allocated setting n (cell_view c.args.cell) (OfClass c.class_of_name-number.result)
    (values_of items) st)) (sym (length-map items value_of))
    ∙ ap (λ vs. metered c.args.fuel.now (allocated setting (length vs) (cell_view c.args.cell)
    (OfClass c.class_of_name-number.result) vs st)) (c.in_ok-cells.ensures
    ∙ ap (λ fs. zero_values fs) c.fields_of.ensures.fields)
    ∙ ap (λ k. metered c.args.fuel.now (allocated setting (length (zero_values (class_fields setting.program k)))
    (cell_view c.args.cell) (OfClass k) (zero_values (class_fields setting.program k)) st))
    c.class_of_name-number.ensures)
    c.allocate.ensures.ends
