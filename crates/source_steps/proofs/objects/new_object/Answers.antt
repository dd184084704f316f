use Rattle.std.proofs.Common.{sym, subst}
use Rattle.class_table.specs.rpp_tree.Views.{lvalue_of}
use Rattle.source_store.specs.roopl_semantics.Elements.{own_element, index_elements, kept_apart}
use Rattle.source_steps.specs.Metered.{MeteredGives}
use Rattle.source_steps.specs.StateView.{state_of, setting_of}
use Rattle.source_steps.specs.Ends.{object_made}
use Rattle.source_steps.proofs.LocalRuns.{apart_goes}
use Rattle.source_steps.proofs.objects.new_object.Goals as goal

pub returns-clause-ends : goal.returns-clause-ends
returns-clause-ends c =
    let st = state_of c.args.setting.now c.args.scope.now c.args.heap.now c.args.values.now.items in
    let target = lvalue_of c.args.place.now in
    let program = (setting_of c.args.setting.now).program in
    subst (λ m. MeteredGives (λ (u : Unit {0}). state_of c.args.setting.now c.args.scope.now c.make.new.heap
    c.make.new.values.items) c.make.result c.make.new.fuel m)
    (sym (apart_goes program target st c.args.fuel.now _ _ _
    (kept_apart program (own_element target) (index_elements target) st)
    (λ cell. object_made (setting_of c.args.setting.now) c.args.class.now.text cell st) c.in_ok-cell.ensures.gives
    c.in_ok-place_apart.ensures.gives))
    c.make.ensures.ends
