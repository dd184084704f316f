use Rattle.std.proofs.Common.{sym, subst}
use Rattle.class_table.specs.rpp_tree.Views.{expression_of, lvalue_of}
use Rattle.source_steps.specs.Metered.{MeteredGives}
use Rattle.source_steps.specs.StateView.{state_of, setting_of}
use Rattle.source_steps.specs.Ends.{array_head, first_element, made_array}
use Rattle.source_steps.proofs.LocalRuns.{sized_goes}
use Rattle.source_steps.proofs.objects.new_array.Goals as goal

pub returns-clause-ends : goal.returns-clause-ends
returns-clause-ends c =
    let st = state_of c.args.setting.now c.args.scope.now c.args.heap.now c.args.values.now.items in
    subst (λ m. MeteredGives (λ (u : Unit {0}). state_of c.args.setting.now c.args.scope.now c.make_array.new.heap
    c.make_array.new.values.items) c.make_array.result c.make_array.new.fuel m)
    (sym (sized_goes (setting_of c.args.setting.now).program (lvalue_of c.args.place.now)
    (expression_of c.args.size.now) st c.args.fuel.now _ _ _ _
    (λ cell v. made_array (setting_of c.args.setting.now) cell (array_head c.args.kind)
    (first_element c.args.kind) v st) c.in_ok-cell.ensures.gives c.in_ok-value.ensures.gives))
    c.make_array.ensures.ends
