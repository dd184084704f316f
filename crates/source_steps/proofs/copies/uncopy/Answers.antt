use Rattle.std.proofs.Common.{sym, subst, rules, ◌++◌}
use Rattle.class_table.specs.rpp_tree.Views.{lvalue_of}
use Rattle.source_store.specs.roopl_semantics.Elements.{own_element, index_elements, kept_apart}
use Rattle.source_steps.specs.Metered.{MeteredGives}
use Rattle.source_steps.specs.StateView.{state_of, setting_of}
use Rattle.source_steps.specs.Ends.{uncopied}
use Rattle.source_steps.proofs.Fuelled.{handed}
use Rattle.source_steps.proofs.LocalRuns.{target_fails, check_fails, pair_goes}
use Rattle.source_steps.proofs.copies.uncopy.Goals as goal

pub returns-in_err-b-clause-ends : goal.returns-in_err-b-clause-ends
returns-in_err-b-clause-ends c =
    let st = state_of c.args.setting.now c.args.scope.now c.args.heap.now c.args.values.now.items in
    let source = lvalue_of c.args.source.now in
    let target = lvalue_of c.args.target.now in
    let program = (setting_of c.args.setting.now).program in
    let check = kept_apart program (own_element target) (index_elements source ++ index_elements target) st in
    handed _ c.in_err-b.field-0.0 _ _ _ (search rules)
    (target_fails program source target st check (λ a b. uncopied a b st) c.args.fuel.now _ _ c.in_ok-a.ensures.gives _
    c.in_err-b.field-0.0 c.in_err-b.ensures.gives)

pub returns-in_err-copy_apart-clause-ends : goal.returns-in_err-copy_apart-clause-ends
returns-in_err-copy_apart-clause-ends c =
    let st = state_of c.args.setting.now c.args.scope.now c.args.heap.now c.args.values.now.items in
    let source = lvalue_of c.args.source.now in
    let target = lvalue_of c.args.target.now in
    let program = (setting_of c.args.setting.now).program in
    let check = kept_apart program (own_element target) (index_elements source ++ index_elements target) st in
    handed _ c.in_err-copy_apart.field-0.0 _ _ _ (search rules)
    (check_fails program source target st check (λ a b. uncopied a b st) c.args.fuel.now _ _ c.in_ok-a.ensures.gives _ _
    c.in_ok-b.ensures.gives _ c.in_err-copy_apart.field-0.0 c.in_err-copy_apart.ensures.gives)

pub returns-clause-ends : goal.returns-clause-ends
returns-clause-ends c =
    let st = state_of c.args.setting.now c.args.scope.now c.args.heap.now c.args.values.now.items in
    let source = lvalue_of c.args.source.now in
    let target = lvalue_of c.args.target.now in
    let program = (setting_of c.args.setting.now).program in
    let check = kept_apart program (own_element target) (index_elements source ++ index_elements target) st in
    subst (λ m. MeteredGives (λ (u : Unit {0}). state_of c.args.setting.now c.args.scope.now c.take_back.new.heap
    c.take_back.new.values.items) c.take_back.result c.take_back.new.fuel m)
    (sym (pair_goes program source target st check (λ a b. uncopied a b st) c.args.fuel.now _ _ c.in_ok-a.ensures.gives
    _ _ c.in_ok-b.ensures.gives _ c.in_ok-copy_apart.ensures.gives))
    c.take_back.ensures.ends
