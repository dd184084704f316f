use Rattle.std.proofs.Common.{sym, subst, ◌++◌}
use Rattle.class_table.specs.rpp_tree.Views.{lvalue_of}
use Rattle.source_store.specs.roopl_semantics.Elements.{own_element, index_elements, kept_apart}
use Rattle.source_steps.specs.Metered.{MeteredGives}
use Rattle.source_steps.specs.StateView.{state_of, setting_of}
use Rattle.source_steps.specs.Ends.{copied}
use Rattle.source_steps.proofs.LocalRuns.{pair_goes}
use Rattle.source_steps.proofs.copies.copy.Goals as goal

pub returns-clause-ends : goal.returns-clause-ends
returns-clause-ends c =
    let st = state_of c.args.setting.now c.args.scope.now c.args.heap.now c.args.values.now.items in
    let source = lvalue_of c.args.source.now in
    let target = lvalue_of c.args.target.now in
    let program = (setting_of c.args.setting.now).program in
    let check = kept_apart program (own_element target) (index_elements source ++ index_elements target) st in
    subst (λ m. MeteredGives (λ (u : Unit {0}). state_of c.args.setting.now c.args.scope.now c.refer.new.heap
    c.refer.new.values.items) c.refer.result c.refer.new.fuel m)
    (sym (pair_goes program source target st check (λ a b. copied a b st) c.args.fuel.now _ _ c.in_ok-a.ensures.gives _
    _ c.in_ok-b.ensures.gives _ c.in_ok-copy_apart.ensures.gives))
    c.refer.ensures.ends
