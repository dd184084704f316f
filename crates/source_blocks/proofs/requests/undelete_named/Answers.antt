use Rattle.std.proofs.Common.{ap₂, refl, subst}
use Rattle.source_steps.specs.rpp_tree.Tree.{Whole, Object as AnObject}
use Rattle.source_steps.specs.rpp_tree.Views.{lvalue_with}
use Rattle.source_steps.specs.meaning_machine.Reversed.{undeleted}
use Rattle.source_steps.specs.Ends.{EndsAs}
use Rattle.source_steps.specs.Metered.{metered}
use Rattle.source_steps.specs.StateView.{setting_of, state_of}
use Rattle.source_blocks.proofs.Scoped.{as_it_was, framed_in, changed_gives, sound_after}
use Rattle.source_blocks.proofs.requests.undelete_named.Goals as goal

pub undelete_object-requires : goal.undelete_object-requires
undelete_object-requires c = record {
  framed = framed_in c.args.run.now c.scope_of-scope.result c.scope_of-scope.ensures c.requires.sound;
}

pub returns-in-Ok-clause-gives : goal.returns-in-Ok-clause-gives
returns-in-Ok-clause-gives c =
    changed_gives c.args.run.now c.scope_of-scope.result c.scope_of-scope.ensures
    (record c.args.run.now { heap = c.undelete_object.new.heap; values = c.undelete_object.new.values }) refl
    c.undelete_object.result c.undelete_object.new.fuel
    (λ st. metered c.args.fuel.now (undeleted (setting_of c.args.run.now.setting) (AnObject c.args.class.now)
    (Whole c.args.name.now) st))
    (subst (λ l. EndsAs c.args.run.now.setting c.scope_of-scope.result c.undelete_object.result
    c.undelete_object.new.heap c.undelete_object.new.values.items c.undelete_object.new.fuel
    (metered c.args.fuel.now (undeleted (setting_of c.args.run.now.setting) (AnObject c.args.class.now) l
    (state_of c.args.run.now.setting c.scope_of-scope.result c.args.run.now.heap c.args.run.now.values.items))))
    (ap₂ lvalue_with c.in-Ok.ensures.0 c.in-Ok.ensures.1) c.undelete_object.ensures.ends)

pub returns-in-Ok-clause-sound : goal.returns-in-Ok-clause-sound
returns-in-Ok-clause-sound c =
    sound_after c.args.run.now c.scope_of-scope.result c.scope_of-scope.ensures
    (record c.args.run.now { heap = c.undelete_object.new.heap; values = c.undelete_object.new.values }) refl
    c.undelete_object.result c.requires.sound c.undelete_object.ensures.framed

pub returns-in-Ok-clause-stays : goal.returns-in-Ok-clause-stays
returns-in-Ok-clause-stays c =
    as_it_was c.undelete_object.result c.args.run.now
    (record c.args.run.now { heap = c.undelete_object.new.heap; values = c.undelete_object.new.values }) refl
    c.undelete_object.ensures.stays
