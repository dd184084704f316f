use Rattle.std.proofs.Common.{ap₂, refl, subst}
use Rattle.source_steps.specs.rpp_tree.Tree.{New, Whole, Object as AnObject}
use Rattle.source_steps.specs.rpp_tree.Views.{lvalue_with}
use Rattle.source_steps.specs.Ends.{EndsAs, does_simply}
use Rattle.source_steps.specs.StateView.{state_of}
use Rattle.source_blocks.proofs.Scoped.{as_it_was, framed_in, changed_gives, sound_after}
use Rattle.source_blocks.proofs.simple.make.Goals as goal

pub new_object-requires : goal.new_object-requires
new_object-requires c = record {
  framed = framed_in c.args.run.now c.scope_of-scope.result c.scope_of-scope.ensures c.requires.sound;
}

pub returns-in-Ok-clause-gives : goal.returns-in-Ok-clause-gives
returns-in-Ok-clause-gives c =
    changed_gives c.args.run.now c.scope_of-scope.result c.scope_of-scope.ensures
    (record c.args.run.now { heap = c.new_object.new.heap; values = c.new_object.new.values }) refl c.new_object.result
    c.new_object.new.fuel (λ st. does_simply c.args.run.now.setting c.args.fuel.now
    (New c.args.at (AnObject c.args.class.now) (Whole c.args.name.now)) st)
    (subst (λ l. EndsAs c.args.run.now.setting c.scope_of-scope.result c.new_object.result c.new_object.new.heap
    c.new_object.new.values.items c.new_object.new.fuel (does_simply c.args.run.now.setting c.args.fuel.now
    (New c.args.at (AnObject c.args.class.now) l) (state_of c.args.run.now.setting c.scope_of-scope.result
    c.args.run.now.heap
    c.args.run.now.values.items))) (ap₂ lvalue_with c.in-Ok.ensures.0 c.in-Ok.ensures.1) c.new_object.ensures.ends)

pub returns-in-Ok-clause-sound : goal.returns-in-Ok-clause-sound
returns-in-Ok-clause-sound c =
    sound_after c.args.run.now c.scope_of-scope.result c.scope_of-scope.ensures
    (record c.args.run.now { heap = c.new_object.new.heap; values = c.new_object.new.values }) refl c.new_object.result
    c.requires.sound
    c.new_object.ensures.framed

pub returns-in-Ok-clause-stays : goal.returns-in-Ok-clause-stays
returns-in-Ok-clause-stays c =
    as_it_was c.new_object.result c.args.run.now
    (record c.args.run.now { heap = c.new_object.new.heap; values = c.new_object.new.values }) refl
    c.new_object.ensures.stays
