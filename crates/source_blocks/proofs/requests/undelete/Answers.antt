use Rattle.std.proofs.Common.{refl}
use Rattle.source_steps.specs.rpp_tree.Views.{creation_of, lvalue_of}
use Rattle.source_steps.specs.meaning_machine.Reversed.{undeleted}
use Rattle.source_steps.specs.Metered.{metered}
use Rattle.source_steps.specs.StateView.{setting_of}
use Rattle.source_blocks.proofs.Scoped.{as_it_was, framed_in, changed_gives, sound_after}
use Rattle.source_blocks.proofs.requests.undelete.Goals as goal

pub undeleted-requires : goal.undeleted-requires
undeleted-requires c = record {
  framed = framed_in c.args.run.now c.scope_of-scope.result c.scope_of-scope.ensures c.requires.sound;
}

pub returns-clause-gives : goal.returns-clause-gives
returns-clause-gives c =
    changed_gives c.args.run.now c.scope_of-scope.result c.scope_of-scope.ensures
    (record c.args.run.now { heap = c.undeleted.new.heap; values = c.undeleted.new.values }) refl c.undeleted.result
    c.undeleted.new.fuel (λ st. metered c.args.fuel.now (undeleted (setting_of c.args.run.now.setting)
    (creation_of c.args.made.now) (lvalue_of c.args.place.now) st)) c.undeleted.ensures.ends

pub returns-clause-sound : goal.returns-clause-sound
returns-clause-sound c =
    sound_after c.args.run.now c.scope_of-scope.result c.scope_of-scope.ensures
    (record c.args.run.now { heap = c.undeleted.new.heap; values = c.undeleted.new.values }) refl c.undeleted.result
    c.requires.sound c.undeleted.ensures.framed

pub returns-clause-stays : goal.returns-clause-stays
returns-clause-stays c =
    as_it_was c.undeleted.result c.args.run.now
    (record c.args.run.now { heap = c.undeleted.new.heap; values = c.undeleted.new.values }) refl
    c.undeleted.ensures.stays
