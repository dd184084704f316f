use Rattle.std.proofs.Common.{ap₂, refl, subst}
use Rattle.source_steps.specs.rpp_tree.Tree.{Swap, Whole}
use Rattle.source_steps.specs.rpp_tree.Views.{lvalue_of, lvalue_with}
use Rattle.source_steps.specs.roopl_semantics.Execution.{element_name}
use Rattle.source_steps.specs.Ends.{EndsAs, does_simply}
use Rattle.source_steps.specs.StateView.{state_of}
use Rattle.source_blocks.proofs.Scoped.{as_it_was, framed_in, changed_gives, sound_after}
use Rattle.source_blocks.specs.Tasks.{exchange}
use Rattle.source_blocks.proofs.Stopping.{own_so}
use Rattle.source_blocks.proofs.simple.hold.Goals as goal

pub swap-requires : goal.swap-requires
swap-requires c = framed_in c.args.run.now c.scope_of-scope.result c.scope_of-scope.ensures c.requires.sound

pub returns-in-Ok-clause-gives : goal.returns-in-Ok-clause-gives
returns-in-Ok-clause-gives c =
    changed_gives c.args.run.now c.scope_of-scope.result c.scope_of-scope.ensures
    (record c.args.run.now { heap = c.swap.new.heap; values = c.swap.new.values }) refl c.swap.result
    c.swap.new.fuel (λ st. does_simply c.args.run.now.setting c.args.fuel.now
    (Swap c.args.at (Whole (element_name c.args.at)) (lvalue_of c.args.element.now)) st)
    (subst (λ l. EndsAs c.args.run.now.setting c.scope_of-scope.result c.swap.result c.swap.new.heap
    c.swap.new.values.items c.swap.new.fuel (does_simply c.args.run.now.setting c.args.fuel.now
    (Swap c.args.at l (lvalue_of c.args.element.now)) (state_of c.args.run.now.setting c.scope_of-scope.result
    c.args.run.now.heap
    c.args.run.now.values.items))) (ap₂ lvalue_with c.in-Ok.ensures.0 c.in-Ok.ensures.1) c.swap.ensures.ends)

pub returns-in-Ok-clause-sound : goal.returns-in-Ok-clause-sound
returns-in-Ok-clause-sound c =
    sound_after c.args.run.now c.scope_of-scope.result c.scope_of-scope.ensures
    (record c.args.run.now { heap = c.swap.new.heap; values = c.swap.new.values }) refl c.swap.result c.requires.sound
    c.swap.ensures.framed

pub returns-in-Err-clause-stops : goal.returns-in-Err-clause-stops
returns-in-Err-clause-stops c = λ named. absurd (named refl)

pub returns-in-Ok-clause-stops : goal.returns-in-Ok-clause-stops
returns-in-Ok-clause-stops c = own_so c.swap.result (exchange c.args.at (lvalue_of c.args.element.now))
    c.swap.ensures.own

pub returns-in-Ok-clause-stays : goal.returns-in-Ok-clause-stays
returns-in-Ok-clause-stays c =
    as_it_was c.swap.result c.args.run.now
    (record c.args.run.now { heap = c.swap.new.heap; values = c.swap.new.values }) refl
    c.swap.ensures.stays
