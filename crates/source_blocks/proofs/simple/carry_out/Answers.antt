use Rattle.std.proofs.Common.{Bool, refl, sym, subst}
use Rattle.std.specs.Prelude.{IfErr}
use Rattle.source_steps.specs.rpp_tree.Views.{statement_of}
use Rattle.source_steps.specs.Ends.{EndsAs, does_simply, turned}
use Rattle.source_steps.specs.StateView.{state_of}
use Rattle.source_blocks.specs.Stops.{MayStop}
use Rattle.source_blocks.proofs.TurnedKinds.{simple_before}
use Rattle.source_blocks.proofs.Scoped.{as_it_was, framed_in, changed_gives, sound_after}
use Rattle.source_blocks.proofs.simple.carry_out.Goals as goal

pub undo_statement-requires-clause-framed : goal.undo_statement-requires-clause-framed
undo_statement-requires-clause-framed c =
    framed_in c.args.run.now c.scope_of-scope.result c.scope_of-scope.ensures c.requires.sound

pub returns-then-back-clause-gives : goal.returns-then-back-clause-gives
returns-then-back-clause-gives c =
    changed_gives c.args.run.now c.scope_of-scope.result c.scope_of-scope.ensures
    (record c.args.run.now { heap = c.undo_statement.new.heap; values = c.undo_statement.new.values }) refl
    c.undo_statement.result
    c.undo_statement.new.fuel
    (λ st. does_simply c.args.run.now.setting c.args.fuel.now (turned c.args.back (statement_of c.args.s.now)) st)
    (subst (λ (b : Bool). EndsAs c.args.run.now.setting c.scope_of-scope.result c.undo_statement.result
    c.undo_statement.new.heap
    c.undo_statement.new.values.items c.undo_statement.new.fuel (does_simply c.args.run.now.setting c.args.fuel.now
    (turned b (statement_of c.args.s.now)) (state_of c.args.run.now.setting c.scope_of-scope.result
    c.args.run.now.heap c.args.run.now.values.items))) (sym c.if-back.true) c.undo_statement.ensures.ends)

pub returns-then-back-clause-sound : goal.returns-then-back-clause-sound
returns-then-back-clause-sound c =
    sound_after c.args.run.now c.scope_of-scope.result c.scope_of-scope.ensures
    (record c.args.run.now { heap = c.undo_statement.new.heap; values = c.undo_statement.new.values }) refl
    c.undo_statement.result
    c.requires.sound c.undo_statement.ensures.framed

pub do_statement-requires-clause-framed : goal.do_statement-requires-clause-framed
do_statement-requires-clause-framed c =
    framed_in c.args.run.now c.scope_of-scope.result c.scope_of-scope.ensures c.requires.sound

pub returns-clause-gives : goal.returns-clause-gives
returns-clause-gives c =
    changed_gives c.args.run.now c.scope_of-scope.result c.scope_of-scope.ensures
    (record c.args.run.now { heap = c.do_statement.new.heap; values = c.do_statement.new.values }) refl
    c.do_statement.result
    c.do_statement.new.fuel
    (λ st. does_simply c.args.run.now.setting c.args.fuel.now (turned c.args.back (statement_of c.args.s.now)) st)
    (subst (λ (b : Bool). EndsAs c.args.run.now.setting c.scope_of-scope.result c.do_statement.result
    c.do_statement.new.heap
    c.do_statement.new.values.items c.do_statement.new.fuel (does_simply c.args.run.now.setting c.args.fuel.now
    (turned b (statement_of c.args.s.now)) (state_of c.args.run.now.setting c.scope_of-scope.result
    c.args.run.now.heap c.args.run.now.values.items))) (sym c.if-back.false) c.do_statement.ensures.ends)

pub returns-clause-sound : goal.returns-clause-sound
returns-clause-sound c =
    sound_after c.args.run.now c.scope_of-scope.result c.scope_of-scope.ensures
    (record c.args.run.now { heap = c.do_statement.new.heap; values = c.do_statement.new.values }) refl
    c.do_statement.result
    c.requires.sound c.do_statement.ensures.framed

pub undo_statement-requires-clause-simple : goal.undo_statement-requires-clause-simple
undo_statement-requires-clause-simple c = simple_before c.args.back (statement_of c.args.s.now) c.requires.simple

pub do_statement-requires-clause-simple : goal.do_statement-requires-clause-simple
do_statement-requires-clause-simple c = simple_before c.args.back (statement_of c.args.s.now) c.requires.simple

pub returns-then-back-clause-stops : goal.returns-then-back-clause-stops
returns-then-back-clause-stops c =
    subst (λ (b : Bool). IfErr c.undo_statement.result (λ why. MayStop (turned b (statement_of c.args.s.now)) why))
    (sym c.if-back.true) c.undo_statement.ensures.stops

pub returns-clause-stops : goal.returns-clause-stops
returns-clause-stops c =
    subst (λ (b : Bool). IfErr c.do_statement.result (λ why. MayStop (turned b (statement_of c.args.s.now)) why))
    (sym c.if-back.false) c.do_statement.ensures.stops

pub returns-then-back-clause-stays : goal.returns-then-back-clause-stays
returns-then-back-clause-stays c =
    as_it_was c.undo_statement.result c.args.run.now
    (record c.args.run.now { heap = c.undo_statement.new.heap; values = c.undo_statement.new.values }) refl
    c.undo_statement.ensures.stays

pub returns-clause-stays : goal.returns-clause-stays
returns-clause-stays c =
    as_it_was c.do_statement.result c.args.run.now
    (record c.args.run.now { heap = c.do_statement.new.heap; values = c.do_statement.new.values }) refl
    c.do_statement.ensures.stays
