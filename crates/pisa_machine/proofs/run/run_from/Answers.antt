use Rattle.std.proofs.Common.{rules, ◌≡◌, ◌∙◌, sym, ap, refl, ◌+◌, ◌-◌, ◌<◌, arith, Some, IsSome, w64, SFits}
use Rattle.std.proofs.lemmas.Int.{to_z-of_z}
use Rattle.pisa_isa.specs.Machine.{core_state, stop, fetch}
use Rattle.pisa_isa.specs.Runs.{stop_at_bound}
use Rattle.pisa_machine.proofs.Legs.{end_of, more, ran, ran_to_stop}
use Rattle.pisa_machine.proofs.run.run_from.Goals as goal

pub returns-in-Some-clause-runs : goal.returns-in-Some-clause-runs
returns-in-Some-clause-runs g c =
    let first = core_state c.args.core.now (g.C.Cells.words c.args.cells.now) in
    let here = core_state c.loop-made.core (g.C.Cells.words c.loop-made.cells) in
    let there = core_state c.run_leg-leg.new.core (g.C.Cells.words c.run_leg-leg.new.cells) in
    let leg = c.run_leg-leg.ensures in
    let reaches = more c.args.code.now c.loop-made.made c.run_leg-leg.result.made first here there
    c.loop-made.invariant.reaches leg.makes in
    let some : IsSome c.run_leg-leg.result.stop = rw c.in-Some.is refl in
    let is : stop c.args.code.now there ≡ Some c.in-Some.stop = sym (leg.stops some) ∙ c.in-Some.is in
    let less : c.run_leg-leg.result.made < c.args.bound - c.loop-made.made = leg.before some in
    let within : c.loop-made.made + c.run_leg-leg.result.made < c.args.bound = omega (arith, less) in
    ran_to_stop c.args.code.now c.args.bound (c.loop-made.made + c.run_leg-leg.result.made) first there c.in-Some.stop
    reaches within is
    ∙ ap (λ n. end_of c.in-Some.stop (c.loop-made.made + c.run_leg-leg.result.made + n) there)
    (sym c.steps_of.ensures.value)

pub loop-made-preserved : goal.loop-made-preserved
loop-made-preserved g c =
    let first = core_state c.args.core.now (g.C.Cells.words c.args.cells.now) in
    let here = core_state c.loop-made.core (g.C.Cells.words c.loop-made.cells) in
    let there = core_state c.run_leg-leg.new.core (g.C.Cells.words c.run_leg-leg.new.cells) in
    record {
      reaches = more c.args.code.now c.loop-made.made c.run_leg-leg.result.made first here there
          c.loop-made.invariant.reaches c.run_leg-leg.ensures.makes;
      counter = grind (arith, c.run_leg-leg.ensures.counter, c.loop-made.invariant.counter);
      within = grind (arith, c.run_leg-leg.ensures.within, c.loop-made.invariant.within);
    }

pub returns-clause-runs : goal.returns-clause-runs
returns-clause-runs g c =
    let first = core_state c.args.core.now (g.C.Cells.words c.args.cells.now) in
    let here = core_state c.loop-made.core (g.C.Cells.words c.loop-made.cells) in
    let fits : SFits w64 c.loop-made.core.pc = search rules in
    let is : c.stop_at_bound.result ≡ stop_at_bound (fetch c.args.code.now c.loop-made.core.pc) c.loop-made.core.pc =
    c.stop_at_bound.ensures ∙ ap (λ pc. stop_at_bound (fetch c.args.code.now pc) pc)
    (to_z-of_z w64 c.loop-made.core.pc fits) in
    ran c.args.code.now c.args.bound c.loop-made.made first here c.stop_at_bound.result c.loop-made.invariant.reaches
    (omega (arith, c.loop-made.invariant.within, c.loop-made-test.false)) is
