use Rattle.std.proofs.Common.{◌∙◌, subst, arith}
use Rattle.pisa_cluster.specs.declared.cluster.Moved.{Moved}
use Rattle.pisa_cluster.specs.Schedules.{ProcessorMoves}
use Rattle.cluster_commands.proofs.StepsOn.{LeadsOn, one_more, stopped_at, all_made, next_serial_after}
use Rattle.cluster_commands.proofs.following.make_steps.Goals as goal

pub returns-in-Stopped-clause-makes : goal.returns-in-Stopped-clause-makes
returns-in-Stopped-clause-makes c =
    stopped_at c.args.who c.args.count c.loop-made.made c.in-Stopped.why c.args.cluster.now c.loop-made.cluster
    c.step.new.self c.loop-made-test.true
    (subst (λ (answer : Moved). ProcessorMoves c.args.who answer c.loop-made.cluster c.step.new.self) c.in-Stopped.is
    c.in_ok-_serial.ensures.answer) c.loop-made.invariant.leads

pub loop-made-preserved : goal.loop-made-preserved
loop-made-preserved c =
    let moves = subst (λ (answer : Moved). ProcessorMoves c.args.who answer c.loop-made.cluster c.step.new.self)
    c.in-Made.is
    c.in_ok-_serial.ensures.answer in
    let next = next_serial_after c.args.who c.in-Made._serial c.loop-made.cluster c.step.new.self moves in
    let so_far = c.loop-made.invariant.serial in
    record {
      leads = one_more c.args.who c.args.count c.loop-made.made c.in-Made._serial c.args.cluster.now c.loop-made.cluster
          c.step.new.self c.loop-made-test.true moves c.loop-made.invariant.leads;
      serial = omega (arith, next, so_far);
      processors = c.in_ok-_serial.ensures.processors ∙ c.loop-made.invariant.processors;
      cells = c.in_ok-_serial.ensures.cells ∙ c.loop-made.invariant.cells;
    }

pub returns-clause-makes : goal.returns-clause-makes
returns-clause-makes c =
    let low = c.loop-made-test.false in
    let high = c.loop-made.auto.made-end in
    all_made c.args.who c.args.count c.args.cluster.now c.loop-made.cluster
    (subst (λ n. LeadsOn c.args.who c.args.count n c.args.cluster.now c.loop-made.cluster) (omega (arith, low, high))
    c.loop-made.invariant.leads)
