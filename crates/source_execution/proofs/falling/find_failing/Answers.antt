use Rattle.std.proofs.Common.{sym, subst}
use Rattle.source_statements.specs.rpp_tree.Views.{source_of}
use Rattle.source_checks.specs.meaning_machine.Machine.{next}
use Rattle.source_checks.specs.source_steps.declared.stop.Stop.{Stop}
use Rattle.source_checks.specs.source_steps.Metered.{metered, Failed, IsFault}
use Rattle.source_execution.specs.Standing.{config_at, setting_at}
use Rattle.source_execution.proofs.Leading.{one_further, fails_there, never_falls}
use Rattle.source_execution.proofs.falling.find_failing.Goals as goal

pub loop-execution-preserved : goal.loop-execution-preserved
loop-execution-preserved c = (
  one_further (source_of c.args.checked.now) c.args.limits c.args.input.now.words.items c.loop-execution.steps
      c.in_ok-steps-in-Ok.steps c.loop-execution.execution c.step.new.self c.loop-execution.fuel c.step.new.fuel
      c.loop-execution.invariant.0 c.in-Ok.ensures.gives c.in-Ok.ensures.setting c.in-Ok.ensures.whole
      c.in_ok-steps-in-Ok.ensures.more,
  c.in_ok-steps-in-Ok.ensures.few,
)

pub returns-in-Err-Fault : goal.returns-in-Err-Fault
returns-in-Err-Fault c =
    let there = c.in-Err-Fault.ensures.stays (subst IsFault (sym c.in-Err-Fault.field-0-is) tt) in
    record {
      found = fails_there (source_of c.args.checked.now) c.args.limits c.args.input.now.words.items
          c.loop-execution.steps c.loop-execution.execution c.step.new.self c.in-Err-Fault.code c.loop-execution.fuel
          c.step.new.fuel c.loop-execution.invariant.0 c.loop-execution.invariant.1
          (subst (λ (why : Stop). Failed why c.step.new.fuel (metered c.loop-execution.fuel
          (next (setting_at c.loop-execution.execution) (config_at c.loop-execution.execution))))
          c.in-Err-Fault.field-0-is c.in-Err-Fault.ensures.gives)
          there.0 c.step.ensures.setting there.1;
    }

pub returns : goal.returns
returns c = record {
  found = never_falls (source_of c.args.checked.now) c.args.limits c.args.input.now.words.items
      c.loop-execution.steps c.loop-execution.execution c.loop-execution.fuel c.loop-execution.invariant.0
      c.loop-execution.invariant.1 (c.is_over.ensures.0 c.loop-execution-test.false);
}
