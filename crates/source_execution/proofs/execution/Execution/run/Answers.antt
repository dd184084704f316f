use Rattle.source_execution.proofs.Walked.{gone_nowhere, gone_further, gone_breaks, gone_walks}
use Rattle.source_execution.proofs.execution.Execution.run.Goals as goal

pub loop-self-init : goal.loop-self-init
loop-self-init c = gone_nowhere c.args.self.now c.args.fuel.now c.requires.whole

pub loop-self-preserved : goal.loop-self-preserved
loop-self-preserved c =
    gone_further c.args.self.now c.loop-self.self c.step.new.self c.args.fuel.now c.loop-self.fuel c.step.new.fuel
    c.loop-self.invariant c.in_ok-step.ensures.gives c.in_ok-step.ensures.setting c.in_ok-step.ensures.whole
    c.in_ok-step.ensures.less

pub returns-in_err-step-clause-walks : goal.returns-in_err-step-clause-walks
returns-in_err-step-clause-walks c =
    gone_breaks c.args.self.now c.loop-self.self c.step.new.self c.args.fuel.now c.loop-self.fuel c.step.new.fuel
    c.in_err-step.field-0.0 c.from_residual.result c.from_residual.ensures.1 c.loop-self.invariant
    c.in_err-step.ensures.gives

pub returns-clause-walks : goal.returns-clause-walks
returns-clause-walks c = gone_walks c.args.self.now c.loop-self.self c.args.fuel.now c.loop-self.fuel tt
    c.loop-self.invariant
