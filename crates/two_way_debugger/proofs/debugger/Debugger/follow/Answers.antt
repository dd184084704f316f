use Rattle.std.proofs.Common.{◌+◌, arith, rules}
use Rattle.std.proofs.lemmas.Grind.{common_steps}
use Rattle.two_way_debugger.specs.Along.{IsAlong}
use Rattle.pisa_scripts.proofs.Errors.{on_err_always}
use Rattle.two_way_debugger.proofs.Fronts.{one_more, one_more_spent}
use Rattle.two_way_debugger.proofs.debugger.Debugger.follow.Goals as goal

pub returns-in_err-command-clause-along : goal.returns-in_err-command-clause-along
returns-in_err-command-clause-along g c =
    on_err_always c.from_residual.result
    (IsAlong c.args.script.now c.args.self.now c.command.new.self c.args.steps.now c.command.new.steps)
    (record {
      made = c.loop-command.command-index + 1;
      position = one_more c.args.script.now c.loop-command.command-index _ c.args.self.now c.loop-command.self
          c.command.new.self c.loop-command-test.true c.loop-command.invariant.front c.command.ensures.position;
      counter = one_more_spent c.args.script.now c.loop-command.command-index _ c.args.self.now c.loop-command.self
          c.args.steps.now c.loop-command.steps c.command.new.steps c.loop-command-test.true
          c.loop-command.invariant.front c.loop-command.invariant.front_counter c.command.ensures.counter;
    })

pub loop-command-preserved : goal.loop-command-preserved
loop-command-preserved g c = record {
  position = first_of (search rules, grind (arith, common_steps));
  text = first_of (search rules, grind (arith, common_steps));
  counter = first_of (search rules, grind (arith, common_steps));
  front = one_more c.args.script.now c.loop-command.command-index _ c.args.self.now c.loop-command.self
      c.command.new.self c.loop-command-test.true c.loop-command.invariant.front c.command.ensures.position;
  front_counter = one_more_spent c.args.script.now c.loop-command.command-index _ c.args.self.now c.loop-command.self
      c.args.steps.now c.loop-command.steps c.command.new.steps c.loop-command-test.true
      c.loop-command.invariant.front c.loop-command.invariant.front_counter c.command.ensures.counter;
}

pub returns-in_err-push_str-clause-along : goal.returns-in_err-push_str-clause-along
returns-in_err-push_str-clause-along g c =
    on_err_always c.from_residual-in_err-push_str.result
    (IsAlong c.args.script.now c.args.self.now c.loop-command.self c.args.steps.now c.loop-command.steps)
    (record {
      made = c.loop-command.command-index;
      position = c.loop-command.invariant.front;
      counter = c.loop-command.invariant.front_counter;
    })
