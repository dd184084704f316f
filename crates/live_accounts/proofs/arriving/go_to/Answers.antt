use Rattle.std.proofs.Common.{◌-◌, refl}
use Rattle.source_debugger.specs.rpp_tree.Views.{source_of}
use Rattle.live_accounts.specs.declared.arriving.Arrived.{Arrived}
use Rattle.live_accounts.proofs.Going.{at_start, further, arrives_begun, arrives_over}
use Rattle.live_accounts.proofs.arriving.go_to.Goals as goal

pub loop-execution-init : goal.loop-execution-init
loop-execution-init c =
    at_start (source_of c.args.checked.now) c.args.limits c.args.input.now.words.items c.in_ok-execution.execution
    c.in_ok-execution.ensures.start c.in_ok-execution.ensures.setting c.in_ok-execution.ensures.whole

pub returns-then-is_some : goal.returns-then-is_some
returns-then-is_some c =
    let it : Arrived = record {
      execution = c.loop-execution.execution;
      cost = 18446744073709551615 - c.loop-execution.fuel;
    } in
    arrives_begun (source_of c.args.checked.now) c.args.limits c.args.input.now.words.items it c.loop-execution.fuel
    c.loop-execution.passed c.args.position c.place-here.result c.is_some.result c.loop-execution.invariant
    c.if-passed-position.true refl c.place-here.ensures c.is_some.ensures c.if-is_some.true

pub loop-execution-preserved : goal.loop-execution-preserved
loop-execution-preserved c =
    further (source_of c.args.checked.now) c.args.limits c.args.input.now.words.items c.loop-execution.execution
    c.step.new.self c.loop-execution.fuel c.step.new.fuel c.loop-execution.passed c.in_ok-passed.passed
    c.place-here.result c.loop-execution.invariant c.in-Ok.ensures.gives c.in-Ok.ensures.setting c.in-Ok.ensures.whole
    c.in_ok-passed.ensures c.place-here.ensures

pub returns : goal.returns
returns c =
    let it : Arrived = record {
      execution = c.loop-execution.execution;
      cost = 18446744073709551615 - c.loop-execution.fuel;
    } in
    arrives_over (source_of c.args.checked.now) c.args.limits c.args.input.now.words.items it c.loop-execution.fuel
    c.loop-execution.passed c.args.position c.loop-execution.invariant c.if-passed-position-2.false refl
    (c.is_over.ensures.0 c.loop-execution-test.false)
