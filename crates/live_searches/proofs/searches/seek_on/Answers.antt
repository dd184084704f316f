use Rattle.std.proofs.Common.{subst, map}
use Rattle.live_searches.specs.declared.searches.Turn.{Turn}
use Rattle.live_searches.specs.Sights.{kept_mark_of}
use Rattle.live_searches.specs.Turns.{IsTurn}
use Rattle.live_searches.proofs.Single.{same_run}
use Rattle.live_searches.proofs.Seeking.{looks, seeking_begins, seeking_goes, seeking_ends, seeking_over}
use Rattle.live_searches.proofs.searches.seek_on.Goals as goal
use Rattle.live_requests.specs.Asks.{way_of}

pub loop-init : goal.loop-init
loop-init c =
    seeking_begins c.args.debugger.now (way_of c.args.ask.back) c.args.ask.goal
    (map (λ word. word.now) c.args.arguments.now) (kept_mark_of c.args.from.now) c.args.ask.most

pub loop-preserved : goal.loop-preserved
loop-preserved c =
    let arguments = map (λ word. word.now) c.args.arguments.now in
    seeking_goes c.args.debugger.now c.loop.debugger c.make_turn.new.debugger (way_of c.args.ask.back) c.args.ask.goal
    arguments (kept_mark_of c.args.from.now) c.args.ask.most c.loop.counter c.loop-test.true c.loop.invariant
    (subst (λ (t : Turn). IsTurn c.loop.debugger (way_of c.args.ask.back)
    (looks c.args.ask.goal arguments (kept_mark_of c.args.from.now) c.loop.debugger) c.make_turn.new.debugger t)
    c.in-On.is
    c.make_turn.ensures.turned) c.make_turn.ensures.same

pub returns-in-Over-clause-told : goal.returns-in-Over-clause-told
returns-in-Over-clause-told c =
    let arguments = map (λ word. word.now) c.args.arguments.now in
    seeking_ends c.args.debugger.now c.loop.debugger c.make_turn.new.debugger (way_of c.args.ask.back) c.args.ask.goal
    arguments (kept_mark_of c.args.from.now) c.args.ask.most c.loop.counter c.in-Over.moved c.loop-test.true
    c.loop.invariant
    (subst (λ (t : Turn). IsTurn c.loop.debugger (way_of c.args.ask.back)
    (looks c.args.ask.goal arguments (kept_mark_of c.args.from.now) c.loop.debugger) c.make_turn.new.debugger t)
    c.in-Over.is
    c.make_turn.ensures.turned)

pub returns-in-Over-clause-same : goal.returns-in-Over-clause-same
returns-in-Over-clause-same c =
    same_run c.args.debugger.now c.loop.debugger c.make_turn.new.debugger c.loop.invariant.same c.make_turn.ensures.same

pub returns-in-Lost-clause-same : goal.returns-in-Lost-clause-same
returns-in-Lost-clause-same c =
    same_run c.args.debugger.now c.loop.debugger c.make_turn.new.debugger c.loop.invariant.same c.make_turn.ensures.same

pub returns-clause-told : goal.returns-clause-told
returns-clause-told c =
    seeking_over c.args.debugger.now c.loop.debugger c.stop.new.debugger (way_of c.args.ask.back) c.args.ask.goal
    (map (λ word. word.now) c.args.arguments.now) (kept_mark_of c.args.from.now) c.args.ask.most c.loop.counter
    c.stop.result c.loop-test.false c.loop.invariant c.stop.ensures.told

pub returns-clause-same : goal.returns-clause-same
returns-clause-same c =
    same_run c.args.debugger.now c.loop.debugger c.stop.new.debugger c.loop.invariant.same c.stop.ensures.same
