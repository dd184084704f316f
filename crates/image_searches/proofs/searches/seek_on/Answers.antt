use Rattle.std.proofs.Common.{subst}
use Rattle.std.specs.Prelude.{string_bytes}
use Rattle.image_searches.specs.declared.searches.Turn.{Turn}
use Rattle.image_searches.specs.Goals.{is_wanted}
use Rattle.image_searches.specs.Sights.{sought_in}
use Rattle.image_searches.specs.Turns.{IsImageTurn}
use Rattle.image_searches.proofs.Moving.{moved_on}
use Rattle.image_searches.proofs.Seeking.{seeking_begins, seeking_goes, seeking_ends, seeking_over}
use Rattle.image_searches.proofs.searches.seek_on.Goals as goal

pub loop-init : goal.loop-init
loop-init g c = seeking_begins c.args.way (is_wanted (sought_in c.args.aim.now)) c.args.most c.args.debugger.now

pub loop-preserved : goal.loop-preserved
loop-preserved g c =
    seeking_goes c.args.way (is_wanted (sought_in c.args.aim.now)) c.args.most c.loop.counter c.args.debugger.now
    c.loop.debugger c.make_turn.new.debugger (string_bytes c.make_turn.new.line) c.loop-test.true c.loop.invariant
    (subst (λ (t : Turn). IsImageTurn c.args.way (is_wanted (sought_in c.args.aim.now)) c.loop.debugger
    (string_bytes c.make_turn.new.line) t) c.in-On.is c.make_turn.ensures.turned) c.make_turn.ensures.position

pub returns-in-Over-clause-found : goal.returns-in-Over-clause-found
returns-in-Over-clause-found g c =
    seeking_ends c.args.way (is_wanted (sought_in c.args.aim.now)) c.args.most c.loop.counter c.args.debugger.now
    c.loop.debugger c.make_turn.new.debugger (string_bytes c.make_turn.new.line) c.in-Over.how c.loop-test.true
    c.loop.invariant
    (subst (λ (t : Turn). IsImageTurn c.args.way (is_wanted (sought_in c.args.aim.now)) c.loop.debugger
    (string_bytes c.make_turn.new.line) t) c.in-Over.is c.make_turn.ensures.turned) c.make_turn.ensures.position

pub returns-in-Lost-clause-lost : goal.returns-in-Lost-clause-lost
returns-in-Lost-clause-lost g c =
    moved_on c.args.way c.args.most c.loop.counter c.args.debugger.now c.loop.debugger c.make_turn.new.debugger
    c.loop-test.true c.loop.invariant.moved c.make_turn.ensures.position

pub returns-clause-found : goal.returns-clause-found
returns-clause-found g c =
    seeking_over c.args.way (is_wanted (sought_in c.args.aim.now)) c.args.most c.loop.counter c.args.debugger.now
    c.loop.debugger c.stop.new.debugger c.stop.result c.loop-test.false c.loop.invariant c.stop.ensures.found
