use Rattle.std.proofs.Common.{map}
use Rattle.live_searches.specs.Sights.{kept_mark_of}
use Rattle.live_searches.proofs.Single.{same_run, stays_same}
use Rattle.live_searches.proofs.Seeking.{seek_from}
use Rattle.live_searches.proofs.searches.seek.Goals as goal
use Rattle.live_requests.specs.Asks.{way_of}

pub returns-clause-told : goal.returns-clause-told
returns-clause-told c =
    seek_from c.args.debugger.now c.make_mark.new.debugger c.seek_on.new.debugger (way_of c.args.ask.back)
    c.args.ask.goal
    (map (λ word. word.now) c.args.arguments.now) (kept_mark_of c.in_ok-from.from) c.args.ask.most c.seek_on.result
    c.make_mark.ensures.stays c.in_ok-from.ensures.told c.seek_on.ensures.told

pub returns-clause-same : goal.returns-clause-same
returns-clause-same c =
    same_run c.args.debugger.now c.make_mark.new.debugger c.seek_on.new.debugger
    (stays_same c.args.debugger.now c.make_mark.new.debugger c.make_mark.ensures.stays) c.seek_on.ensures.same

pub returns-in_err-from-clause-same : goal.returns-in_err-from-clause-same
returns-in_err-from-clause-same c =
    stays_same c.args.debugger.now c.make_mark.new.debugger c.make_mark.ensures.stays
