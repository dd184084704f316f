use Rattle.live_searches.specs.Goals.{sight_at}
use Rattle.live_searches.specs.Sights.{watch_in}
use Rattle.live_searches.proofs.Looking.{sighted}
use Rattle.live_searches.proofs.goals.make_glance.Goals as goal

pub returns-clause-told : goal.returns-clause-told
unfolding sight_at
returns-clause-told c =
    sighted c.args.debugger.now c.look.new.self (watch_in c.args.watch.now) c.in_ok-lines.lines.items
    c.in_ok-seen.seen c.depth_for.result c.look.ensures.stays c.in_ok-seen.ensures.seen c.in_ok-lines.ensures.told
    c.depth_for.ensures
