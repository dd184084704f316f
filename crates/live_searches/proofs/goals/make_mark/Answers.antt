use Rattle.std.proofs.Common.{◌∙◌, ap, map}
use Rattle.live_searches.specs.Goals.{watch_of}
use Rattle.live_searches.specs.Sights.{watch_in}
use Rattle.live_searches.proofs.Looking.{marked}
use Rattle.live_searches.proofs.goals.make_mark.Goals as goal

pub returns-clause-told : goal.returns-clause-told
returns-clause-told c =
    marked c.args.debugger.now (map (λ word. word.now) c.args.arguments.now) (watch_in c.in_ok-watch.watch)
    c.in_ok-glance.glance (c.in_ok-watch.ensures ∙ ap watch_of c.first_word.ensures) c.in_ok-glance.ensures.told
