use Rattle.std.proofs.Common.{◌∙◌, sym, ap}
use Rattle.live_searches.specs.Sights.{sight_of}
use Rattle.live_searches.specs.Goals.{is_changed}
use Rattle.live_searches.proofs.goals.change_here.Goals as goal

pub returns-clause-told : goal.returns-clause-told
returns-clause-told c =
    c.is_change.ensures ∙ ap (is_changed (sight_of c.args.from.now.glance)) (sym c.in_ok-here.ensures.told)
