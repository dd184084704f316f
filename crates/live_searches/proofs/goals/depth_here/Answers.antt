use Rattle.std.proofs.Common.{◌∙◌, sym, ap}
use Rattle.live_searches.specs.Goals.{depth_met}
use Rattle.live_searches.proofs.goals.depth_here.Goals as goal

pub returns-clause-told : goal.returns-clause-told
returns-clause-told c =
    c.is_within.ensures ∙ ap (depth_met c.args.most) (sym c.in_ok-seen.ensures.seen)
