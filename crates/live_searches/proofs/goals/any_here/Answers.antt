use Rattle.std.proofs.Common.{◌∙◌, sym, ap, map}
use Rattle.live_searches.specs.Goals.{any_met}
use Rattle.live_searches.proofs.goals.any_here.Goals as goal

pub returns-clause-told : goal.returns-clause-told
returns-clause-told c =
    c.has_any.ensures ∙ ap (any_met (map (λ word. word.now) c.args.arguments.now)) (sym c.in_ok-seen.ensures.seen)
