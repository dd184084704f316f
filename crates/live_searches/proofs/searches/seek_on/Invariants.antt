use Rattle.std.proofs.Common.{map}
use Rattle.live_searches.specs.Sights.{kept_mark_of}
use Rattle.live_searches.proofs.Seeking.{IsSeeking}
use Rattle.live_searches.proofs.searches.seek_on.Given as goal
use Rattle.live_requests.specs.Asks.{way_of}

-- so many moves were made, and none led to a position that the search looks for
abbrev pub invariant-loop : goal.invariant-loop
invariant-loop l = IsSeeking l.fn.debugger (way_of l.ask.back) l.ask.goal (map (λ word. word.now) l.fn.arguments)
    (kept_mark_of l.fn.from) l.ask.most l.counter l.debugger
