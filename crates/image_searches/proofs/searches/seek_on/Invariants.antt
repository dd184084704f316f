use Rattle.image_searches.specs.Goals.{is_wanted}
use Rattle.image_searches.specs.Sights.{sought_in}
use Rattle.image_searches.proofs.Seeking.{IsSeeking}
use Rattle.image_searches.proofs.searches.seek_on.Given as goal

-- so many moves were made, and none led to a position that the search looks for
abbrev pub invariant-loop : goal.invariant-loop
invariant-loop g l =
    IsSeeking l.way (is_wanted (sought_in l.fn.aim)) l.most l.counter l.fn.debugger l.debugger
