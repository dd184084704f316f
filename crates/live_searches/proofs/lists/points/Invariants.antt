use Rattle.std.specs.Prelude.{string_bytes}
use Rattle.live_searches.proofs.Listing.{IsListing}
use Rattle.live_searches.proofs.lists.points.Given as goal

-- so many moves were made, and their lines are the text so far
abbrev pub invariant-loop : goal.invariant-loop
invariant-loop l = IsListing l.fn.debugger l.way l.most l.counter l.debugger (string_bytes l.text)
