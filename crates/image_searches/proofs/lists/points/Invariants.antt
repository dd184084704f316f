use Rattle.std.specs.Prelude.{string_bytes}
use Rattle.image_searches.proofs.Listing.{IsListing}
use Rattle.image_searches.proofs.lists.points.Given as goal

-- so many moves were made, and their lines are the text so far
abbrev pub invariant-loop : goal.invariant-loop
invariant-loop g l = IsListing l.way l.most l.counter l.fn.debugger l.debugger (string_bytes l.text)
