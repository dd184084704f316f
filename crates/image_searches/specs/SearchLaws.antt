-- A law of searches.
use Rattle.std.specs.Prelude.{◌≡◌, ℕ, ◌+◌, Bool}
use Rattle.live_requests.specs.pisa_scripts.declared.command.Command.{Command}
use Rattle.live_requests.specs.pisa_machine.Position.{Position}
use Rattle.image_searches.specs.declared.moves.Outcome.{Outcome}
use Rattle.image_searches.specs.declared.moves.Outcome.TheVariants.{Met, Made, Stopped}
use Rattle.image_searches.specs.Searches.{ImageFound, image_seek}

-- what comes after moves that ended so: others, if all were made
abbrev pub image_and_more : Outcome → (ended next : ImageFound) → ImageFound
image_and_more Met ended next = ended
image_and_more Made ended next = next
image_and_more Stopped ended next = ended

abbrev pub image_then_more : (Position → ImageFound) → ImageFound → ImageFound
image_then_more next f = image_and_more f.how f (next f.position)

-- a search of n + m moves is one of n, and then one of m if all of the n were made
abbrev pub ImageSearchesGoOn : Type 0
ImageSearchesGoOn =
    (way : Command) (wanted : Position → Bool) (m n : ℕ) (p : Position)
    → image_seek way wanted (m + n) p ≡ image_then_more (image_seek way wanted m) (image_seek way wanted n p)
