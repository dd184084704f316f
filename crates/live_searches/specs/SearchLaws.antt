-- Laws of searches.
use Rattle.std.specs.Prelude.{◌≡◌, ℕ, ◌+◌, Bool, Option, Some, None}
use Rattle.source_debugger.specs.meaning_points.rpp_tree.Tree.{Source}
use Rattle.source_debugger.specs.meaning_points.Trail.{Trail}
use Rattle.live_requests.specs.pisa_scripts.declared.command.Command.{Command}
use Rattle.live_searches.specs.declared.moves.Outcome.{Outcome}
use Rattle.live_searches.specs.declared.moves.Outcome.TheVariants.{Met, Made, Stopped}
use Rattle.live_searches.specs.Searches.{Found, seek}

-- what comes after moves that ended so: others, if all were made
abbrev pub and_more : Outcome → (ended next : Option Found) → Option Found
and_more Met ended next = ended
and_more Made ended next = next
and_more Stopped ended next = ended

abbrev pub then_more : (ℕ → Option Found) → Option Found → Option Found
then_more next None = None
then_more next (Some f) = and_more f.how (Some f) (next f.position)

-- a search of n + m moves is one of n, and then one of m if all of the n were made
abbrev pub SearchesGoOn : Type 0
SearchesGoOn =
    (program : Source) (trail : Trail) (way : Command) (wanted : ℕ → Bool) (m n j : ℕ) (f : Found)
    → seek program trail way wanted n j ≡ Some f
    → seek program trail way wanted (m + n) j
    ≡ then_more (seek program trail way wanted m) (Some f)
