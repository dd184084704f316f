-- What moves that are asked for come to.
use Rattle.std.specs.Prelude.{ℕ, ◌-◌, nat_lt, if◌then◌else◌, List, Option}
use Rattle.source_debugger.specs.meaning_points.rpp_tree.Tree.{Source}
use Rattle.source_debugger.specs.meaning_points.Trail.{Trail}
use Rattle.live_requests.specs.pisa_scripts.declared.command.Command.{Command}
use Rattle.live_requests.specs.pisa_scripts.declared.command.Command.TheVariants.{Step, Back}
use Rattle.live_requests.specs.declared.asks.Ask.{Ask}
use Rattle.live_requests.specs.declared.asks.Goal.{Goal}
use Rattle.live_requests.specs.declared.asks.Goal.TheVariants.{Points}
use Rattle.live_searches.specs.Goals.{search_mark_at, wanted}
use Rattle.live_searches.specs.Searches.{Found, points, seek}
use Rattle.live_requests.specs.Asks.{way_of}

abbrev pub made_by : Source → Trail → Goal → (way : Command) → (arguments : List (List ℕ))
    → (n j : ℕ) → Option Found
made_by program trail Points way arguments n j = points program trail way n j
made_by program trail goal way arguments n j =
    seek program trail way
    (wanted program trail goal arguments (search_mark_at program trail arguments j)) n j

-- moves from a position on, as they are asked for
unfoldable pub made : Source → Trail → Ask → (arguments : List (List ℕ)) → ℕ → Option Found
made program trail ask arguments j =
    made_by program trail ask.goal (way_of ask.back) arguments ask.most j

-- the way from a position to another
abbrev pub return_way : (from to : ℕ) → Command
return_way from to = if nat_lt from to then Step (to - from) else Back (from - to)
