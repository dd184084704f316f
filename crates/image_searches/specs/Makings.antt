-- What moves that are asked for come to.
use Rattle.std.specs.Prelude.{ℕ, List}
use Rattle.live_requests.specs.pisa_scripts.declared.command.Command.{Command}
use Rattle.live_requests.specs.pisa_machine.Position.{Position}
use Rattle.live_requests.specs.declared.asks.Ask.{Ask}
use Rattle.live_requests.specs.declared.asks.Goal.{Goal}
use Rattle.live_requests.specs.declared.asks.Goal.TheVariants.{Points}
use Rattle.image_searches.specs.Goals.{sought, is_wanted}
use Rattle.image_searches.specs.Searches.{ImageFound, image_points, image_seek}
use Rattle.live_requests.specs.Asks.{way_of}

abbrev pub image_made_by : Goal → (way : Command) → (arguments : List (List ℕ)) → ℕ → Position → ImageFound
image_made_by Points way arguments n p = image_points way n p
image_made_by goal way arguments n p = image_seek way (is_wanted (sought goal arguments p)) n p

-- moves from a position on, as they are asked for
unfoldable pub image_made : Ask → (arguments : List (List ℕ)) → Position → ImageFound
image_made ask arguments p = image_made_by ask.goal (way_of ask.back) arguments ask.most p
