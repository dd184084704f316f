-- What one move of a search comes to.
use Rattle.std.specs.Prelude.{◌≡◌, ℕ, Bool, if◌then◌else◌, List, ⊤}
use Rattle.live_requests.specs.pisa_scripts.declared.command.Command.{Command}
use Rattle.live_requests.specs.pisa_machine.Position.{Position}
use Rattle.image_searches.specs.declared.moves.Outcome.TheVariants.{Met}
use Rattle.image_searches.specs.declared.searches.Turn.{Turn}
use Rattle.image_searches.specs.declared.searches.Turn.TheVariants.{On, Over, Lost}
use Rattle.image_searches.specs.Steps.{led_to}
use Rattle.image_searches.specs.Searches.{ImageFound, image_and_seek}

-- the search ends at a position that it looks for
abbrev pub turn_by : (wanted : Bool) → Turn
turn_by wanted = if wanted then Over Met else On

-- after a move from a position the search goes on, or it ended with this line, whatever comes next
abbrev pub IsImageTurn : (way : Command) → (wanted : Position → Bool) → (from : Position)
    → (line : List ℕ) → Turn → Type 0
IsImageTurn way wanted from line On =
    (next : Position → ImageFound) → image_and_seek way wanted from next ≡ next (led_to way from)
IsImageTurn way wanted from line (Over how) =
    (next : Position → ImageFound)
    → image_and_seek way wanted from next
    ≡ record { position = led_to way from; text = line; how = how }
IsImageTurn way wanted from line (Lost lack) = ⊤
