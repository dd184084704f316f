-- Moves one by one: where they lead, and what they print.
use Rattle.std.specs.Prelude.{ℕ, zero, suc, Bool, if◌then◌else◌, List, [], ◌++◌}
use Rattle.live_requests.specs.pisa_scripts.declared.command.Command.{Command}
use Rattle.live_requests.specs.pisa_scripts.declared.command.Command.TheVariants as command
use Rattle.live_requests.specs.pisa_machine.Position.{Position}
use Rattle.live_requests.specs.two_way_debugger.Shown.{text_of}
use Rattle.image_searches.specs.declared.moves.Outcome.{Outcome}
use Rattle.image_searches.specs.declared.moves.Outcome.TheVariants.{Met, Made, Stopped}
use Rattle.image_searches.specs.Steps.{led_to, is_stuck}

-- where moves lead, what they print, and how they end
pub record ImageFound : Type 0 where
  pub position : Position
  pub text : List ℕ
  pub how : Outcome

-- one move ends them
abbrev pub image_found : (way : Command) → (from : Position) → Outcome → ImageFound
image_found way from how = record { position = led_to way from; text = text_of way from; how = how }

-- a line before what is printed
abbrev pub image_behind_line : List ℕ → ImageFound → ImageFound
image_behind_line line f = record { position = f.position; text = line ++ f.text; how = f.how }

-- a move from a position and then others, unless it leads nowhere
abbrev pub image_and_points : (way : Command) → (from : Position) → (Position → ImageFound) → ImageFound
image_and_points way from next = if is_stuck way from then image_found way from Stopped
    else image_behind_line (text_of way from) (next (led_to way from))

-- the lines of the next n positions, up to a move that leads nowhere
abbrev pub image_points : (way : Command) → ℕ → Position → ImageFound
image_points way zero p = record { position = p; text = []; how = Made }
image_points way (suc n) p = image_and_points way p (image_points way n)

-- a move from a position and then others, unless it leads nowhere or the search looks for its
-- position
abbrev pub image_and_seek : (way : Command) → (wanted : Position → Bool) → (from : Position)
    → (Position → ImageFound) → ImageFound
image_and_seek way wanted from next = if is_stuck way from then image_found way from Stopped
    else if wanted (led_to way from) then image_found way from Met else next (led_to way from)

-- the first position at most n moves further that the search looks for, up to a move that leads
-- nowhere
abbrev pub image_seek : (way : Command) → (wanted : Position → Bool) → ℕ → Position → ImageFound
image_seek way wanted zero p = image_found (command.Step 0) p Made
image_seek way wanted (suc n) p = image_and_seek way wanted p (image_seek way wanted n)
