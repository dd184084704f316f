-- Single moves along the positions of a machine.
use Rattle.std.specs.Prelude.{◌≡◌, ℕ, zero, suc, ◌≤◌, Bool, true, false, nat_eq}
use Rattle.std.specs.Prelude.{List, ◌++◌, ⊤}
use Rattle.live_requests.specs.pisa_scripts.declared.command.Command.{Command}
use Rattle.live_requests.specs.pisa_scripts.declared.command.Command.TheVariants as command
use Rattle.live_requests.specs.pisa_machine.Position.{Position}
use Rattle.live_requests.specs.two_way_debugger.Shown.{walk_of, text_of}
use Rattle.image_searches.specs.declared.moves.Step.{Step}
use Rattle.image_searches.specs.declared.moves.Step.TheVariants.{Gone, Stuck, Lost}

-- where a move leads
abbrev pub led_to : (way : Command) → Position → Position
led_to way p = (walk_of way p).position

-- whether it leads nowhere: at a stop, at the last position and at position 0
abbrev pub is_stuck : (way : Command) → Position → Bool
is_stuck way p = nat_eq (led_to way p).made p.made

-- where so many moves lead
abbrev pub led_by : (way : Command) → ℕ → Position → Position
led_by way zero p = p
led_by way (suc n) p = led_to way (led_by way n p)

-- some moves were made, at most so many, and no others
pub record ImageMovesSome (way : Command) (most : ℕ) (first last : Position) : Type 0 where
  pub moves : ℕ
  pub within : moves ≤ most
  pub position : last ≡ led_by way moves first

-- a move printed its line, and whether it led nowhere
abbrev pub ImageGoes : (way : Command) → (from : Position) → (old new : List ℕ) → Step → Type 0
ImageGoes way from old new Gone = (is_stuck way from ≡ false) × (new ≡ old ++ text_of way from)
ImageGoes way from old new Stuck = (is_stuck way from ≡ true) × (new ≡ old ++ text_of way from)
ImageGoes way from old new (Lost lack) = ⊤
