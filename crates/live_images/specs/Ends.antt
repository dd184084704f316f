-- How the replies to commands and moves end.
use Rattle.std.specs.Prelude.{ℕ, ◌+◌, ◌-◌, Bool, true, not, nat_lt, if◌then◌else◌, List}
use Rattle.std.specs.Prelude.{Option}
use Rattle.live_talks.specs.pisa_scripts.declared.command.Command.{Command}
use Rattle.live_talks.specs.pisa_scripts.declared.command.Command.TheVariants.{Step, Back, To, BackTo}
use Rattle.live_talks.specs.pisa_scripts.declared.command.Command.TheVariants.{Regs, Cells}
use Rattle.live_talks.specs.live_requests.declared.asks.Goal.{Goal}
use Rattle.live_talks.specs.live_requests.declared.asks.Goal.TheVariants.{Points}
use Rattle.live_talks.specs.live_requests.Limited.{is_cut, limited}
use Rattle.image_searches.specs.declared.moves.Outcome.{Outcome}
use Rattle.image_searches.specs.declared.moves.Outcome.TheVariants as outcome
use Rattle.live_talks.specs.declared.ends.End.{End}
use Rattle.live_talks.specs.declared.ends.End.TheVariants.{Done, Met, More, Start, Over, Fault}
use Rattle.live_talks.specs.Limits.{end_cut}
use Rattle.image_searches.specs.two_way_debugger.Shown.{most_moves}
use Rattle.live_talks.specs.Ends.{has_letter}

-- How moves ended, by the line on them. It is `at J pc P br B dir D`, and then perhaps ` start` or
-- ` end` with why the machine stopped. Only `fault`, `returned` and `bound` have a u, else only
-- `finished` has an h, else only ` end` has an e, else only ` start` has an s.
abbrev pub image_end_in : List ℕ → End
image_end_in text = if has_letter 117 text then Fault else if has_letter 104 text then Over
    else if has_letter 101 text then Fault else if has_letter 115 text then Start else Done

-- how the reply to a command ends that printed this
abbrev pub image_end_shown : Command → List ℕ → End
image_end_shown (Step n) text = image_end_in text
image_end_shown (Back n) text = image_end_in text
image_end_shown (To place n) text = image_end_in text
image_end_shown (BackTo place n) text = image_end_in text
image_end_shown Regs text = Done
image_end_shown (Cells number count) text = Done

-- whether so many moves led from a position to another
abbrev pub image_all_made : (moves from to : ℕ) → Bool
image_all_made moves from to = not (nat_lt (to - from + (from - to)) moves)

-- the same with a limit on the moves, which led from a position to another
abbrev pub image_end_carried : (limit : Option ℕ) → Command → (from to : ℕ) → List ℕ → End
image_end_carried limit command from to text =
    end_cut (is_cut limit command) (image_all_made (most_moves (limited limit command)) from to)
    (image_end_shown command text)

-- how moves end that were all made, by what they look for
abbrev pub image_end_of_all : Goal → End
image_end_of_all Points = Done
image_end_of_all goal = More

-- how the reply to moves ends that printed this; `cut` says that a limit allowed fewer
abbrev pub image_end_moved : (cut : Bool) → Goal → Outcome → List ℕ → End
image_end_moved cut goal outcome.Met text = Met
image_end_moved cut goal outcome.Made text = end_cut cut true (image_end_of_all goal)
image_end_moved cut goal outcome.Stopped text = image_end_in text
