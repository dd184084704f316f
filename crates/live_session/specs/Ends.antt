-- How the replies to commands and moves end.
use Rattle.std.specs.Prelude.{ℕ, ◌+◌, ◌-◌, Bool, true, false, not, ◌&&◌, nat_lt, List}
use Rattle.std.specs.Prelude.{if◌then◌else◌, Option}
use Rattle.live_talks.specs.pisa_scripts.declared.command.Command.{Command}
use Rattle.live_talks.specs.pisa_scripts.declared.command.Command.TheVariants.{Step, Back, To, BackTo}
use Rattle.live_talks.specs.pisa_scripts.declared.command.Command.TheVariants.{Regs, Cells}
use Rattle.live_talks.specs.live_requests.declared.asks.Goal.{Goal}
use Rattle.live_talks.specs.live_requests.declared.asks.Goal.TheVariants.{Points}
use Rattle.live_talks.specs.live_requests.declared.asks.Ask.{Ask}
use Rattle.live_talks.specs.live_requests.Limited.{limited, is_cut, is_cut_ask}
use Rattle.live_searches.specs.declared.moves.Outcome.{Outcome}
use Rattle.live_searches.specs.declared.moves.Outcome.TheVariants as outcome
use Rattle.live_talks.specs.declared.ends.End.{End}
use Rattle.live_talks.specs.declared.ends.End.TheVariants.{Done, Met, More, Start, Over, Fault}
use Rattle.live_talks.specs.Limits.{end_cut}
use Rattle.live_talks.specs.two_way_debugger.Shown.{most_moves}
use Rattle.live_talks.specs.Ends.{has_letter}

-- whether fewer moves were made than were allowed
abbrev pub is_short : (most from to : ℕ) → Bool
is_short most from to = nat_lt (to - from + (from - to)) most

-- How moves ended, by the line on them. It is `at J place P depth D` or `at J end`, and then
-- perhaps ` start` or ` fault C NAME`. Only a fault has an f, else only ` start` has an s, else
-- only ` end` has an n. `short` says that fewer were made than were allowed.
abbrev pub end_in : (short : Bool) → List ℕ → End
end_in short text = if has_letter 102 text then Fault else if has_letter 115 text then Start
    else if has_letter 110 text && short then Over else Done

-- how the reply to a command ends that led from a position to another, and printed this
abbrev pub end_shown : Command → (from to : ℕ) → List ℕ → End
end_shown (Step n) from to text = end_in (is_short n from to) text
end_shown (Back n) from to text = end_in (is_short n from to) text
end_shown (To place n) from to text = end_in (is_short n from to) text
end_shown (BackTo place n) from to text = end_in (is_short n from to) text
end_shown Regs from to text = Done
end_shown (Cells number count) from to text = Done

-- whether all moves were made that a command asks for
abbrev pub all_moves_made : Command → (from to : ℕ) → Bool
all_moves_made command from to = not (is_short (most_moves command) from to)

-- how the reply to a command ends, of which a limit allows so much
abbrev pub end_carried : (limit : Option ℕ) → Command → (from to : ℕ) → List ℕ → End
end_carried limit command from to text =
    end_cut (is_cut limit command) (all_moves_made (limited limit command) from to)
    (end_shown (limited limit command) from to text)

-- how moves end that were all made, by what they look for
abbrev pub end_of_all : Goal → End
end_of_all Points = Done
end_of_all goal = More

-- how the reply to moves ends that printed this
abbrev pub end_moved : Goal → Outcome → List ℕ → End
end_moved goal outcome.Met text = Met
end_moved goal outcome.Made text = end_of_all goal
end_moved goal outcome.Stopped text = end_in true text

abbrev pub is_made : Outcome → Bool
is_made outcome.Made = true
is_made how = false

-- the same, where a limit allows so many of them
abbrev pub end_asked : (limit : Option ℕ) → Ask → Outcome → List ℕ → End
end_asked limit ask how text =
    end_cut (is_cut_ask limit ask) (is_made how) (end_moved ask.goal how text)
