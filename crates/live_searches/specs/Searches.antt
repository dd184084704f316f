-- Moves one by one: where they lead, and what they print.
use Rattle.std.specs.Prelude.{ℕ, zero, suc, Bool, nat_eq, if◌then◌else◌, List, [], ◌++◌, Option}
use Rattle.std.specs.Prelude.{Some, None}
use Rattle.source_debugger.specs.meaning_points.rpp_tree.Tree.{Source}
use Rattle.source_debugger.specs.meaning_points.Trail.{Trail}
use Rattle.live_requests.specs.pisa_scripts.declared.command.Command.{Command}
use Rattle.live_requests.specs.pisa_scripts.declared.command.Command.TheVariants as command
use Rattle.source_debugger.specs.Shown.{Told, told_by}
use Rattle.live_searches.specs.declared.moves.Outcome.{Outcome}
use Rattle.live_searches.specs.declared.moves.Outcome.TheVariants.{Met, Made, Stopped}

-- where moves lead, what they print, and how they end
pub record Found : Type 0 where
  pub position : ℕ
  pub text : List ℕ
  pub how : Outcome

abbrev pub search_found : Told → Outcome → Option Found
search_found told how = Some (record { position = told.position; text = told.text; how = how })

-- a line before what is printed
abbrev pub behind_line : List ℕ → Option Found → Option Found
behind_line line None = None
behind_line line (Some f) =
    Some (record { position = f.position; text = line ++ f.text; how = f.how })

-- a move from a position and then others, unless it leads nowhere
abbrev pub and_points : (from : ℕ) → Option Told → (ℕ → Option Found) → Option Found
and_points from None next = None
and_points from (Some told) next = if nat_eq told.position from then search_found told Stopped
    else behind_line told.text (next told.position)

-- the lines of the next n positions, up to a move that leads nowhere
abbrev pub points : Source → Trail → (way : Command) → (n j : ℕ) → Option Found
points program trail way zero j = Some (record { position = j; text = []; how = Made })
points program trail way (suc n) j =
    and_points j (told_by program trail way j) (points program trail way n)

-- a move from a position and then others, unless it leads nowhere or the search looks for its
-- position
abbrev pub and_seek : (wanted : ℕ → Bool) → (from : ℕ) → Option Told → (ℕ → Option Found)
    → Option Found
and_seek wanted from None next = None
and_seek wanted from (Some told) next = if nat_eq told.position from then search_found told Stopped
    else if wanted told.position then search_found told Met else next told.position

abbrev pub all_made : Option Told → Option Found
all_made None = None
all_made (Some told) = search_found told Made

-- the first position at most n moves further that the search looks for, up to a move that leads
-- nowhere
abbrev pub seek : Source → Trail → (way : Command) → (wanted : ℕ → Bool) → (n j : ℕ) → Option Found
seek program trail way wanted zero j = all_made (told_by program trail (command.Step 0) j)
seek program trail way wanted (suc n) j =
    and_seek wanted j (told_by program trail way j) (seek program trail way wanted n)
