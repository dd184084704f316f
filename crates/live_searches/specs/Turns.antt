-- What one move of a search comes to.
use Rattle.std.specs.Prelude.{◌≡◌, ℕ, Bool, true, false, List, Option, Some, ⊤}
use Rattle.std.specs.Prelude.{string_bytes}
use Rattle.source_debugger.specs.meaning_points.rpp_tree.Views.{source_of}
use Rattle.live_requests.specs.pisa_scripts.declared.command.Command.{Command}
use Rattle.source_debugger.specs.Shown.{told_by}
use Rattle.source_debugger.specs.Standing.{Standing, trail_of}
use Rattle.live_searches.specs.declared.moves.Outcome.TheVariants as outcome
use Rattle.live_searches.specs.declared.searches.Turn.{Turn}
use Rattle.live_searches.specs.declared.searches.Turn.TheVariants.{On, Over, Lost}
use Rattle.live_searches.specs.Searches.{Found, and_seek}

-- the search ends at a position that it looks for
abbrev pub IsTurnJudged : (line : List ℕ) → (wanted : Bool) → Turn → Type 0
IsTurnJudged line wanted On = wanted ≡ false
IsTurnJudged line wanted (Over moved) = (wanted ≡ true) × (string_bytes moved.text ≡ line)
    × (moved.how ≡ outcome.Met)
IsTurnJudged line wanted (Lost lack) = ⊤

-- a move led there, and the search goes on or ended, whatever comes next
abbrev pub IsTurn : (before : Standing) → (way : Command) → (wanted : ℕ → Bool)
    → (after : Standing) → Turn → Type 0
IsTurn before way wanted after On =
    (next : ℕ → Option Found)
    → and_seek wanted before.position
    (told_by (source_of before.program) (trail_of before) way before.position) next
    ≡ next after.position
IsTurn before way wanted after (Over moved) =
    (next : ℕ → Option Found)
    → and_seek wanted before.position
    (told_by (source_of before.program) (trail_of before) way before.position) next
    ≡ Some (record {
      position = after.position;
      text = string_bytes moved.text;
      how = moved.how;
    })
IsTurn before way wanted after (Lost lack) = ⊤
