-- Laws of what commands print.
use Rattle.std.specs.Prelude.{◌≡◌, ◌≤◌, ℕ, List, Some}
use Rattle.source_courses.specs.rpp_words.declared.input.FieldWord.{FieldWord}
use Rattle.source_courses.specs.rpp_words.declared.input.Limits.{Limits}
use Rattle.source_courses.specs.rpp_tree.Tree.{Source}
use Rattle.source_courses.specs.roopl_semantics.Store.{State}
use Rattle.source_courses.specs.roopl_semantics.Source.{GivesDone}
use Rattle.source_lines.specs.meaning_points.Trail.{trail}
use Rattle.source_courses.specs.pisa_scripts.declared.command.Command.{Command}
use Rattle.source_courses.specs.Walks.{AtEnd, stand_at}
use Rattle.source_debugger.specs.Shown.{Told, told}

-- what commands print from the start of a run on, they print with more fuel too
abbrev pub MoreFuelTells : Type 0
MoreFuelTells =
    (program : Source) (limits : Limits) (input : List FieldWord) (commands : List Command)
    (n m : ℕ) (t : Told) → n ≤ m
    → told program (trail program limits input n) commands 0 ≡ Some t
    → told program (trail program limits input m) commands 0 ≡ Some t

-- the state at the end trace point is the one that the source gives
abbrev pub EndIsTheSources : Type 0
EndIsTheSources =
    (program : Source) (limits : Limits) (input : List FieldWord) (n j : ℕ) (end : State)
    → stand_at (trail program limits input n) j ≡ AtEnd end → GivesDone program limits input end
