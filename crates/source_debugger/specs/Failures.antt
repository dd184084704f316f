-- What fails where a run stops with a fault, as it is printed.
use Rattle.std.specs.Prelude.{ℕ, Bool, true, false, List, [], ◌++◌, codes}
use Rattle.std.specs.Prelude.{if◌then◌else◌, Option, Some, None}
use Rattle.std.specs.Fmt.{decimal}
use Rattle.source_courses.specs.rpp_words.Texts.{line_end}
use Rattle.source_courses.specs.rpp_words.declared.input.FieldWord.{FieldWord}
use Rattle.source_courses.specs.rpp_words.declared.input.Limits.{Limits}
use Rattle.source_courses.specs.pisa_scripts.Stops.{fault_line}
use Rattle.source_courses.specs.rpp_tree.Tree.{Source}
use Rattle.source_courses.specs.rpp_tree.Views.{source_of}
use Rattle.source_courses.specs.roopl_semantics.Run.{Run, Done, Fault, More}
use Rattle.source_courses.specs.roopl_semantics.Report.{Text, head_shown}
use Rattle.source_courses.specs.roopl_semantics.Execution.{Setting}
use Rattle.source_lines.specs.meaning_points.Trail.{Trail, trail}
use Rattle.source_courses.specs.meaning_machine.Machine.{Config, next}
use Rattle.source_courses.specs.meaning_machine.SourceLaws.{set_for, start_config}
use Rattle.source_courses.specs.source_compared.Comparisons.{Compared, Truth}
use Rattle.source_courses.specs.source_compared.Comparisons.{Values, Below, Missing}
use Rattle.source_courses.specs.source_compared.Comparisons.{Count, Length, Size}
use Rattle.source_courses.specs.source_compared.Comparisons.{Heads, Nothing}
use Rattle.source_courses.specs.source_checks.Failures.{Tested, tested, failing}
use Rattle.source_courses.specs.source_checks.Failures.{MOST_STEPS}
use Rattle.source_debugger.specs.declared.failing.Detail.{Detail}
use Rattle.source_debugger.specs.declared.failing.Detail.TheVariants.{Test, Cells}
use Rattle.source_courses.specs.declared.moves.Walk.{Walk}
use Rattle.source_courses.specs.declared.moves.Ending.{Ending}
use Rattle.source_courses.specs.declared.moves.Ending.TheVariants.{Made, Start, Faulted}
use Rattle.source_courses.specs.declared.running.TheConstants.{MOST_COST}
use Rattle.source_lines.specs.Named.{value_named, objects_from}
use Rattle.source_debugger.specs.Shown.{state_named}
use Rattle.source_debugger.specs.Standing.{Standing}
use Rattle.source_courses.specs.Walks.{forward}

-- the lines of what a check finds, and of what it needs
abbrev pub found_wanted : (found wanted : Text) → Text
found_wanted found wanted =
    codes "found " ++ found ++ line_end ++ codes "wanted " ++ wanted ++ line_end

-- the lines of what a test compares
abbrev pub compared_lines : Source → Compared → Text
compared_lines program (Truth found wanted) =
    found_wanted (value_named found) (if wanted then codes "true" else codes "false")
compared_lines program (Values found wanted) =
    found_wanted (value_named found) (value_named wanted)
compared_lines program (Below found limit) =
    found_wanted (value_named found) (codes "below " ++ decimal limit)
compared_lines program (Missing array) =
    found_wanted (codes "nil") (if array then codes "an array" else codes "an object")
compared_lines program (Count found) = found_wanted (decimal found) (codes "1")
compared_lines program (Length found wanted) = found_wanted (value_named found) (decimal wanted)
compared_lines program (Size found) = found_wanted (value_named found) (codes "at least 1")
compared_lines program (Heads found wanted) =
    found_wanted (head_shown program found) (head_shown program wanted)
compared_lines program Nothing = []

-- the lines of a test: its word, its offset and that of its statement, and what it compares
abbrev pub test_lines : Source → Tested → Text
test_lines program it =
    codes "test " ++ it.word ++ codes " at " ++ decimal it.at ++ codes " of "
    ++ decimal it.statement ++ line_end ++ compared_lines program it.compared

-- the lines on a step that stops with this fault: the fault, the test, how many calls are open, and
-- the fields and variables as they are then
abbrev pub failure_lines : Source → Setting → (code : ℕ) → Config → Text
failure_lines program setting code x =
    fault_line code ++ (test_lines program (tested setting code x)
    ++ (codes "depth " ++ decimal x.state.depth ++ line_end
    ++ state_named program x.params x.state))

-- what is shown of a step that stops with this fault, and of the position from which it is made
abbrev pub Show : Type 0
Show = Setting → (code : ℕ) → Config → Text

-- the objects and arrays of so many names from one on, as they are then
abbrev pub objects_then : Source → (from count : ℕ) → Show
objects_then program from count setting code x = objects_from program x.state.store from count

abbrev pub shown_of : Source → Detail → Show
shown_of program Test = failure_lines program
shown_of program (Cells from count) = objects_then program from count

abbrev pub failure_by : Show → Setting → Config → Run Config → Option Text
failure_by show setting x (Fault code cost) = Some (show setting code x)
failure_by show setting x _ = None

abbrev pub failure_at : Show → Setting → Option Config → Option Text
failure_at show setting None = None
failure_at show setting (Some x) = failure_by show setting x (next setting x)

-- what is shown of what fails, if the run of a program on an input stops with a fault
abbrev pub failure : Source → Limits → List FieldWord → Show → Option Text
failure program limits input show = failure_at show (set_for program limits)
    (failing (set_for program limits) MOST_STEPS (start_config program input))

-- ---- what is reported of a run

-- its limits and its input, its trace points with its end, and what is shown of what fails
pub record Account : Type 0 where
  pub limits : Limits
  pub input : List FieldWord
  pub trail : Trail
  pub failure : Show → Option Text

abbrev pub account : Source → Limits → List FieldWord → ℕ → Account
account program limits input n = record {
  limits = limits;
  input = input;
  trail = trail program limits input n;
  failure = failure program limits input;
}

-- as far as the debugger looks
abbrev pub account_of : Standing → Account
account_of d = account (source_of d.program) d.limits d.input MOST_COST

abbrev pub is_fault : Ending → Bool
is_fault (Faulted code) = true
is_fault _ = false

abbrev pub stops_with_fault : Option Walk → Bool
stops_with_fault None = false
stops_with_fault (Some walk) = is_fault walk.ending

-- what is shown of what fails if one more move is made from a position; none if the move can be
-- made
abbrev pub fails_at : Account → Show → ℕ → Option Text
fails_at account show j = if stops_with_fault (forward account.trail None 1 j)
    then account.failure show else None
