-- Steps of a run, also of a reversed one: there `new` and `delete` undo requests to the heap.
use Rattle.std.specs.Prelude.{◌<◌, ℕ, Bool, true, false, List}
use Rattle.source_blocks.specs.rpp_tree.Tree.{Statement, Statements, End, Then}
use Rattle.source_blocks.specs.roopl_semantics.Run.{Run}
use Rattle.source_blocks.specs.roopl_semantics.Execution.{Setting}
use Rattle.source_blocks.specs.meaning_machine.Machine.{Config, Open, begun, next}
use Rattle.source_blocks.specs.meaning_machine.Reversed.{begun_back, back}
use Rattle.source_blocks.specs.source_steps.declared.stop.Stop.{Stop}
use Rattle.source_blocks.specs.source_steps.Metered.{IsOwnOrFull}
use Rattle.source_blocks.specs.Stops.{MayStop}
use Rattle.source_statements.specs.Endings.{Falls}

-- a statement that begins, and a step, whether the run is reversed or not
abbrev pub begun_in : Bool → Setting → Config → Statement → Statements → Run Config
begun_in true setting x s rest = begun_back setting x s rest
begun_in false setting x s rest = begun setting x s rest

abbrev pub step_in : Bool → Setting → Config → Run Config
step_in true setting x = back setting x
step_in false setting x = next setting x

-- a measure falls at a step of a run that is not over
abbrev pub FallsBehind : Statements → List Open → ℕ → ℕ → Type 0
FallsBehind End around after first = Falls around after first
FallsBehind (Then s rest) around after first = after < first

abbrev pub StepFalls : Config → ℕ → ℕ → Type 0
StepFalls x after first = FallsBehind x.rest x.around after first

-- where a step may run out of memory: not at the end of a block
abbrev pub MayStopAt : Statements → Stop → Type 0
MayStopAt End why = IsOwnOrFull why
MayStopAt (Then s rest) why = MayStop s why
