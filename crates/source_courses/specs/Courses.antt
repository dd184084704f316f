-- A run under way.
use Rattle.std.specs.Prelude.{◌≡◌, ◌≤◌, ◌+◌, ℕ, false, List, length}
use Rattle.source_execution.specs.rpp_words.declared.input.FieldWord.{FieldWord}
use Rattle.source_execution.specs.rpp_words.declared.input.Limits.{Limits}
use Rattle.source_execution.specs.rpp_tree.Tree.{Source}
use Rattle.source_execution.specs.roopl_semantics.Run.{Done}
use Rattle.meaning_reversed.specs.meaning_machine.Machine.{Config, walk, seen}
use Rattle.meaning_reversed.specs.meaning_machine.SourceLaws.{set_for, start_config}
use Rattle.meaning_reversed.specs.meaning_machine.Turned.{turn}
use Rattle.source_execution.specs.source_store.HeapView.{Kept}
use Rattle.source_execution.specs.Standing.{config_at, setting_at}
use Rattle.source_courses.specs.declared.running.TheConstants.{MOST_COST}
use Rattle.source_courses.specs.declared.running.Course.{Course}

-- some number of steps from the start of a program's run leads to this offset, past so many trace
-- points, and costs no more than what a course has spent of so much fuel
pub record HasLed (program : Source) (limits : Limits) (input : List FieldWord) (most : ℕ)
    (x : Config) (c : Course) : Type 0 where
  pub steps : ℕ
  pub cost : ℕ
  pub came : walk (set_for program limits) steps (start_config program input) ≡ Done x cost
  pub spent : cost + c.fuel ≤ most
  pub count : length (seen (set_for program limits) steps (start_config program input)) ≡ c.passed
  pub same : setting_at c.execution ≡ set_for program limits
  pub whole : c.execution.broken ≡ false

-- such a run is at the position of its course
abbrev pub IsUnderWay : (program : Source) (limits : Limits) (input : List FieldWord) (most : ℕ)
    → Course → Type 0
IsUnderWay program limits input most c =
    HasLed program limits input most (config_at c.execution) c

-- the course is reversed: it is there once it is reversed again
abbrev pub IsTurned : (program : Source) (limits : Limits) (input : List FieldWord) (most : ℕ)
    → Course → Type 0
IsTurned program limits input most c =
    HasLed program limits input most (turn (config_at c.execution)) c

-- a course is where it was, with no more fuel
pub record IsThere (old new : Course) : Type 0 where
  pub place : config_at new.execution ≡ config_at old.execution
  pub passed : new.passed ≡ old.passed
  pub less : new.fuel ≤ old.fuel
  pub whole : new.execution.broken ≡ false

-- a run is under way, if it is not aborted
abbrev pub Holds : (program : Source) (limits : Limits) (input : List FieldWord) → Course → Type 0
Holds program limits input c = c.broken ≡ false → IsUnderWay program limits input MOST_COST c

-- the heap at its position
abbrev pub heap_of : Course → Kept
heap_of c = c.execution.run.heap
