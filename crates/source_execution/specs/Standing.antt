-- A run as contracts see it.
use Rattle.std.specs.Prelude.{◌≡◌, ℕ, Bool, List, [], ◌∷◌, Option, Some, None, Result}
use Rattle.source_checks.specs.rpp_words.declared.input.FieldWord.{FieldWord}
use Rattle.source_statements.specs.rpp_tree.Tree.{Source, Statements, End, Then}
use Rattle.source_statements.specs.rpp_tree.Places.{statement_place}
use Rattle.source_checks.specs.roopl_semantics.Store.{main_name}
use Rattle.source_checks.specs.roopl_semantics.Source.{main_object}
use Rattle.source_checks.specs.roopl_semantics.Execution.{Setting}
use Rattle.source_checks.specs.meaning_machine.Machine.{Config, walk}
use Rattle.source_checks.specs.source_store.HeapView.{Kept}
use Rattle.source_checks.specs.source_steps.declared.stop.Stop.{Stop}
use Rattle.source_checks.specs.source_steps.Metered.{metered, MeteredGives}
use Rattle.source_checks.specs.source_steps.StateView.{setting_of}
use Rattle.source_checks.specs.source_blocks.declared.run.Run.{Run}
use Rattle.source_checks.specs.source_blocks.Runs.{config_of}

-- the position of a run, and whether it is aborted
pub record ExecutionStanding : Type 0 where
  pub run : Run
  pub broken : Bool

-- its program with the limits
abbrev pub setting_at : ExecutionStanding → Setting
setting_at here = setting_of here.run.setting

-- its position, as the machine sees it
abbrev pub config_at : ExecutionStanding → Config
config_at here = config_of here.run

-- the run is over
pub record IsOver (x : Config) : Type 0 where
  pub rest : x.rest ≡ End
  pub around : x.around ≡ []

-- some number of steps from here gives this with so much fuel
pub record Walks {E : Type 0} (from to : ExecutionStanding) (fuel : ℕ) (result : Result E Stop)
    (left : ℕ) : Type 0 where
  pub steps : ℕ
  pub gives : MeteredGives (λ (e : E). config_at to) result left
      (metered fuel (walk (setting_at from) steps (config_at from)))

-- the heap of a run before its first step
abbrev pub starting_heap : Source → List FieldWord → ℕ → Kept
starting_heap program input highest = record {
  order = highest;
  store = (main_name, main_object program input) ∷ [];
  log = [];
}

-- the place of the statement that begins, if one does
abbrev pub next_place : Statements → Option ℕ
next_place End = None
next_place (Then s rest) = Some (statement_place s)
