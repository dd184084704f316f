-- The runs of programs on the machine.
use Rattle.std.specs.Prelude.{◌≡◌, ◌<◌, ◌≤◌, ℕ, List, []}
use Rattle.meaning_points.specs.rpp_words.declared.input.FieldWord.{FieldWord}
use Rattle.meaning_points.specs.rpp_words.declared.input.Limits.{Limits}
use Rattle.meaning_points.specs.rpp_tree.Tree.{Source, End}
use Rattle.meaning_points.specs.roopl_semantics.Run.{Run, Done, Fault, More}
use Rattle.meaning_points.specs.roopl_semantics.Store.{State}
use Rattle.meaning_points.specs.roopl_semantics.Source.{main_body, starting, source}
use Rattle.meaning_points.specs.roopl_semantics.Execution.{Setting}
use Rattle.meaning_points.specs.Trail.{trail}
use Rattle.meaning_machine.specs.Machine.{Config, walk}
use Rattle.meaning_machine.specs.MachineLaws.{config_before, config_after, Arrives, Breaks}

abbrev pub set_for : Source → Limits → Setting
set_for program limits = record { program = program; limits = limits }

-- where the run of a program begins
abbrev pub start_config : Source → List FieldWord → Config
start_config program input = config_before End (main_body program) 0 [] (starting program input)

-- where it is over
abbrev pub end_config : Source → State → Config
end_config program end = config_after End (main_body program) 0 [] end

-- a run that costs more than the fuel
abbrev pub Exceeds : {A : Type 0} → ℕ → Run A → Type 0
Exceeds fuel (Done result cost) = fuel < cost
Exceeds fuel (Fault code cost) = fuel < cost
Exceeds fuel More = ⊥

-- some number of steps costs more than the fuel
pub record Outlasts (setting : Setting) (x : Config) (fuel : ℕ) : Type 0 where
  pub steps : ℕ
  pub exceeds : Exceeds fuel (walk setting steps x)

-- The machine's steps from the start are the semantics of the source. With every fuel, the
-- semantics gives a state or a fault exactly if some number of steps leads to it at a cost within
-- the fuel. Then the cost and the trace points are the same. The semantics is out of fuel exactly
-- if some number of steps costs more. Wherever a walk is over within the fuel, it is over in the
-- state that the source gives.
pub record SourceIsMachine (program : Source) (limits : Limits) (input : List FieldWord)
    (fuel : ℕ) : Type 0 where
  pub done : (end : State) (cost : ℕ) → source program limits input fuel ≡ Done end cost
      → Arrives (set_for program limits) (start_config program input) (end_config program end) cost
      (trail program limits input fuel).points
  pub fault : (code cost : ℕ) → source program limits input fuel ≡ Fault code cost
      → Breaks (set_for program limits) (start_config program input) code cost
      (trail program limits input fuel).points
  pub more : source program limits input fuel ≡ More
      → Outlasts (set_for program limits) (start_config program input) fuel
  pub done_only : (steps : ℕ) (end : State) (cost : ℕ)
      → walk (set_for program limits) steps (start_config program input)
      ≡ Done (end_config program end) cost
      → cost ≤ fuel → source program limits input fuel ≡ Done end cost
  pub fault_only : (steps code cost : ℕ)
      → walk (set_for program limits) steps (start_config program input) ≡ Fault code cost
      → cost ≤ fuel → source program limits input fuel ≡ Fault code cost
  pub more_only : Outlasts (set_for program limits) (start_config program input) fuel
      → source program limits input fuel ≡ More
  pub over : (steps : ℕ) (to : Config) (cost : ℕ)
      → walk (set_for program limits) steps (start_config program input) ≡ Done to cost
      → to.rest ≡ End → to.around ≡ [] → cost ≤ fuel
      → source program limits input fuel ≡ Done to.state cost
  pub not_over : (steps : ℕ)
      → walk (set_for program limits) steps (start_config program input) ≡ More
      → source program limits input fuel ≡ More
