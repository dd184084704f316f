-- How a run ends, and how it begins.
use Rattle.std.specs.Prelude.{◌≡◌, ◌≤◌, ℕ, List}
use Rattle.source_execution.specs.rpp_words.declared.input.FieldWord.{FieldWord}
use Rattle.source_execution.specs.rpp_words.declared.input.Limits.{Limits}
use Rattle.source_execution.specs.rpp_tree.Tree.{Source}
use Rattle.source_execution.specs.roopl_semantics.Run.{Run, Done, Fault, More}
use Rattle.source_execution.specs.roopl_semantics.Store.{State, Store}
use Rattle.source_execution.specs.roopl_semantics.Source.{main_body, starting, source}
use Rattle.source_execution.specs.source_steps.declared.stop.Stop.{Stop}
use Rattle.source_execution.specs.source_steps.declared.stop.Stop.TheVariants as stop
use Rattle.meaning_inverse.specs.InverseLaws.{InverseLeadsBack}
use Rattle.source_meaning.specs.declared.outcome.Outcome.{Outcome}
use Rattle.source_meaning.specs.declared.outcome.Outcome.TheVariants as outcome

-- a run is done at this cost, with this store
pub record EndsWith (run : Run State) (store : Store) (cost : ℕ) : Type 0 where
  pub end : State
  pub done : run ≡ Done end cost
  pub same : end.store ≡ store

-- a result is that of the run: the same case, code and cost, and the same store
abbrev pub IsOutcome : Outcome → Run State → Type 0
IsOutcome (outcome.Done store cost) run = EndsWith run store cost
IsOutcome (outcome.Fault code cost) run = run ≡ Fault code cost
IsOutcome outcome.More run = run ≡ More

-- the result of a run that stopped so at this cost
abbrev pub IsStop : Stop → ℕ → Outcome → Type 0
IsStop (stop.Fault code) cost answer = answer ≡ outcome.Fault code cost
IsStop stop.More cost answer = answer ≡ outcome.More
IsStop (stop.Lacks lack) cost answer = ⊥

-- if the run is over, more fuel gives the same answer
abbrev pub StaysSo : Outcome → Source → Limits → List FieldWord → ℕ → Type 0
StaysSo outcome.More program limits input fuel = Unit {0}
StaysSo over program limits input fuel =
    (more : ℕ) → fuel ≤ more → IsOutcome over (source program limits input more)

-- The inverse of `main`'s body leads from the final state, whose store is the returned one, back to
-- a state that agrees with the start.
pub record ComesBack (program : Source) (limits : Limits) (input : List FieldWord) (fuel : ℕ)
    (store : Store) (cost : ℕ) : Type 0 where
  pub end : EndsWith (source program limits input fuel) store cost
  pub leads : InverseLeadsBack (record { program = program; limits = limits }) (main_body program)
      (starting program input) end.end cost

-- if the run is done, its inverse undoes it
abbrev pub IsUndone : Outcome → Source → Limits → List FieldWord → ℕ → Type 0
IsUndone (outcome.Done store cost) program limits input fuel =
    ComesBack program limits input fuel store cost
IsUndone (outcome.Fault code cost) program limits input fuel = Unit {0}
IsUndone outcome.More program limits input fuel = Unit {0}
