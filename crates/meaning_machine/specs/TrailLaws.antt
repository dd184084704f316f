-- The trace points that the machine passes.
use Rattle.std.specs.Prelude.{◌≡◌, ◌<◌, ◌≤◌, ℕ, List, [], ◌++◌}
use Rattle.meaning_points.specs.rpp_words.declared.input.FieldWord.{FieldWord}
use Rattle.meaning_points.specs.rpp_words.declared.input.Limits.{Limits}
use Rattle.meaning_points.specs.rpp_tree.Tree.{Source, End}
use Rattle.meaning_points.specs.roopl_semantics.Run.{Done, Fault}
use Rattle.meaning_points.specs.Points.{Point}
use Rattle.meaning_points.specs.Trail.{trail}
use Rattle.meaning_machine.specs.Machine.{Config, walk, seen, point_of}
use Rattle.meaning_machine.specs.SourceLaws.{set_for, start_config}

-- these trace points begin with others, and then with the next ones
pub record BeginsWith (all first next : List Point) : Type 0 where
  pub more : List Point
  pub are : all ≡ first ++ (next ++ more)

-- The machine passes the trace points of a run, bounded by n. If a walk ends within the bound, or
-- stops with a fault, it has passed them all. Before that, the next trace point is the one at which
-- the walk is.
pub record TrailIsWalked (program : Source) (limits : Limits) (input : List FieldWord)
    (n : ℕ) : Type 0 where
  pub over : (steps : ℕ) (to : Config) (cost : ℕ)
      → walk (set_for program limits) steps (start_config program input) ≡ Done to cost
      → to.rest ≡ End → to.around ≡ [] → cost ≤ n
      → ((trail program limits input n).end ≡ Done to.state cost)
      × ((trail program limits input n).points
      ≡ seen (set_for program limits) steps (start_config program input))
  pub fault : (steps code cost : ℕ)
      → walk (set_for program limits) steps (start_config program input) ≡ Fault code cost
      → cost ≤ n
      → ((trail program limits input n).end ≡ Fault code cost)
      × ((trail program limits input n).points
      ≡ seen (set_for program limits) steps (start_config program input))
  pub along : (steps : ℕ) (to : Config) (cost : ℕ)
      → walk (set_for program limits) steps (start_config program input) ≡ Done to cost → cost < n
      → BeginsWith (trail program limits input n).points
      (seen (set_for program limits) steps (start_config program input))
      (point_of (set_for program limits) to.params to.state to.rest)
