-- Laws of the trace points of a run.
use Rattle.std.specs.Prelude.{◌≡◌, ◌≤◌, ℕ, List, ◌++◌}
use Rattle.roopl_semantics.specs.rpp_tree.Tree.{Statements}
use Rattle.roopl_semantics.specs.Run.{Done, Fault}
use Rattle.roopl_semantics.specs.Store.{State}
use Rattle.roopl_semantics.specs.Execution.{Setting, exec}
use Rattle.meaning_points.specs.Points.{Point, points}

-- a list begins with another
abbrev pub StartsWith : List Point → List Point → Type 0
StartsWith first whole = (more : List Point) × (whole ≡ first ++ more)

-- more fuel only adds trace points; if the run is over, it adds none and ends the same
pub record MoreFuelAdds : Type 0 where
  pub adds : (setting : Setting) (n m params : ℕ) (body : Statements) (st : State) → n ≤ m
      → StartsWith (points setting n params body st) (points setting m params body st)
  pub done : (setting : Setting) (n m params : ℕ) (body : Statements) (st end : State) (cost : ℕ)
      → n ≤ m
      → exec setting n body st ≡ Done end cost
      → (points setting m params body st ≡ points setting n params body st)
      × (exec setting m body st ≡ Done end cost)
  pub fault : (setting : Setting) (n m params : ℕ) (body : Statements) (st : State) (code cost : ℕ)
      → n ≤ m
      → exec setting n body st ≡ Fault code cost
      → (points setting m params body st ≡ points setting n params body st)
      × (exec setting m body st ≡ Fault code cost)
