-- A law of positions.
use Rattle.std.specs.Prelude.{◌≡◌, ℕ, List}
use Rattle.source_debugger.specs.rpp_words.declared.input.FieldWord.{FieldWord}
use Rattle.source_debugger.specs.rpp_words.declared.input.Limits.{Limits}
use Rattle.source_debugger.specs.rpp_tree.Tree.{Source}
use Rattle.source_debugger.specs.meaning_machine.Machine.{Config}
use Rattle.source_debugger.specs.Stacks.{IsThere}

-- the machine is in one place, and has cost the same
pub record AreOne (program : Source) (limits : Limits) (input : List FieldWord) (position : ℕ)
    (x y : Config) (first : IsThere program limits input position x)
    (second : IsThere program limits input position y) : Type 0 where
  pub place : x ≡ y
  pub cost : first.cost ≡ second.cost

-- the machine is nowhere else at a position of a run, and at no other cost
abbrev pub PositionsAreOne : Type 0
PositionsAreOne =
    (program : Source) (limits : Limits) (input : List FieldWord) (position : ℕ) (x y : Config)
    (first : IsThere program limits input position x)
    (second : IsThere program limits input position y)
    → AreOne program limits input position x y first second
