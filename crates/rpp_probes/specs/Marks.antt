-- Marks of code addresses.
use Rattle.std.specs.Prelude.{ℕ, ◌≤◌, List}
use Rattle.std.specs.List.{All}

-- a code address is marked by 1, and not by 0
abbrev pub AreMarks : List ℕ → Type 0
AreMarks marks = All (λ mark. mark ≤ 1) marks
