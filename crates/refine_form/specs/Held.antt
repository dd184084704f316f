-- What a call that is given fragments keeps of their cells and marks.
use Rattle.std.specs.Prelude.{◌≡◌, ◌+◌, List, ◌++◌, length}
use Rattle.paired_code.specs.declared.part.Symbol.{Symbol}
use Rattle.paired_code.specs.Code.{Code, shift}

-- the fragment has the cells of another one in it, with its marks on them, and no others
pub record HoldsCode (inner p : Code) : Type 0 where
  pub before : List Symbol
  pub after : List Symbol
  pub cells : p.cells ≡ before ++ (inner.cells ++ after)
  pub marks : p.marks ≡ shift (length before) inner.marks

-- the same for two fragments, of which the left one comes first
pub record HoldsBoth (left right p : Code) : Type 0 where
  pub before : List Symbol
  pub mid : List Symbol
  pub after : List Symbol
  pub cells : p.cells ≡ before ++ (left.cells ++ (mid ++ (right.cells ++ after)))
  pub marks : p.marks ≡ shift (length before) left.marks
      ++ shift (length before + length left.cells + length mid) right.marks
