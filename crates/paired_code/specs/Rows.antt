-- Instructions in a row, and a fragment between a row and its inverse.
use Rattle.std.specs.Prelude.{List, [], ◌∷◌, ◌++◌}
use Rattle.code_conventions.specs.pisa_isa.declared.cell.Cell.{Cell}
use Rattle.paired_code.specs.declared.part.Symbol.{Symbol}
use Rattle.paired_code.specs.declared.part.Symbol.TheVariants.{Own}
use Rattle.paired_code.specs.Layout.{mirror_cells}

-- instructions in a row
abbrev pub line : List Cell → List Symbol
line [] = []
line (c ∷ cs) = Own c ∷ line cs

-- a row, a fragment, and the row run the other way
abbrev pub within_symbols : List Cell → List Symbol → List Symbol
within_symbols row piece = line row ++ (piece ++ mirror_cells (line row))
