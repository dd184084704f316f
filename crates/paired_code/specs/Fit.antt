-- Cells that a fragment may hold.
use Rattle.std.specs.Prelude.{◌≡◌, false, List, [], ◌∷◌}
use Rattle.code_conventions.specs.pisa_isa.declared.cell.Cell.{Cell}
use Rattle.code_conventions.specs.pisa_isa.Table.{IsCell}
use Rattle.paired_code.specs.declared.part.Symbol.{Symbol}
use Rattle.paired_code.specs.declared.part.Symbol.TheVariants.{Own, Fixed}
use Rattle.paired_code.specs.Machine.{is_end}

-- an image may hold it, and it is neither START nor FINISH
pub record IsInner (c : Cell) : Type 0 where
  pub holds : IsCell c
  pub no_end : is_end c ≡ false

abbrev pub IsFit : Symbol → Type 0
IsFit (Own c) = IsInner c
IsFit (Fixed c) = IsInner c
IsFit _ = Unit {0}

abbrev pub AllSymbolsFit : List Symbol → Type 0
AllSymbolsFit [] = Unit {0}
AllSymbolsFit (c ∷ p) = IsFit c × AllSymbolsFit p

-- so have the cells of each
abbrev pub EachFit : List (List Symbol) → Type 0
EachFit [] = Unit {0}
EachFit (b ∷ bs) = AllSymbolsFit b × EachFit bs
