-- The cells of a row.
use Rattle.std.specs.Prelude.{List, drop}
use Rattle.paired_code.specs.declared.part.Symbol.{Symbol}
use Rattle.paired_code.specs.declared.row.Row.{Row}

abbrev pub symbols_in : Row → List Symbol
symbols_in row = drop row.first row.store.items
