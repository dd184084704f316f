-- What is compared, as it is kept.
use Rattle.std.specs.Prelude.{◌≡◌, ℕ, Some, None, Result, Ok, Err}
use Rattle.std.specs.declared.option.Option.{Option}
use Rattle.source_store.specs.roopl_semantics.Store.{Value}
use Rattle.source_store.specs.declared.value.Value.{Value as Held}
use Rattle.source_store.specs.ValueView.{value_of, kept_head}
use Rattle.source_compared.specs.declared.comparing.Compared.{Compared as Compares}
use Rattle.source_compared.specs.declared.comparing.Compared.TheVariants as compares
use Rattle.source_compared.specs.Comparisons.{Compared, Truth, Values, Below, Missing, Count}
use Rattle.source_compared.specs.Comparisons.{Length, Size, Heads, Nothing}

abbrev pub compared_of : Compares → Compared
compared_of (compares.Truth found wanted) = Truth (value_of found) wanted
compared_of (compares.Values found wanted) = Values (value_of found) (value_of wanted)
compared_of (compares.Below found limit) = Below (value_of found) limit
compared_of (compares.Missing array) = Missing array
compared_of (compares.Count found) = Count found
compared_of (compares.Length found wanted) = Length (value_of found) wanted
compared_of (compares.Size found) = Size (value_of found)
compared_of (compares.Heads found wanted) = Heads (kept_head found) (kept_head wanted)
compared_of compares.Nothing = Nothing

-- the value of an expression, or none if its evaluation meets a fault
abbrev pub IsValue : Option Held → Result Value ℕ → Type 0
IsValue (Some found) result = result ≡ Ok (value_of found)
IsValue None result = (fault : ℕ) × (result ≡ Err fault)
