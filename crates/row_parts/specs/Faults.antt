-- What of a row differs.
use Rattle.std.specs.Prelude.{◌≡◌, ℕ, List, Option, Some, None, Result, Ok, Err, option_map, ◌++◌, codes, ⊤}
use Rattle.row_parts.specs.declared.fault.Fault.{Fault}
use Rattle.row_parts.specs.declared.fault.Fault.TheVariants.{Differs, NoMemory}

-- the text of a fault
abbrev pub fault_text : Fault → List ℕ
fault_text (Differs what) = what.now
fault_text NoMemory = codes "no memory is left"

-- a result is an error exactly if something differs, with this text, or if memory ran out
abbrev pub Says : {A : Type 0} → Option (List ℕ) → Result A Fault → Type 0
Says difference (Ok value) = difference ≡ None
Says difference (Err (Differs what)) = difference ≡ Some what.now
Says difference (Err NoMemory) = ⊤

-- a text is added, if all its numbers were printed
abbrev pub Adds : Option (List ℕ) → List ℕ → List ℕ → Result (Unit {0}) Fault → Type 0
Adds text old new (Ok done) = option_map (λ added. old ++ added) text ≡ Some new
Adds text old new (Err (Differs what)) = (text ≡ None)
    × (what.now ≡ codes "a number was not printed")
Adds text old new (Err NoMemory) = ⊤
