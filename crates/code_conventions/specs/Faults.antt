-- The names of the faults.
use Rattle.std.specs.Prelude.{ℕ, ◌==◌, List, [], codes, if◌then◌else◌}
use Rattle.code_conventions.specs.declared.faults.TheConstants.{FI, LOOP, DELOCAL, NOT_NIL, NIL, COUNT}
use Rattle.code_conventions.specs.declared.faults.TheConstants.{NOT_EMPTY, HEAP_FULL, INDEX, NOT_SAME, CLASS_DIFFERS, LENGTH_DIFFERS}
use Rattle.code_conventions.specs.declared.faults.TheConstants.{LENGTH, TOO_DEEP, TOUCHED, SHARED_ARRAY}

-- the name of a fault with a space before it; a number that is no fault has none
abbrev pub fault_name : ℕ → List ℕ
fault_name code =
    if code == FI then codes " Fi"
    else if code == LOOP then codes " Loop"
    else if code == DELOCAL then codes " Delocal"
    else if code == NOT_NIL then codes " NotNil"
    else if code == NIL then codes " Nil"
    else if code == COUNT then codes " Count"
    else if code == NOT_EMPTY then codes " NotEmpty"
    else if code == HEAP_FULL then codes " HeapFull"
    else if code == INDEX then codes " Index"
    else if code == NOT_SAME then codes " NotSame"
    else if code == CLASS_DIFFERS then codes " ClassDiffers"
    else if code == LENGTH_DIFFERS then codes " LengthDiffers"
    else if code == LENGTH then codes " Length"
    else if code == TOO_DEEP then codes " TooDeep"
    else if code == TOUCHED then codes " Touched"
    else if code == SHARED_ARRAY then codes " SharedArray"
    else []
