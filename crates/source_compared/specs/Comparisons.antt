-- What a check that fails compares: what it finds, and what it needs.
use Rattle.std.specs.Prelude.{ℕ, Bool, true, nat_lt, length, if◌then◌else◌, Result, Ok, Err}
use Rattle.source_store.specs.roopl_semantics.Store.{Value, Word, Name, Head, Store}
use Rattle.source_store.specs.roopl_semantics.Store.{object_at, number_of, cleared}

-- what a check compares
pub data Compared : Type 0 where
  -- a value with a truth
  Truth : (found : Value) (wanted : Bool) → Compared
  -- two values
  Values : (found wanted : Value) → Compared
  -- an index or a number of calls, which must be below a limit
  Below : (found : Value) (limit : ℕ) → Compared
  -- nil, which must be an array or an object
  Missing : (array : Bool) → Compared
  -- a reference count, which must be 1
  Count : (found : ℕ) → Compared
  -- the size that a statement names, which must be the length of the array
  Length : (found : Value) (wanted : ℕ) → Compared
  -- the size of a new array, which must be at least 1
  Size : (found : Value) → Compared
  -- what an object is, and what it must be
  Heads : (found wanted : Head) → Compared
  Nothing : Compared

-- of two checks in a row, the one that fails first
abbrev pub first_of : Compared → Compared → Compared
first_of Nothing second = second
first_of first second = first

-- an element of an array at an index, if it is not there
abbrev pub access_in : Store → (array : Value) → (index : ℕ) → Compared
access_in store (Name array) index =
    if nat_lt index (length (object_at store array).cells) then Nothing
    else Below (Word index) (length (object_at store array).cells)
access_in store _ index = Missing true

-- the same once the index has its value
abbrev pub access_at : Store → (array : Value) → (index : Result Value ℕ) → Compared
access_at store array (Ok index) = access_in store array (number_of index)
access_at store array (Err fault) = Nothing

-- a value that must be 0 or nil
abbrev pub to_be_zero : Value → Compared
to_be_zero v = Values v (cleared v)

-- a test whose evaluation meets a fault compares what the evaluation does
abbrev pub truth : (wanted : Bool) → (failed : Compared) → Result Value ℕ → Compared
truth wanted failed (Ok found) = Truth found wanted
truth wanted failed (Err fault) = failed

abbrev pub same_as : (found : Value) → (failed : Compared) → Result Value ℕ → Compared
same_as found failed (Ok wanted) = Values found wanted
same_as found failed (Err fault) = failed
