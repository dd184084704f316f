-- The words before an object's fields, or of an array's elements.
use Rattle.std.specs.Prelude.{ℕ, List, [], ◌∷◌}

-- the address of the class's table or the array's length, and how many cells refer to it
abbrev pub header : (head count : ℕ) → List ℕ
header head count = head ∷ count ∷ []
