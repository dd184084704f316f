-- The marks of names, as bits of a number.
use Rattle.std.specs.Prelude.{◌≡◌, ℕ, ◌+◌, ◌*◌, ◌%◌, ◌^◌, Bool, true, nat_eq, List, [], ◌∷◌, length}
use Rattle.std.specs.Prelude.{bit_or}
use Rattle.std.specs.Int.{bit_at}
use Rattle.class_table.specs.rpp_tree.declared.tree.Var.{Var}

-- the number of the mark of a name, from its first byte and its length
abbrev pub mark_number : List ℕ → ℕ
mark_number [] = 0
mark_number (first ∷ rest) = (first + 8 * (length (first ∷ rest) % 8)) % 64

-- whether a name has its mark among these
abbrev pub has_mark : ℕ → List ℕ → Bool
has_mark marks name = nat_eq (bit_at marks (mark_number name)) 1

-- these marks with that of one more name
abbrev pub with_mark : ℕ → List ℕ → ℕ
with_mark marks name = bit_or marks (2 ^ mark_number name)

-- these marks with those of the names of parameters
abbrev pub with_marks : ℕ → List Var → ℕ
with_marks marks [] = marks
with_marks marks (var ∷ vars) = with_marks (with_mark marks var.name.text) vars

-- each of these names has its mark
abbrev pub AreMarked : ℕ → List (List ℕ) → Type 0
AreMarked marks [] = Unit {0}
AreMarked marks (name ∷ names) = (has_mark marks name ≡ true) × AreMarked marks names
