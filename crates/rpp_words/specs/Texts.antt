-- What texts of all layers share: the end of a line, and the number that decimal digits write.
use Rattle.std.specs.Prelude.{ℕ, ◌+◌, ◌-◌, ◌*◌, List, [], ◌∷◌}

-- the byte that ends a line
abbrev pub line_end : List ℕ
line_end = 10 ∷ []

-- the number that these digits write after a number
abbrev pub decimal_from : ℕ → List ℕ → ℕ
decimal_from before [] = before
decimal_from before (digit ∷ rest) = decimal_from (10 * before + (digit - 48)) rest
