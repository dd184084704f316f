-- The words of data cells of which only the first are stored.
use Rattle.std.specs.Prelude.{ℕ, ◌-◌, List, ◌++◌, length, replicate}

-- so many words: those that are stored, and zeros
abbrev pub words_of : List ℕ → ℕ → List ℕ
words_of words count = words ++ replicate (count - length words) 0
