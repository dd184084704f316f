-- The lines of a text, and the words of lines.
use Rattle.std.specs.Prelude.{ℕ, ◌-◌, Bool, false, not, List, [], ◌∷◌, length, take, ◌==◌, ◌||◌}
use Rattle.std.specs.Prelude.{slice_index, if◌then◌else◌}
use Rattle.std.specs.List.{before_first}

-- a byte put before the first of these pieces
abbrev pub onto_first : ℕ → List (List ℕ) → List (List ℕ)
onto_first b [] = (b ∷ []) ∷ []
onto_first b (piece ∷ pieces) = (b ∷ piece) ∷ pieces

-- a line ends with a line feed or the end of the text
abbrev pub lines_of : List ℕ → List (List ℕ)
lines_of [] = []
lines_of (b ∷ text) = if b == 10 then [] ∷ lines_of text else onto_first b (lines_of text)

-- whether the last byte is this one, which is not 0
abbrev pub ends_in : ℕ → List ℕ → Bool
ends_in b bytes = slice_index bytes (length bytes - 1) == b

-- all bytes but the last
abbrev pub all_but_last : List ℕ → List ℕ
all_but_last bytes = take (length bytes - 1) bytes

-- a line without the carriage return at its end
abbrev pub without_return : List ℕ → List ℕ
without_return line = if ends_in 13 line then all_but_last line else line

-- a line without the comment, which `;` begins
abbrev pub content_of : List ℕ → List ℕ
content_of line = before_first (λ b. b == 59) (without_return line)

-- space and tab
abbrev pub is_blank_byte : ℕ → Bool
is_blank_byte b = b == 32 || b == 9

abbrev pub begins_word : List ℕ → Bool
begins_word [] = false
begins_word (b ∷ rest) = not (is_blank_byte b)

-- what is between blanks
abbrev pub line_words : List ℕ → List (List ℕ)
line_words [] = []
line_words (b ∷ rest) = if is_blank_byte b then line_words rest
    else (if begins_word rest then onto_first b (line_words rest) else (b ∷ []) ∷ line_words rest)
