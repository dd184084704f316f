-- Texts with names, and copies of texts.
use Rattle.std.specs.Prelude.{ℕ, zero, suc, nat_lt, List, [], ◌∷◌, ◌++◌, if◌then◌else◌, codes, decimal}
use Rattle.std.specs.Prelude.{Option, Some, None, option_map, option_and_then, unwrap_or}
use Rattle.std.specs.Option.{option_or, option_map_or}
use Rattle.std.specs.Str.{bytes_eq}
use Rattle.row_parts.specs.Pieces.{begins, ends, after, cut, cut_last, pieces, made_of}
use Rattle.row_parts.specs.Digits.{unsigned}

-- texts with their names
abbrev pub Named : Type 0
Named = List (List ℕ × List ℕ)

-- the text of the last with this name
abbrev pub text_named : Named → List ℕ → Option (List ℕ)
text_named [] name = None
text_named (named ∷ rest) name = option_or (text_named rest name)
    (if bytes_eq named.0 name then Some named.1 else None)

-- what follows a {, where NAME} is the text of the name
abbrev pub filled_piece : Named → List ℕ → List ℕ
filled_piece names piece = unwrap_or
    (option_and_then (λ parts. option_map (λ text. text ++ parts.1) (text_named names parts.0))
    (cut (codes "}") piece))
    (codes "{" ++ piece)

-- a text with each {NAME} filled
abbrev pub filled_once : Named → List ℕ → List ℕ
filled_once names text = made_of (λ piece. piece) (filled_piece names) (pieces (codes "{") text)

-- the same so many times
unfoldable pub filled_times : ℕ → Named → List ℕ → List ℕ
filled_times zero names text = text
filled_times (suc rounds) names text = filled_times rounds names (filled_once names text)

-- a number in two digits or more
abbrev pub two_digits : ℕ → List ℕ
two_digits number = (if nat_lt number 10 then codes "0" else []) ++ decimal number

-- what follows a ##, with the number in its place
abbrev pub numbered_piece : ℕ → List ℕ → List ℕ
numbered_piece number piece = two_digits number ++ piece

-- a text in which ## is a number
abbrev pub numbered : ℕ → List ℕ → List ℕ
numbered number text = made_of (λ piece. piece) (numbered_piece number) (pieces (codes "##") text)

-- so many copies of a text, in which ## is the number of the copy, from 0
abbrev pub copies : List ℕ → ℕ → List ℕ
copies text zero = []
copies text (suc count) = copies text count ++ numbered count text

-- the text, the number of copies and the rest of a piece `text)*COUNT}rest`
abbrev pub copying : List ℕ → Option (List ℕ × ℕ × List ℕ)
copying piece = option_and_then (λ parts. option_and_then
    (λ copied. option_map (λ count. (copied.0, count, parts.1)) (unsigned 32 10 copied.1))
    (cut_last (codes ")*") parts.0)) (cut (codes "}") piece)

-- what follows a {(, where text)*COUNT} is so many copies of the text
abbrev pub copied_piece : List ℕ → List ℕ
copied_piece piece = option_map_or (λ parts. copies parts.0 parts.1 ++ parts.2) (copying piece)
    (codes "{(" ++ piece)

-- a text with its {NAME}s, filled up to 9 times, and then with its {(text)*COUNT}s
abbrev pub filled : Named → List ℕ → List ℕ
filled names text = made_of (λ piece. piece) copied_piece
    (pieces (codes "{(") (filled_times 9 names text))

-- a text and the text of a line `| text` below it
abbrev pub continued : List ℕ → List ℕ → List ℕ
continued text line = ((text ++ (if ends text (codes ":") then codes " " else []))
    ++ unwrap_or (after (codes "| ") line) []) ++ codes "\n"

-- the filled lines from a text on, to which the lines `| text` below it go
abbrev pub lines_from : Named → List ℕ → List (List ℕ) → List (List ℕ)
lines_from names text [] = text ∷ []
lines_from names text (line ∷ lines) = if begins line (codes "|")
    then lines_from names (continued text (filled names line)) lines
    else text ∷ lines_from names (filled names line) lines

-- the lines with their names filled; the lines `| text` go to the line before them
abbrev pub filled_lines : Named → List (List ℕ) → List (List ℕ)
filled_lines names [] = []
filled_lines names (line ∷ lines) = lines_from names (filled names line) lines
