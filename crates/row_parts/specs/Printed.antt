-- Expected texts, with ... for any text and <NAME> for a number, and what fits them.
use Rattle.std.specs.Prelude.{ℕ, suc, ◌+ℤ◌, ◌-ℤ◌, ℤ, ◌==◌, ◌||◌, List, [], ◌∷◌, ◌++◌, length, take, drop, if◌then◌else◌, codes}
use Rattle.std.specs.Prelude.{Option, Some, None, option_map, option_and_then, unwrap_or}
use Rattle.std.specs.Option.{option_or, option_map_or}
use Rattle.std.specs.Char.{is_ascii_digit}
use Rattle.std.specs.Fmt.{signed_decimal}
use Rattle.std.specs.Str.{bytes_eq}
use Rattle.row_parts.specs.Pieces.{after, cut, pieces, made_of}
use Rattle.row_parts.specs.Digits.{signed, in_64_bits}
use Rattle.row_parts.specs.Texts.{meant, is_word}

-- a part of an expected text
pub data Part : Type 0 where
  Text : (bytes : List ℕ) → Part
  Number : (name : List ℕ) → Part
  Any : Part

-- what follows a <, where NAME> is a number
abbrev pub number_parts : List ℕ → List Part
number_parts piece = unwrap_or
    (option_and_then
    (λ parts. if is_word parts.0 then Some (Number parts.0 ∷ Text (meant parts.1) ∷ []) else None)
    (cut (codes ">") piece))
    (Text (codes "<") ∷ Text (meant piece) ∷ [])

-- the parts of a text without ...
abbrev pub text_parts : List ℕ → List Part
text_parts text = made_of (λ piece. Text (meant piece) ∷ []) number_parts (pieces (codes "<") text)

-- the parts of ... and the text after it
abbrev pub end_parts : List ℕ → List Part
end_parts text = Any ∷ text_parts text

-- the parts of an expected text
abbrev pub parts : List ℕ → List Part
parts wanted = made_of text_parts end_parts (pieces (codes "...") wanted)

-- numbers that were printed, by their names, with their digits
abbrev pub Known : Type 0
Known = List (List ℕ × List ℕ)

-- the digits of a name
abbrev pub digits_named : Known → List ℕ → Option (List ℕ)
digits_named [] name = None
digits_named (number ∷ rest) name = if bytes_eq number.0 name then Some number.1
    else digits_named rest name

-- how many digits a text begins with
abbrev pub digit_count : List ℕ → ℕ
digit_count [] = 0
digit_count (byte ∷ text) = if is_ascii_digit byte then suc (digit_count text) else 0

-- the length of the number that a text begins with: digits, maybe after -
abbrev pub number_length : List ℕ → ℕ
number_length [] = 0
number_length (byte ∷ text) = if is_ascii_digit byte || byte == 45
    then suc (digit_count text) else 0

-- what a text that begins with a number leaves: the numbers with this one, and what follows it
abbrev pub learned : Known → List ℕ → List ℕ → Option (Known × List ℕ)
learned known name said = if number_length said == 0 then None
    else Some (known ++ (name, take (number_length said) said) ∷ [], drop (number_length said) said)

-- what a text leaves that begins with the number of a name: a new one, or the one that is known
abbrev pub named_number : Known → List ℕ → List ℕ → Option (Known × List ℕ)
named_number known name said = option_map_or
    (λ digits. option_map (λ left. (known, left)) (after digits said))
    (digits_named known name) (learned known name said)

-- the first of the ends of a text that is accepted, the shortest one first
abbrev pub shortest_end : (List ℕ → Option Known) → List ℕ → Option Known
shortest_end fits [] = fits []
shortest_end fits (byte ∷ said) = option_or (shortest_end fits said) (fits (byte ∷ said))

-- the numbers that are known if a text fits these parts, where the first ... is as long as it can be
abbrev pub fit : List Part → Known → List ℕ → Option Known
fit [] known said = if length said == 0 then Some known else None
fit (Text bytes ∷ rest) known said = option_and_then (fit rest known) (after bytes said)
fit (Number name ∷ rest) known said =
    option_and_then (λ found. fit rest found.0 found.1) (named_number known name said)
fit (Any ∷ rest) known said = shortest_end (fit rest known) said

-- the value of the number of a name
abbrev pub printed : Known → List ℕ → Option ℤ
printed known name = option_and_then signed (digits_named known name)

-- the value of NAME, NAME+N or NAME-N
abbrev pub value : Known → List ℕ → Option ℤ
value known text = option_map_or
    (λ sides. option_and_then (λ number. option_and_then (λ more. in_64_bits (number +ℤ more))
    (signed sides.1)) (printed known sides.0))
    (cut (codes "+") text)
    (option_map_or
    (λ sides. option_and_then (λ number. option_and_then (λ less. in_64_bits (number -ℤ less))
    (signed sides.1)) (printed known sides.0))
    (cut (codes "-") text) (printed known text))

-- what follows a <, where NAME>, NAME+N> and NAME-N> are numbers
abbrev pub valued_piece : Known → List ℕ → Option (List ℕ)
valued_piece known piece = option_map_or
    (λ parts. option_map (λ number. signed_decimal number ++ parts.1) (value known parts.0))
    (cut (codes ">") piece) (Some (codes "<" ++ piece))

-- pieces after a < one after the other, if all of their numbers were printed
abbrev pub valued_pieces : Known → List (List ℕ) → Option (List ℕ)
valued_pieces known [] = Some []
valued_pieces known (piece ∷ rest) = option_and_then
    (λ text. option_map (λ texts. text ++ texts) (valued_pieces known rest))
    (valued_piece known piece)

-- the same after a first piece
abbrev pub all_valued : Known → List (List ℕ) → Option (List ℕ)
all_valued known [] = None
all_valued known (first ∷ rest) = option_map (λ texts. first ++ texts) (valued_pieces known rest)

-- a text with the values of its <NAME>s, <NAME+N>s and <NAME-N>s, if all of them were printed
abbrev pub valued : Known → List ℕ → Option (List ℕ)
valued known text = all_valued known (pieces (codes "<") text)
