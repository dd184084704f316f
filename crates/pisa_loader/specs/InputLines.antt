-- What the lines of an input say, and the first refusal.
use Rattle.std.specs.Prelude.{ℕ, ◌+◌, ◌^◌, Bool, true, false, not, ◌&&◌, ◌||◌, nat_eq}
use Rattle.std.specs.Prelude.{nat_lt, nat_le, IsTrue, All, if◌then◌else◌, List, [], ◌∷◌, ◌++◌, drop}
use Rattle.std.specs.Prelude.{Option, Some, None, Result, Ok, Err}
use Rattle.std.specs.List.{prefix_len, take_while, list_all, list_any, slice_split}
use Rattle.std.specs.Option.{option_and_then}
use Rattle.std.specs.Char.{is_ascii_alphabetic, is_ascii_digit}
use Rattle.std.specs.Str.{bytes_eq}
use Rattle.pisa_machine.specs.rpp_words.declared.input.FieldWord.{FieldWord}
use Rattle.pisa_machine.specs.rpp_words.Words.{IsWord, negated}
use Rattle.pisa_machine.specs.rpp_words.Texts.{decimal_from}
use Rattle.pisa_machine.specs.rpp_words.Names.{is_name_byte}
use Rattle.pisa_image.specs.Numbers.{◌>>=◌}
use Rattle.pisa_loader.specs.declared.error.LoadError.{LoadError}
use Rattle.pisa_loader.specs.declared.error.LoadError.TheVariants.{UnknownField, BadInputLine}
use Rattle.pisa_loader.specs.declared.input.InputField.{InputField}

-- a space or a tab
abbrev pub is_blank : ℕ → Bool
is_blank byte = nat_eq byte 32 || nat_eq byte 9

-- what follows the first bytes that pass
abbrev pub behind : (ℕ → Bool) → List ℕ → List ℕ
behind passes text = drop (prefix_len passes text) text

-- what follows a byte that must come first
abbrev pub after : (first : ℕ) → List ℕ → Option (List ℕ)
after first [] = None
after first (byte ∷ rest) = if nat_eq byte first then Some rest else None

-- the word of a number with or without a minus, from -2147483648 to 2147483647
abbrev pub word_up_to : (minus : Bool) → ℕ → Option ℕ
word_up_to true number = if nat_le number (2 ^ 31) then Some (negated number) else None
word_up_to false number = if nat_lt number (2 ^ 31) then Some number else None

-- digits, which blanks may follow up to the end of the line
unfoldable pub digits_word : (minus : Bool) → List ℕ → Option ℕ
digits_word minus text =
    if nat_eq (prefix_len is_ascii_digit text) 0
    || not (list_all is_blank (behind is_ascii_digit text)) then None
    else word_up_to minus (decimal_from 0 (take_while is_ascii_digit text))

-- a number, which may begin with a minus
abbrev pub number_word : List ℕ → Option ℕ
number_word [] = None
number_word (byte ∷ rest) = if nat_eq byte 45 then digits_word true rest
    else digits_word false (byte ∷ rest)

-- the name and the word of a line that sets a field
pub record Entry : Type 0 where
  pub name : List ℕ
  pub word : ℕ

abbrev pub entry : List ℕ → ℕ → Entry
entry name word = record { name = name; word = word }

-- a name, `=` and a number, with blanks around each
unfoldable pub entry_in : List ℕ → Option Entry
entry_in line =
    let text = behind is_blank line in
    if nat_eq (prefix_len is_ascii_alphabetic text) 0 then None
    else option_and_then (λ value. option_and_then
    (λ word. Some (entry (take_while is_name_byte text) word))
    (number_word (behind is_blank value)))
    (after 61 (behind is_blank (behind is_name_byte text)))

-- the number of the first field of this name
abbrev pub field_named : List InputField → List ℕ → Option ℕ
field_named [] name = None
field_named (known ∷ fields) name = if bytes_eq known.name name then Some known.field
    else field_named fields name

abbrev pub is_set : List FieldWord → ℕ → Bool
is_set words field = list_any (λ word. nat_eq word.field field) words

-- a field that no earlier line set is set
abbrev pub next_word : (line : ℕ) → List FieldWord → Option ℕ → ℕ
    → Result (Option FieldWord) LoadError
next_word line words None word = Err (UnknownField line)
next_word line words (Some field) word = if is_set words field then Err (UnknownField line)
    else Ok (Some (record { field = field; word = word }))

abbrev pub entry_word : List InputField → (line : ℕ) → List FieldWord → Option Entry
    → Result (Option FieldWord) LoadError
entry_word fields line words None = Err (BadInputLine line)
entry_word fields line words (Some e) = next_word line words (field_named fields e.name) e.word

-- what a line sets in addition to the words of the lines before it
abbrev pub line_word : List InputField → (line : ℕ) → List FieldWord → List ℕ
    → Result (Option FieldWord) LoadError
line_word fields line words text = if list_all is_blank text then Ok None
    else entry_word fields line words (entry_in text)

abbrev pub with_field_word : List FieldWord → Option FieldWord → List FieldWord
with_field_word words None = words
with_field_word words (Some word) = words ++ word ∷ []

-- line by line, the first of which has this number
unfoldable pub words_from : List InputField → (line : ℕ) → List FieldWord → List (List ℕ)
    → Result (List FieldWord) LoadError
words_from fields line words [] = Ok words
words_from fields line words (text ∷ texts) =
    line_word fields line words text >>= λ word. words_from fields (line + 1) (with_field_word words word)
    texts

-- line feeds part the lines
abbrev pub input_of : List InputField → List ℕ → Result (List FieldWord) LoadError
input_of fields bytes = words_from fields 1 [] (slice_split (λ byte. nat_eq byte 10) bytes)

abbrev pub is_field : List InputField → ℕ → Bool
is_field fields field = list_any (λ known. nat_eq known.field field) fields

abbrev pub set_none_twice : List FieldWord → Bool
set_none_twice [] = true
set_none_twice (word ∷ words) = not (is_set words word.field) && set_none_twice words

-- words for these fields, for none twice
pub record AreInput (fields : List InputField) (words : List FieldWord) : Type 0 where
  pub known : All (λ word. IsTrue (is_field fields word.field)) words
  pub once : IsTrue (set_none_twice words)
  pub are_words : All (λ word. IsWord word.word) words
