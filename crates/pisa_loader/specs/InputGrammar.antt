-- The form of a line that sets a field.
use Rattle.std.specs.Prelude.{◌≡◌, ℕ, Bool, true, false, ◌&&◌, List, [], ◌∷◌, ◌++◌, Some}
use Rattle.std.specs.List.{list_all}
use Rattle.std.specs.Char.{is_ascii_alphabetic, is_ascii_digit}
use Rattle.pisa_machine.specs.rpp_words.Names.{is_name_byte}
use Rattle.pisa_loader.specs.InputLines.{is_blank, word_up_to}
use Rattle.pisa_machine.specs.rpp_words.Texts.{decimal_from}

-- only spaces and tabs
abbrev pub are_blanks : List ℕ → Bool
are_blanks bytes = list_all is_blank bytes

-- a letter, and then letters, digits, `_` and `'`
abbrev pub is_input_name : List ℕ → Bool
is_input_name [] = false
is_input_name (byte ∷ rest) = is_ascii_alphabetic byte && list_all is_name_byte rest

-- one digit or more
abbrev pub is_numeral : List ℕ → Bool
is_numeral [] = false
is_numeral (byte ∷ rest) = is_ascii_digit byte && list_all is_ascii_digit rest

abbrev pub sign : (minus : Bool) → List ℕ
sign true = 45 ∷ []
sign false = []

pub record Parts : Type 0 where
  pub before : List ℕ
  pub name : List ℕ
  pub between : List ℕ
  pub behind_sign : List ℕ
  pub minus : Bool
  pub digits : List ℕ
  pub after : List ℕ

-- blanks, a name, blanks, `=`, blanks, a number, blanks
abbrev pub input_line : Parts → List ℕ
input_line p =
    p.before
    ++ (p.name ++ (p.between ++ (61 ∷ (p.behind_sign ++ (sign p.minus ++ (p.digits ++ p.after))))))

pub record AreParts (p : Parts) : Type 0 where
  pub blank_before : are_blanks p.before ≡ true
  pub named : is_input_name p.name ≡ true
  pub blank_between : are_blanks p.between ≡ true
  pub blank_behind_sign : are_blanks p.behind_sign ≡ true
  pub numeral : is_numeral p.digits ≡ true
  pub blank_after : are_blanks p.after ≡ true

-- the line sets the name's field to the word
pub record Sets (line name : List ℕ) (word : ℕ) : Type 0 where
  pub parts : Parts
  pub are_parts : AreParts parts
  pub spelled : line ≡ input_line parts
  pub same_name : parts.name ≡ name
  pub in_range : word_up_to parts.minus (decimal_from 0 parts.digits) ≡ Some word
