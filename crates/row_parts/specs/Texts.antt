-- The bytes that the texts of a row mean, and their words.
use Rattle.std.specs.Prelude.{ℕ, ◌+◌, ◌-◌, ◌*◌, ◌==◌, Bool, not, ◌&&◌, ◌||◌, List, [], ◌∷◌}
use Rattle.std.specs.Prelude.{length, map, flat_map, if◌then◌else◌, encode_utf8}
use Rattle.std.specs.Char.{is_ascii_alphanumeric}
use Rattle.std.specs.Int.{is_in_range}
use Rattle.std.specs.List.{list_all, slice_split}

-- the value of a digit to the base 16
abbrev pub digit : ℕ → ℕ
digit byte = if is_in_range 48 57 byte then byte - 48
    else if is_in_range 97 102 byte then byte - 97 + 10
    else 0

-- the byte of \n, \t and \r, and of \ before another byte
abbrev pub escaped : ℕ → ℕ
escaped letter = if letter == 110 then 10
    else if letter == 116 then 9
    else if letter == 114 then 13
    else letter

-- the bytes that a text means: \n, \t, \r, \\ and \xNN are bytes
abbrev mutual
  pub meant : List ℕ → List ℕ
  meant [] = []
  meant (byte ∷ text) = if byte == 92 then after_backslash text else byte ∷ meant text

  pub after_backslash : List ℕ → List ℕ
  after_backslash [] = []
  after_backslash (byte ∷ text) = if byte == 120 then after_x text else escaped byte ∷ meant text

  pub after_x : List ℕ → List ℕ
  after_x [] = []
  after_x (high ∷ text) = after_high text high

  pub after_high : List ℕ → ℕ → List ℕ
  after_high [] high = []
  after_high (low ∷ text) high = (digit high * 16 + digit low) ∷ meant text

-- the words that a text means, between spaces, with a character for each byte
abbrev pub words : List ℕ → List (List ℕ)
words text = map (flat_map encode_utf8) (slice_split (λ byte. byte == 32) (meant text))

-- only letters, digits and _, and at least one
abbrev pub is_word : List ℕ → Bool
is_word text = not (length text == 0)
    && list_all (λ byte. is_ascii_alphanumeric byte || byte == 95) text
