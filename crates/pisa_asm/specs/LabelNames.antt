-- Labels: their names, and their code addresses.
use Rattle.std.specs.Prelude.{ℕ, Bool, false, List, [], ◌∷◌, ◌==◌, ◌||◌, ◌&&◌, if◌then◌else◌}
use Rattle.std.specs.Prelude.{Option, Some, None}
use Rattle.std.specs.Str.{bytes_eq}
use Rattle.std.specs.List.{list_all}
use Rattle.std.specs.Char.{is_ascii_alphabetic, is_ascii_digit}
use Rattle.pisa_asm.specs.Lines.{ends_in, all_but_last}

-- a letter or `_`
abbrev pub begins_name : ℕ → Bool
begins_name b = is_ascii_alphabetic b || b == 95

-- a letter, a digit or `_`
abbrev pub is_label_byte : ℕ → Bool
is_label_byte b = is_ascii_alphabetic b || is_ascii_digit b || b == 95

abbrev pub is_label_name : List ℕ → Bool
is_label_name [] = false
is_label_name (first ∷ rest) = begins_name first && list_all is_label_byte rest

-- a name followed directly by `:`
abbrev pub is_label : List ℕ → Bool
is_label word = ends_in 58 word && is_label_name (all_but_last word)

-- the names of the labels at the beginning of a line's words
abbrev pub label_names : List (List ℕ) → List (List ℕ)
label_names [] = []
label_names (word ∷ words) = if is_label word then all_but_last word ∷ label_names words else []

-- the words after the labels
abbrev pub after_labels : List (List ℕ) → List (List ℕ)
after_labels [] = []
after_labels (word ∷ words) = if is_label word then after_labels words else word ∷ words

-- labels with their code addresses
abbrev pub Labels : Type 0
Labels = List (List ℕ × ℕ)

-- the code address of a label
abbrev pub label_address : List ℕ → Labels → Option ℕ
label_address name [] = None
label_address name (label ∷ labels) = if bytes_eq name label.0 then Some label.1 else label_address name
    labels
