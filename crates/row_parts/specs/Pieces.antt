-- Texts cut at separators.
use Rattle.std.specs.Prelude.{ℕ, zero, suc, ◌-◌, ◌==◌, Bool, List, [], ◌∷◌, ◌++◌, length, drop, if◌then◌else◌}
use Rattle.std.specs.Prelude.{Option, Some, None, option_map, flat_map}
use Rattle.std.specs.List.{starts_with, ends_with, onto_first}
use Rattle.std.specs.Option.{option_or}

-- a text begins with another, or ends with it
abbrev pub begins : List ℕ → List ℕ → Bool
begins text front = starts_with ◌==◌ text front

abbrev pub ends : List ℕ → List ℕ → Bool
ends text back = ends_with ◌==◌ text back

-- what follows the text that another begins with
abbrev pub after : List ℕ → List ℕ → Option (List ℕ)
after front text = if begins text front then Some (drop (length front) text) else None

-- what comes before and after the first separator
abbrev pub cut : List ℕ → List ℕ → Option (List ℕ × List ℕ)
cut separator [] = None
cut separator (byte ∷ text) = if begins (byte ∷ text) separator
    then Some ([], drop (length separator) (byte ∷ text))
    else option_map (λ parts. (byte ∷ parts.0, parts.1)) (cut separator text)

-- what comes before and after the last separator
abbrev pub cut_last : List ℕ → List ℕ → Option (List ℕ × List ℕ)
cut_last separator [] = None
cut_last separator (byte ∷ text) = option_or
    (option_map (λ parts. (byte ∷ parts.0, parts.1)) (cut_last separator text))
    (if begins (byte ∷ text) separator
    then Some ([], drop (length separator) (byte ∷ text)) else None)

-- the pieces between separators, where so many bytes of a separator are still to come
abbrev pub pieces_after : List ℕ → ℕ → List ℕ → List (List ℕ)
pieces_after separator begun [] = [] ∷ []
pieces_after separator (suc begun) (byte ∷ text) = pieces_after separator begun text
pieces_after separator zero (byte ∷ text) = if begins (byte ∷ text) separator
    then [] ∷ pieces_after separator (length separator - 1) text
    else onto_first byte (pieces_after separator 0 text)

-- the pieces between separators
abbrev pub pieces : List ℕ → List ℕ → List (List ℕ)
pieces separator text = pieces_after separator 0 text

-- what the first piece becomes, and what each further one does
abbrev pub made_of : {A : Type 0} → (List ℕ → List A) → (List ℕ → List A) → List (List ℕ) → List A
made_of first_made made [] = []
made_of first_made made (first ∷ rest) = first_made first ++ flat_map made rest
