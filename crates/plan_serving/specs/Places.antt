-- The names of places: the first is empty, and each further one is a byte longer. So what makes a
-- plan sees the texts by their places, and nothing else.
use Rattle.std.specs.Prelude.{◌≡◌, ℕ, List, [], ◌∷◌, Some, option_map, if◌then◌else◌}
use Rattle.std.specs.declared.option.Option.{Option}
use Rattle.std.specs.Str.{bytes_eq}
use Rattle.command_plan.specs.rpp_ports.Ports.{Texts}
use Rattle.command_plan.specs.rpp_ports.declared.memory_shelf.Named.{Named}
use Rattle.command_plan.specs.Files.{Needed}

-- the bytes of a text that has a name
abbrev pub held_bytes : Named → List ℕ
held_bytes named = named.bytes.items

-- one more text, before the others
abbrev pub IsBefore : (name bytes : List ℕ) → (old new : Texts) → Type 0
IsBefore name bytes old new =
    (n : List ℕ) → new n ≡ (if bytes_eq name n then Some bytes else old n)

-- texts have the names of their places, from this one on
abbrev pub HasPlaces : Texts → (place : List ℕ) → (texts : List (List ℕ)) → Type 0
HasPlaces held place [] = Unit {0}
HasPlaces held place (text ∷ texts) = (held place ≡ Some text) × HasPlaces held (97 ∷ place) texts

-- the files with the names of their places
abbrev pub place_files : (place : List ℕ) → List Needed → List Needed
place_files place [] = []
place_files place (file ∷ files) =
    record { name = place; limit = file.limit } ∷ place_files (97 ∷ place) files

-- the names of as many places, from this one on
abbrev pub names_from : {A : Type 0} → (place : List ℕ) → List A → List (List ℕ)
names_from place [] = []
names_from place (item ∷ items) = place ∷ names_from (97 ∷ place) items

-- the name of a place, if there is a file
abbrev pub at_place : {A : Type 0} → (place : List ℕ) → Option A → Option (List ℕ)
at_place place file = option_map (λ _. place) file
