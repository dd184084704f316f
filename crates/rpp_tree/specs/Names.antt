-- The names of the language.
use Rattle.std.specs.Prelude.{◌≡◌, ℕ, Bool, true, false, List, [], ◌∷◌, slice_index, codes}
use Rattle.std.specs.List.{list_any, AllPass}
use Rattle.std.specs.Char.{is_ascii_alphabetic}
use Rattle.std.specs.Str.{bytes_eq}
use Rattle.rpp_words.specs.Names.{is_name_byte}

-- the words that are no names
unfoldable pub keywords : List (List ℕ)
keywords = codes "class" ∷ codes "inherits" ∷ codes "method" ∷ codes "int" ∷ codes "nil"
    ∷ codes "skip"
    ∷ codes "if" ∷ codes "then" ∷ codes "else" ∷ codes "fi" ∷ codes "from" ∷ codes "do"
    ∷ codes "loop" ∷ codes "until"
    ∷ codes "local" ∷ codes "delocal" ∷ codes "construct" ∷ codes "destruct" ∷ codes "new"
    ∷ codes "delete"
    ∷ codes "copy" ∷ codes "uncopy" ∷ codes "call" ∷ codes "uncall" ∷ []

unfoldable pub is_keyword : List ℕ → Bool
is_keyword bytes = list_any (bytes_eq bytes) keywords

-- a name begins with a letter, goes on with such bytes, and is no keyword
pub record IsName (bytes : List ℕ) : Type 0 where
  pub letter : is_ascii_alphabetic (slice_index bytes 0) ≡ true
  pub name_bytes : AllPass is_name_byte bytes
  pub no_keyword : is_keyword bytes ≡ false
