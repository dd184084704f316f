-- When two stores differ only in object ids.
use Rattle.std.specs.Prelude.{◌≡◌, ℕ, map}
use Rattle.std.specs.Option.{option_map}
use Rattle.roopl_semantics.specs.Store.{Value, Word, Nil, Name, Object, Store, main_name}
use Rattle.roopl_semantics.specs.Store.{object_named}

-- a value with other names
abbrev pub renamed : (ℕ → ℕ) → Value → Value
renamed names (Word w) = Word w
renamed names Nil = Nil
renamed names (Name n) = Name (names n)

abbrev pub renamed_object : (ℕ → ℕ) → Object → Object
renamed_object names object = record object { cells = map (renamed names) object.cells }

-- a one-to-one map of the names that keeps the main object's carries the one store onto the other
pub record Agree (first second : Store) : Type 0 where
  pub there : ℕ → ℕ
  pub back : ℕ → ℕ
  pub there_and_back : (name : ℕ) → back (there name) ≡ name
  pub back_and_there : (name : ℕ) → there (back name) ≡ name
  pub main_object : there main_name ≡ main_name
  pub objects : (name : ℕ) → object_named second (there name)
      ≡ option_map (renamed_object there) (object_named first name)
