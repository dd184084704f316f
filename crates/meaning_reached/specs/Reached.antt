-- What a state reaches: each live object is in every set of names that holds the roots and what
-- cells of its objects hold.
use Rattle.std.specs.Prelude.{◌≡◌, ◌<◌, ℕ, Bool, true}
use Rattle.meaning_sound.specs.roopl_semantics.Store.{Value, Word, Nil, Name, State}
use Rattle.meaning_sound.specs.roopl_semantics.Value.{Cell, Slot, Part, read}
use Rattle.meaning_sound.specs.Sound.{is_live}

-- whether a value names only what is in the set
abbrev pub is_value_within : (ℕ → Bool) → Value → Bool
is_value_within names (Word w) = true
is_value_within names Nil = true
is_value_within names (Name n) = names n

-- whether a cell is a variable or in an object of the set
abbrev pub is_rooted : (ℕ → Bool) → Cell → Bool
is_rooted names (Slot i) = true
is_rooted names (Part n i) = names n

-- a set with what is held besides, and with what its cells and the variables hold
pub record IsClosed (names : ℕ → Bool) (extra : ℕ → ℕ) (st : State) : Type 0 where
  pub extras : (name : ℕ) → 0 < extra name → names name ≡ true
  pub cells : (cell : Cell) → is_rooted names cell ≡ true → is_value_within names (read st cell) ≡ true

-- each live object is reached from the variables and from what is held besides
pub record Reaches (extra : ℕ → ℕ) (st : State) : Type 0 where
  pub all : (names : ℕ → Bool) → IsClosed names extra st → (name : ℕ) → is_live st.store name ≡ true
      → names name ≡ true
