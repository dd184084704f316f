-- What begins at a place of a text.
use Rattle.std.specs.Prelude.{◌≡◌, ◌⊎◌, slice_index, ℕ, ◌<◌, ◌≤◌, true, false, List, length, take}
use Rattle.std.specs.Prelude.{Option, None, Some}
use Rattle.roopl_lexer.specs.declared.token.Token.{Token}
use Rattle.roopl_lexer.specs.declared.token.TokenKind.{TokenKind}
use Rattle.roopl_lexer.specs.declared.token.Symbol.{Symbol}
use Rattle.roopl_lexer.specs.declared.error.LexError.{LexError}
use Rattle.roopl_lexer.specs.declared.error.LexError.TheVariants.{BadByte, NumberTooLarge, NoMemory}
use Rattle.roopl_lexer.specs.Signs.{sign_bytes}
use Rattle.roopl_lexer.specs.Tokens.{is_white, begins_comment, comment_length, Spells, IsLongest}
use Rattle.roopl_lexer.specs.Tokens.{is_too_large}

-- a byte of white space, or a comment, or nothing of them, comes first
abbrev pub IsBlank : List ℕ → ℕ → Type 0
IsBlank rest len = ((len ≡ 1) × (is_white (slice_index rest 0) ≡ true))
    ⊎ ((len ≡ comment_length rest) × (0 < len) × (len ≤ length rest) × (begins_comment rest ≡ true))
    ⊎ ((len ≡ 0) × (is_white (slice_index rest 0) ≡ false) × (begins_comment rest ≡ false))

-- a token that a program may hold begins at the place, and it is this one
pub record IsTokenAt (at : ℕ) (rest : List ℕ) (token : Token) : Type 0 where
  pub at_place : token.at ≡ at
  pub some_bytes : 0 < token.len
  pub is_longest : IsLongest token.kind token.len rest
  pub in_range : is_too_large token.kind ≡ false

-- no front of the rest is a token
abbrev pub NoToken : List ℕ → Type 0
NoToken rest = (kind : TokenKind) (len : ℕ) → len ≤ length rest → Spells kind (take len rest) → ⊥

-- a number that no program may hold begins here
pub record IsLargeNumber (rest : List ℕ) : Type 0 where
  pub kind : TokenKind
  pub len : ℕ
  pub is_longest : IsLongest kind len rest
  pub too_large : is_too_large kind ≡ true

-- why no token that a program may hold begins at the place
abbrev pub IsRefusedAt : ℕ → List ℕ → LexError → Type 0
IsRefusedAt at rest (BadByte place) = (place ≡ at) × NoToken rest
IsRefusedAt at rest (NumberTooLarge place) = (place ≡ at) × IsLargeNumber rest
IsRefusedAt at rest NoMemory = Unit {0}

-- no symbol has these bytes
abbrev pub NoSign : List ℕ → Type 0
NoSign bytes = (sign : Symbol) → bytes ≡ sign_bytes sign → ⊥

-- the longest symbol at the beginning of the rest, if there is one
abbrev pub IsLongestSign : List ℕ → Option Symbol → Type 0
IsLongestSign rest None = (sign : Symbol) (len : ℕ) → len ≤ length rest
    → take len rest ≡ sign_bytes sign → ⊥
IsLongestSign rest (Some sign) = (length (sign_bytes sign) ≤ length rest)
    × (take (length (sign_bytes sign)) rest ≡ sign_bytes sign)
    × ((other : Symbol) (len : ℕ) → length (sign_bytes sign) < len → len ≤ length rest
    → take len rest ≡ sign_bytes other → ⊥)
