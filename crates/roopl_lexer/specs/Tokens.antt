-- The tokens of a text: at each place the longest one, with white space and comments between.
use Rattle.std.specs.Prelude.{◌≡◌, slice_index, ℕ, ◌+◌, ◌-◌, ◌*◌, ◌<◌, ◌≤◌, Bool, true, false, List}
use Rattle.std.specs.Prelude.{[], ◌∷◌, length, take, drop, ◌==◌, ◌||◌, ◌&&◌, nat_lt, Option, Some}
use Rattle.std.specs.Prelude.{None}
use Rattle.std.specs.List.{AllPass, position_or_len}
use Rattle.std.specs.Char.{is_ascii_digit}
use Rattle.rpp_tree.specs.rpp_words.Texts.{decimal_from}
use Rattle.rpp_tree.specs.Names.{IsName}
use Rattle.rpp_tree.specs.Refusal.{Refusal, refused}
use Rattle.roopl_lexer.specs.declared.token.Token.{Token}
use Rattle.roopl_lexer.specs.declared.token.TokenKind.{TokenKind}
use Rattle.roopl_lexer.specs.declared.token.TokenKind.TheVariants.{Word, Name, Number, Sign}
use Rattle.roopl_lexer.specs.declared.error.LexError.{LexError}
use Rattle.roopl_lexer.specs.declared.error.LexError.TheVariants.{BadByte, NumberTooLarge, NoMemory}
use Rattle.rpp_tree.specs.declared.limits.TheConstants.{MOST_NUMBER}
use Rattle.roopl_lexer.specs.Signs.{keyword_bytes, sign_bytes}

-- space, tab, line feed and carriage return
abbrev pub is_white : ℕ → Bool
is_white b = b == 32 || b == 9 || b == 10 || b == 13

-- whether two slashes are here
abbrev pub begins_comment : List ℕ → Bool
begins_comment [] = false
begins_comment (a ∷ []) = false
begins_comment (a ∷ b ∷ rest) = (a == 47) && (b == 47)

-- a comment goes up to the next line feed or the end of the text
abbrev pub comment_length : List ℕ → ℕ
comment_length rest = position_or_len (λ b. b == 10) rest

-- only digits, one or more
pub record IsNumeral (bytes : List ℕ) : Type 0 where
  pub some : 0 < length bytes
  pub digits : AllPass is_ascii_digit bytes

-- these bytes, and no others, are a token of this kind
abbrev pub Spells : TokenKind → List ℕ → Type 0
Spells (Word keyword) bytes = bytes ≡ keyword_bytes keyword
Spells (Name text) bytes = (bytes ≡ text) × IsName text
Spells (Number n) bytes = IsNumeral bytes × (n ≡ decimal_from 0 bytes)
Spells (Sign sign) bytes = bytes ≡ sign_bytes sign

-- the first `len` bytes of the rest are a token of this kind, and no longer front of it is a token
pub record IsLongest (kind : TokenKind) (len : ℕ) (rest : List ℕ) : Type 0 where
  pub within : len ≤ length rest
  pub spelled : Spells kind (take len rest)
  pub longest : (other : TokenKind) (more : ℕ) → len < more → more ≤ length rest
      → Spells other (take more rest) → ⊥

abbrev pub is_too_large : TokenKind → Bool
is_too_large (Number n) = nat_lt MOST_NUMBER n
is_too_large _ = false

-- bytes follow, and no front of them is white space, a comment or a token
pub record NothingBegins (rest : List ℕ) : Type 0 where
  pub more : 0 < length rest
  pub no_white : is_white (slice_index rest 0) ≡ false
  pub no_comment : begins_comment rest ≡ false
  pub no_token : (kind : TokenKind) (len : ℕ) → len ≤ length rest → Spells kind (take len rest) → ⊥

-- the rest of a text, from a place on, is cut into these tokens, up to the first refusal if
-- there is one
pub data Cut : (at : ℕ) (rest : List ℕ) (tokens : List Token) (refusal : Option Refusal)
    → Type 0 where
  finish : (at : ℕ) → Cut at [] [] None
  white : (at : ℕ) (rest : List ℕ) (tokens : List Token) (refusal : Option Refusal)
      → is_white (slice_index rest 0) ≡ true
      → Cut (at + 1) (drop 1 rest) tokens refusal
      → Cut at rest tokens refusal
  comment : (at : ℕ) (rest : List ℕ) (tokens : List Token) (refusal : Option Refusal)
      → begins_comment rest ≡ true
      → Cut (at + comment_length rest) (drop (comment_length rest) rest) tokens refusal
      → Cut at rest tokens refusal
  token : (at : ℕ) (rest : List ℕ) (kind : TokenKind) (len : ℕ) (tokens : List Token)
      (refusal : Option Refusal)
      → begins_comment rest ≡ false
      → IsLongest kind len rest
      → is_too_large kind ≡ false
      → Cut (at + len) (drop len rest) tokens refusal
      → Cut at rest (record { kind = kind; at = at; len = len } ∷ tokens) refusal
  bad_byte : (at : ℕ) (rest : List ℕ) → NothingBegins rest → Cut at rest [] (Some (refused 1 at))
  too_large : (at : ℕ) (rest : List ℕ) (kind : TokenKind) (len : ℕ)
      → begins_comment rest ≡ false
      → IsLongest kind len rest
      → is_too_large kind ≡ true
      → Cut at rest [] (Some (refused 2 at))

-- the tokens of a text
abbrev pub IsCutting : List ℕ → List Token → Type 0
IsCutting text tokens = Cut 0 text tokens None

-- the refusal that an error is; `NoMemory` is none
abbrev pub lex_refusal : LexError → Option Refusal
lex_refusal (BadByte at) = Some (refused 1 at)
lex_refusal (NumberTooLarge at) = Some (refused 2 at)
lex_refusal NoMemory = None

-- the first refusal of a text, with the tokens before it
abbrev pub IsFirstRefusal : List ℕ → LexError → Type 0
IsFirstRefusal text NoMemory = ⊥
IsFirstRefusal text error = (tokens : List Token) × Cut 0 text tokens (lex_refusal error)
