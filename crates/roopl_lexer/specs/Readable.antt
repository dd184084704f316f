-- What may be asked of a text's tokens.
use Rattle.std.specs.Prelude.{ℕ, ◌+◌, ◌<◌, ◌≤◌, List, [], ◌∷◌, length, All, sum_by}
use Rattle.rpp_tree.specs.declared.limits.TheConstants.{MOST_BYTES}
use Rattle.rpp_tree.specs.Names.{IsName}
use Rattle.roopl_lexer.specs.declared.token.Token.{Token}
use Rattle.roopl_lexer.specs.declared.token.TokenKind.{TokenKind}
use Rattle.roopl_lexer.specs.declared.token.TokenKind.TheVariants.{Word, Name, Number, Sign}

-- a name is one by the rule, and no keyword
abbrev pub IsNameToken : TokenKind → Type 0
IsNameToken (Word keyword) = Unit {0}
IsNameToken (Name text) = IsName text
IsNameToken (Number n) = Unit {0}
IsNameToken (Sign sign) = Unit {0}

-- the bytes of a name
abbrev pub name_length : TokenKind → ℕ
name_length (Word keyword) = 0
name_length (Name text) = length text
name_length (Number n) = 0
name_length (Sign sign) = 0

-- tokens with places and names as a source text has them
pub record AreReadable (tokens : List Token) : Type 0 where
  pub places : All (λ token. token.at < MOST_BYTES) tokens
  pub names : All (λ token. IsNameToken token.kind) tokens
  pub name_bytes : sum_by (λ token. name_length token.kind) tokens ≤ MOST_BYTES

-- each token has bytes and comes after the one before, between two offsets
abbrev pub AreInOrder : ℕ → List Token → ℕ → Type 0
AreInOrder start [] end = start ≤ end
AreInOrder start (token ∷ tokens) end = (start ≤ token.at) × (0 < token.len)
    × AreInOrder (token.at + token.len) tokens end
