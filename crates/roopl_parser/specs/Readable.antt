-- What a reader of tokens may be given.
use Rattle.std.specs.Prelude.{◌≡◌, ℕ, ◌<◌, ◌≤◌, false, List, All, sum_by}
use Rattle.roopl_lexer.specs.rpp_tree.declared.limits.TheConstants.{MOST_BYTES}
use Rattle.roopl_lexer.specs.declared.token.Token.{Token}
use Rattle.roopl_lexer.specs.Readable.{IsNameToken, name_length}
use Rattle.roopl_lexer.specs.Tokens.{is_too_large}

-- tokens with places and names as a source text of so many bytes has them
pub record IsReadable (tokens : List Token) (bytes : ℕ) : Type 0 where
  pub places : All (λ token. token.at < MOST_BYTES) tokens
  pub names : All (λ token. IsNameToken token.kind) tokens
  pub name_bytes : sum_by (λ token. name_length token.kind) tokens ≤ MOST_BYTES
  pub end : bytes ≤ MOST_BYTES

-- no number token is too large for a source text
abbrev pub AreSmallTokens : List Token → Type 0
AreSmallTokens tokens = All (λ (token : Token). is_too_large token.kind ≡ false) tokens
