-- Printed tokens, and the text that they make.
use Rattle.std.specs.Prelude.{ℕ, Bool, true, false, List, [], ◌∷◌, ◌++◌, decimal}
use Rattle.std.specs.List.{flat_map}
use Rattle.roopl_parser.specs.rpp_tree.declared.tree.Ident.{Ident}
use Rattle.roopl_parser.specs.roopl_lexer.declared.token.Keyword.{Keyword}
use Rattle.roopl_parser.specs.roopl_lexer.declared.token.Symbol.{Symbol}
use Rattle.roopl_parser.specs.roopl_lexer.declared.token.TokenKind.{TokenKind}
use Rattle.roopl_parser.specs.roopl_lexer.declared.token.TokenKind.TheVariants.{Word, Name, Number, Sign}
use Rattle.roopl_parser.specs.roopl_lexer.Signs.{keyword_bytes, sign_bytes}

-- a printed token, and whether it begins a line
pub record PrintedToken : Type 0 where
  pub kind : TokenKind
  pub fresh : Bool

-- the first token of a line
abbrev pub first : TokenKind → PrintedToken
first kind = record { kind = kind; fresh = true }

-- a token after others on its line
abbrev pub printed_behind : TokenKind → PrintedToken
printed_behind kind = record { kind = kind; fresh = false }

abbrev pub a_word : Keyword → PrintedToken
a_word keyword = printed_behind (Word keyword)

abbrev pub a_name : Ident → PrintedToken
a_name name = printed_behind (Name name.text)

abbrev pub a_sign : Symbol → PrintedToken
a_sign sign = printed_behind (Sign sign)

-- the bytes of a token: a number is written in decimal, without leading zeros
abbrev pub kind_bytes : TokenKind → List ℕ
kind_bytes (Word keyword) = keyword_bytes keyword
kind_bytes (Name text) = text
kind_bytes (Number n) = decimal n
kind_bytes (Sign sign) = sign_bytes sign

-- what comes before a token that is not the first of the text: a line feed or a space
abbrev pub gap : Bool → ℕ
gap true = 10
gap false = 32

-- a token with what comes before it
abbrev pub with_gap : PrintedToken → List ℕ
with_gap token = gap token.fresh ∷ kind_bytes token.kind

-- tokens with what comes before each
abbrev pub with_gaps : List PrintedToken → List ℕ
with_gaps tokens = flat_map with_gap tokens

-- the text of tokens: nothing comes before the first, and a line feed after the last
abbrev pub printed_text : List PrintedToken → List ℕ
printed_text [] = []
printed_text (token ∷ tokens) = kind_bytes token.kind ++ with_gaps tokens ++ 10 ∷ []
