-- What a reader of a program promises.
use Rattle.std.specs.Prelude.{◌≡◌, ℕ, ◌≤◌, Bool, true, List, [], ◌∷◌, ◌++◌, length, drop, nat_lt}
use Rattle.std.specs.Prelude.{cond, All, Option, Some, None, Result, Err}
use Rattle.roopl_lexer.specs.rpp_tree.Tree.{Source}
use Rattle.roopl_lexer.specs.rpp_tree.Limits.{IsSmallMethod}
use Rattle.roopl_lexer.specs.rpp_tree.declared.limits.LimitKind.{LimitKind}
use Rattle.roopl_lexer.specs.rpp_tree.declared.limits.LimitKind.TheVariants as limit
use Rattle.roopl_lexer.specs.rpp_tree.declared.limits.TheConstants.{MOST_TOKENS, MOST_CLASSES}
use Rattle.roopl_lexer.specs.declared.token.Token.{Token}
use Rattle.roopl_lexer.specs.declared.token.Symbol.TheVariants as sign
use Rattle.roopl_parser.specs.declared.error.ParseError.{ParseError}
use Rattle.roopl_parser.specs.declared.error.ParseError.TheVariants.{Limit}
use Rattle.roopl_parser.specs.Grammar.{Derives}
use Rattle.roopl_parser.specs.Reader.{ParsedValue, Part, Classes, Program, Step, Wrong, Next, here}
use Rattle.roopl_parser.specs.Reader.{is_sign, passed, walk, scan}

-- the tokens of a program begin with these
abbrev pub IsViable : List Token → Type 0
IsViable front = (more : List Token) × (source : Source) × Derives (front ++ more) source

-- the place of the first token, or the end
abbrev pub offset_at : ℕ → List Token → ℕ
offset_at end [] = end
offset_at end (t ∷ ts) = t.at

-- after a wrong token, the tokens may go on otherwise; the end may not
abbrev pub Behind : List Token → List Token → Type 0
Behind [] more = more ≡ []
Behind (t ∷ ts) more = (others : List Token) × (more ≡ t ∷ others)

-- no program's tokens begin with those up to the one at this place, itself counted, but some do
-- with those before it
pub record IsWrongAt (end : ℕ) (tokens : List Token) (at : ℕ) : Type 0 where
  pub front : List Token
  pub rest : List Token
  pub all : tokens ≡ front ++ rest
  pub place : at ≡ offset_at end rest
  pub viable : IsViable front
  pub wrong : (more : List Token) (source : Source) → Behind rest more
      → Derives (front ++ more) source → ⊥

-- a program's tokens begin with those up to the one at this place
pub record IsTokenReached (tokens : List Token) (at : ℕ) : Type 0 where
  pub front : List Token
  pub token : Token
  pub rest : List Token
  pub all : tokens ≡ front ++ token ∷ rest
  pub place : at ≡ token.at
  pub viable : (more : List Token) × (source : Source) × Derives (front ++ token ∷ more) source

-- a program keeps the limits of its classes and methods
pub record IsSmall (source : Source) : Type 0 where
  pub classes_few : length source.classes ≤ MOST_CLASSES
  pub methods_small : All (λ class. All IsSmallMethod class.methods) source.classes

-- the first limit that a token passes, before any token that is wrong
abbrev pub passing_by : ℕ → Option LimitKind → Option ParseError → Option ParseError
passing_by at None next = next
passing_by at (Some which) next = Some (Limit which at)

abbrev pub passing : ℕ → Bool → (ℕ → List Part → List ParsedValue → Option ParseError) → Step
    → Option ParseError
passing at bracket next Wrong = None
passing at bracket next (Next mark n s vs) = passing_by at (passed mark bracket) (next n s vs)

unfoldable pub passes : List Token → ℕ → List Part → List ParsedValue → Option ParseError
passes [] = λ n s vs. None
passes (t ∷ ts) = λ n s vs. passing t.at (here (is_sign sign.LeftBracket) ts) (passes ts)
    (walk s n vs t)

-- the limit of tokens
abbrev pub too_many : List Token → Option ParseError
too_many tokens = cond (nat_lt MOST_TOKENS (length tokens))
    (Some (Limit limit.Tokens (offset_at 0 (drop MOST_TOKENS tokens)))) None

abbrev pub or_else : Option ParseError → Option ParseError → Option ParseError
or_else None other = other
or_else (Some e) other = Some e

-- the first limit that is passed: that of tokens, or else that of the first token that passes one
abbrev pub first_limit : List Token → Option ParseError
first_limit tokens = or_else (too_many tokens) (passes tokens 0 (Program 0 ∷ []) (Classes [] ∷ []))

abbrev pub unless : Option ParseError → Result ParsedValue ParseError → Result ParsedValue ParseError
unless None next = next
unless (Some e) next = Err e

-- what reading a program gives
abbrev pub reading : ℕ → List Token → Result ParsedValue ParseError
reading end tokens = unless (too_many tokens)
    (scan true end tokens 0 (Program 0 ∷ []) (Classes [] ∷ []))
