-- How a text is checked: it is a program that every rule accepts, or it has a first refusal.
use Rattle.std.specs.Prelude.{◌≡◌, ℕ, List, length, Some, None, Result, Ok, Err}
use Rattle.token_limits.specs.rpp_tree.Limits.{IsWithinLimits}
use Rattle.token_limits.specs.rpp_tree.Tree.{Source}
use Rattle.token_limits.specs.roopl_lexer.declared.token.Token.{Token}
use Rattle.token_limits.specs.roopl_lexer.Tokens.{Cut}
use Rattle.token_limits.specs.roopl_parser.Grammar.{Derives}
use Rattle.token_limits.specs.roopl_parser.Viable.{IsWrongAt}
use Rattle.token_limits.specs.Limits.{Begins, count_first_limit}
use Rattle.reversible_types.specs.class_rules.Program.{check_program}
use Rattle.reversible_types.specs.class_rules.Refusal.{Refusal, refused}
use Rattle.reversible_types.specs.class_rules.Statements.{verdict_passed}
use Rattle.reversible_types.specs.class_rules.Table.{HasClassTable, first_class_refusal}

-- the syntax tree of a text within the limits
pub record HasTree (text : List ℕ) (tokens : List Token) (program : Source) : Type 0 where
  pub cutting : Cut 0 text tokens None
  pub derives : Derives tokens program
  pub no_limit : count_first_limit tokens tokens ≡ None

-- a text's syntax tree, whatever its tokens are, with the limits that it keeps
pub record IsTree (text : List ℕ) (program : Source) : Type 0 where
  pub tokens : List Token
  pub tree : HasTree text tokens program
  pub within : IsWithinLimits program

-- the lexer comes first, then the grammar with its limits, then the class table, then the types
pub data IsJudged (text : List ℕ) : Result Source Refusal → Type 0 where
  not_cut : (tokens : List Token) (refusal : Refusal)
      → Cut 0 text tokens (Some refusal)
      → IsJudged text (Err refusal)
  wrong_token : (tokens : List Token) (at : ℕ)
      → Cut 0 text tokens None
      → (wrong : IsWrongAt (length text) tokens at)
      → count_first_limit tokens wrong.front ≡ None
      → IsJudged text (Err (refused 3 at))
  limit_passed : (tokens : List Token) (at : ℕ)
      → Cut 0 text tokens None
      → (begun : Begins tokens)
      → count_first_limit tokens begun.front ≡ Some at
      → IsJudged text (Err (refused 4 at))
  no_table : (tokens : List Token) (program : Source) (refusal : Refusal)
      → HasTree text tokens program
      → first_class_refusal program (length text) ≡ Some refusal
      → IsJudged text (Err refusal)
  no_types : (tokens : List Token) (program : Source) (refusal : Refusal)
      → HasTree text tokens program
      → HasClassTable program
      → check_program program ≡ Err refusal
      → IsJudged text (Err refusal)
  accepted : (tokens : List Token) (program : Source)
      → HasTree text tokens program
      → HasClassTable program
      → check_program program ≡ verdict_passed
      → IsJudged text (Ok program)
