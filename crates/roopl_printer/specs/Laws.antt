-- What printed texts are.
use Rattle.std.specs.Prelude.{◌≡◌, ◌≤◌, None, List, length, map, All}
use Rattle.roopl_parser.specs.rpp_tree.declared.limits.TheConstants.{MOST_TOKENS}
use Rattle.roopl_parser.specs.rpp_tree.Tree.{Source}
use Rattle.roopl_parser.specs.rpp_tree.Bare.{bare_source}
use Rattle.roopl_parser.specs.rpp_tree.Limits.{IsWithinLimits}
use Rattle.roopl_parser.specs.roopl_lexer.declared.token.Token.{Token}
use Rattle.roopl_parser.specs.roopl_lexer.Tokens.{IsCutting}
use Rattle.roopl_parser.specs.Grammar.{Derives}
use Rattle.roopl_parser.specs.Viable.{first_limit}
use Rattle.roopl_printer.specs.Printable.{IsPrintable, IsOfGrammar}
use Rattle.roopl_printer.specs.Spelled.{spelled, printed}

-- the tokens of a printed text are of the kinds that were printed
pub record IsCutAgain (program : Source) : Type 0 where
  pub tokens : List Token
  pub cutting : IsCutting (printed program) tokens
  pub same_kinds : map (λ token. token.kind) tokens ≡ map (λ token. token.kind) (spelled program)

abbrev pub CutsAgain : Type 0
CutsAgain = (program : Source) → All (λ token. IsPrintable token.kind) (spelled program)
    → IsCutAgain program

-- the tokens of a printed text are those of a syntax tree that is equal up to offsets, and pass no
-- limit
pub record IsReadBack (program : Source) : Type 0 where
  pub tokens : List Token
  pub cutting : IsCutting (printed program) tokens
  pub tree : Source
  pub derived : Derives tokens tree
  pub free : first_limit tokens ≡ None
  pub alike : bare_source tree ≡ bare_source program

abbrev pub ReadsBack : Type 0
ReadsBack = (program : Source) → IsOfGrammar program → IsWithinLimits program
    → length (spelled program) ≤ MOST_TOKENS → IsReadBack program
