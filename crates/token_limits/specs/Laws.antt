-- The limits that are counted are those of the parser.
use Rattle.std.specs.Prelude.{◌≡◌, ⊤, ℕ, ◌↔◌, List, Option, Some, None}
use Rattle.roopl_parser.specs.rpp_tree.Tree.{Source}
use Rattle.roopl_parser.specs.rpp_tree.declared.limits.LimitKind.{LimitKind}
use Rattle.roopl_parser.specs.roopl_lexer.declared.token.Token.{Token}
use Rattle.roopl_parser.specs.declared.error.ParseError.{ParseError}
use Rattle.roopl_parser.specs.declared.error.ParseError.TheVariants.{Limit}
use Rattle.roopl_parser.specs.Grammar.{Derives}
use Rattle.roopl_parser.specs.Viable.{IsWrongAt}
use Rattle.roopl_parser.specs.Viable.{first_limit as limit_read}
use Rattle.token_limits.specs.Limits.{Begins, count_first_limit}

-- both say that no limit is passed, or that one is passed at this place
abbrev pub Agrees : Option ParseError → Option ℕ → Type 0
Agrees None None = ⊤
Agrees (Some (Limit which at)) (Some to) = at ≡ to
Agrees _ _ = ⊥

-- in the tokens of a program
abbrev pub CountsDerived : Type 0
CountsDerived = (tokens : List Token) (x : Source) → Derives tokens x
    → Agrees (limit_read tokens) (count_first_limit tokens tokens)

-- before a wrong token
abbrev pub CountsUpToWrong : Type 0
CountsUpToWrong = (end : ℕ) (tokens : List Token) (at : ℕ) (wrong : IsWrongAt end tokens at)
    → Agrees (limit_read tokens) (count_first_limit tokens wrong.front)

-- a limit that is passed, by one of some first tokens with which a program's may begin
abbrev pub CountsPassed : Type 0
CountsPassed = (tokens : List Token) (at : ℕ)
    → ((which : LimitKind) × (limit_read tokens ≡ Some (Limit which at)))
    ↔ ((begun : Begins tokens) × (count_first_limit tokens begun.front ≡ Some at))
