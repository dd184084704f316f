-- The errors of the lexer, the parser, the class table and the types as refusals of the text.
use Rattle.std.proofs.Common.{◌≡◌, ◌≢◌, ℕ, List, length, refl, Some, Err}
use Rattle.std.specs.Prelude.{Option}
use Rattle.token_limits.specs.rpp_tree.declared.limits.LimitKind.{LimitKind}
use Rattle.token_limits.specs.rpp_tree.Tree.{Source}
use Rattle.token_limits.specs.roopl_lexer.declared.token.Token.{Token}
use Rattle.token_limits.specs.roopl_lexer.declared.error.LexError.{LexError}
use Rattle.token_limits.specs.roopl_lexer.Tokens.{IsCutting, IsFirstRefusal, lex_refusal}
use Rattle.token_limits.specs.roopl_parser.declared.error.ParseError.{ParseError}
use Rattle.token_limits.specs.roopl_parser.Viable.{IsWrongAt}
use Rattle.token_limits.specs.roopl_parser.Viable.{first_limit as limit_read}
use Rattle.token_limits.specs.Limits.{count_first_limit}
use Rattle.token_limits.proofs.Limited.{wrong_limit, limit_begun, none_for}
use Rattle.reversible_types.specs.class_rules.declared.error.ClassError.{ClassError}
use Rattle.reversible_types.specs.class_rules.Rules.{IsFirst}
use Rattle.reversible_types.specs.class_rules.Program.{check_program}
use Rattle.reversible_types.specs.class_rules.Refusal.{Refusal, refused, class_refusal}
use Rattle.reversible_types.specs.class_rules.Table.{HasClassTable, first_class_refusal}
use Rattle.roopl_judge.specs.Errors.{parse_refusal, error_of, IfRefused}
use Rattle.roopl_judge.specs.Judged.{IsTree, IsJudged, not_cut, wrong_token, limit_passed, no_table, no_types}
use Rattle.token_limits.specs.roopl_lexer.declared.error.LexError.TheVariants as lex
use Rattle.token_limits.specs.roopl_parser.declared.error.ParseError.TheVariants as parse
use Rattle.reversible_types.specs.class_rules.declared.error.ClassError.TheVariants as class

abbrev pub IsRefusal : List ℕ → Refusal → Type 0
IsRefusal text refusal = IsJudged text (Err refusal)

pub by_lexer : (text : List ℕ) (error : LexError) → (error ≢ lex.NoMemory → IsFirstRefusal text error)
    → IfRefused (IsRefusal text) (error_of (lex_refusal error))
by_lexer text (lex.BadByte at) first = let cut = first (λ e. cc) in
    not_cut cut.0 (refused 1 at) cut.1
by_lexer text (lex.NumberTooLarge at) first = let cut = first (λ e. cc) in
    not_cut cut.0 (refused 2 at) cut.1
by_lexer text lex.NoMemory first = tt

pub by_parser : (text : List ℕ) (tokens : List Token) (error : ParseError) → IsCutting text tokens
    → ((at : ℕ) → error ≡ parse.Syntax at → IsWrongAt (length text) tokens at × (limit_read tokens ≡ Option.None))
    → ((which : LimitKind) (at : ℕ) → error ≡ parse.Limit which at
    → limit_read tokens ≡ Some (parse.Limit which at))
    → IfRefused (IsRefusal text) (error_of (parse_refusal error))
by_parser text tokens (parse.Syntax at) cutting syntax limit =
    let found = syntax at refl in
    wrong_token tokens at cutting found.0
    (none_for (limit_read tokens) (count_first_limit tokens found.0.front) (wrong_limit (length text) tokens at found.0)
    found.1)
by_parser text tokens (parse.Limit which at) cutting syntax limit =
    let found = limit_begun tokens which at (limit which at refl) in
    limit_passed tokens at cutting found.0 found.1
by_parser text tokens parse.NoMemory cutting syntax limit = tt

pub by_class_table : (text : List ℕ) (program : Source) (error : ClassError) → IsTree text program
    → IsFirst (first_class_refusal program (length text)) error
    → IfRefused (IsRefusal text) (error_of (class_refusal error))
by_class_table text program (class.Limit which at) is first =
    no_table is.tokens program (refused 4 at) is.tree first
by_class_table text program (class.DuplicateClass at) is first =
    no_table is.tokens program (refused 5 at) is.tree first
by_class_table text program (class.UnknownClass at) is first =
    no_table is.tokens program (refused 6 at) is.tree first
by_class_table text program (class.InheritanceCycle at) is first =
    no_table is.tokens program (refused 7 at) is.tree first
by_class_table text program (class.DuplicateField at) is first =
    no_table is.tokens program (refused 8 at) is.tree first
by_class_table text program (class.DuplicateMethod at) is first =
    no_table is.tokens program (refused 9 at) is.tree first
by_class_table text program (class.OverrideDiffers at) is first =
    no_table is.tokens program (refused 10 at) is.tree first
by_class_table text program (class.NoMain at) is first =
    no_table is.tokens program (refused 11 at) is.tree first
by_class_table text program (class.TwoMains at) is first =
    no_table is.tokens program (refused 12 at) is.tree first
by_class_table text program class.NoMemory is first = tt

pub by_types : (text : List ℕ) (program : Source) (refusal : Refusal) → IsTree text program → HasClassTable program
    → check_program program ≡ Err refusal → IsRefusal text refusal
by_types text program refusal is classes types = no_types is.tokens program refusal is.tree classes types
