-- Errors of a source as its refusals.
use Rattle.std.specs.Prelude.{⊤, Option, Some, None}
use Rattle.reversible_types.specs.class_rules.Refusal.{Refusal, refused}
use Rattle.roopl_judge.specs.declared.error.SourceError.{SourceError}
use Rattle.roopl_judge.specs.declared.error.SourceError.TheVariants.{Refused, NoMemory}
use Rattle.token_limits.specs.roopl_parser.declared.error.ParseError.{ParseError}
use Rattle.token_limits.specs.roopl_parser.declared.error.ParseError.TheVariants as parse

-- the refusal that an error is; `NoMemory` is none
abbrev pub parse_refusal : ParseError → Option Refusal
parse_refusal (parse.Syntax at) = Some (refused 3 at)
parse_refusal (parse.Limit which at) = Some (refused 4 at)
parse_refusal parse.NoMemory = None

abbrev pub error_of : Option Refusal → SourceError
error_of None = NoMemory
error_of (Some refusal) = Refused refusal.number refusal.at

-- a refusal, unless memory was wanting
abbrev pub IfRefused : (Refusal → Type 0) → SourceError → Type 0
IfRefused P (Refused number at) = P (refused number at)
IfRefused P NoMemory = ⊤
