-- What the check of a text accepts keeps the limits that a syntax tree shows.
use Rattle.std.proofs.Common.{ℕ, ◌≤◌, List, length, None, Ok}
use Rattle.token_limits.specs.rpp_tree.declared.limits.TheConstants.{MOST_BYTES}
use Rattle.token_limits.specs.rpp_tree.Tree.{Source}
use Rattle.token_limits.specs.rpp_tree.Limits.{IsWithinLimits}
use Rattle.token_limits.specs.roopl_lexer.declared.token.Token.{Token}
use Rattle.token_limits.proofs.roopl_lexer_laws.Order.{readable}
use Rattle.token_limits.proofs.roopl_parser_laws.Exact.{kept}
use Rattle.token_limits.proofs.roopl_parser_laws.Parts.{small_tokens, within_limits}
use Rattle.token_limits.specs.roopl_parser.Viable.{first_limit as limit_read}
use Rattle.token_limits.specs.Limits.{count_first_limit}
use Rattle.token_limits.proofs.Limited.{derived_limit, none_by}
use Rattle.reversible_types.specs.class_rules.Program.{IsAccepted}
use Rattle.roopl_judge.specs.Judged.{HasTree, IsJudged, accepted}

tree_within : (text : List ℕ) (tokens : List Token) (program : Source) → length text ≤ MOST_BYTES
    → HasTree text tokens program → IsWithinLimits program
tree_within text tokens program short has =
    let limits = kept tokens program has.derives (none_by (limit_read tokens) (count_first_limit tokens tokens)
    (derived_limit tokens program has.derives) has.no_limit) in
    let are = readable text tokens None short has.cutting in
    within_limits tokens program (length text) has.derives limits.1 limits.0
    (record { places = are.places; names = are.names; name_bytes = are.name_bytes; end = short })
    (small_tokens text tokens has.cutting)

pub judged_accepted : (text : List ℕ) (program : Source) → length text ≤ MOST_BYTES → IsJudged text (Ok program)
    → IsAccepted program
judged_accepted text _ short (accepted tokens program has classes types) =
    record { limits = tree_within text tokens program short has; classes = classes; types = types }
