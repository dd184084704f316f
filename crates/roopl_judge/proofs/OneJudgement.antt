-- A text has one result of the check.
use Rattle.std.proofs.Common.{◌≡◌, ◌∙◌, sym, ap, subst, ℕ, List, length, refl, Some, None, Ok, Err}
use Rattle.std.specs.Prelude.{Result}
use Rattle.token_limits.specs.rpp_tree.Tree.{Source}
use Rattle.token_limits.specs.roopl_lexer.declared.token.Token.{Token}
use Rattle.token_limits.specs.roopl_lexer.Tokens.{Cut}
use Rattle.token_limits.proofs.roopl_lexer_laws.Unique.{one_cut}
use Rattle.token_limits.specs.rpp_tree.declared.limits.LimitKind.{LimitKind}
use Rattle.token_limits.specs.roopl_parser.declared.error.ParseError.TheVariants.{Syntax, Limit}
use Rattle.token_limits.specs.roopl_parser.Grammar.{Derives}
use Rattle.token_limits.specs.roopl_parser.Viable.{reading}
use Rattle.token_limits.specs.roopl_parser.Viable.{first_limit as limit_read}
use Rattle.token_limits.specs.Limits.{count_first_limit}
use Rattle.token_limits.proofs.Limited.{derived_limit, wrong_limit, begun_limit, none_by}
use Rattle.token_limits.proofs.roopl_parser_laws.Exact.{one_tree, read_all, wrong_read, passed_read}
use Rattle.reversible_types.specs.class_rules.Program.{check_program}
use Rattle.reversible_types.specs.class_rules.Refusal.{Refusal, refused}
use Rattle.reversible_types.specs.class_rules.Statements.{verdict_passed}
use Rattle.reversible_types.specs.class_rules.Table.{HasClassTable, first_class_refusal}
use Rattle.roopl_judge.specs.Judged.{HasTree, IsJudged, not_cut, wrong_token, limit_passed}
use Rattle.roopl_judge.specs.Judged.{no_table, no_types, accepted}

-- what reading the tokens gives, if they are refused
data IsRead (tokens : List Token) (end : ℕ) : Refusal → Type 0 where
  as_wrong : (at : ℕ) → reading end tokens ≡ Err (Syntax at) → IsRead tokens end (refused 3 at)
  as_passed : (which : LimitKind) (at : ℕ) → reading end tokens ≡ Err (Limit which at)
      → IsRead tokens end (refused 4 at)

-- ---- the check in layers

data OfTable (text : List ℕ) (program : Source) : Result Source Refusal → Type 0 where
  table_refused : (refusal : Refusal) → first_class_refusal program (length text) ≡ Some refusal
      → OfTable text program (Err refusal)
  types_refused : (refusal : Refusal) → HasClassTable program → check_program program ≡ Err refusal
      → OfTable text program (Err refusal)
  taken : HasClassTable program → check_program program ≡ verdict_passed → OfTable text program (Ok program)

some_same : {A : Type 0} (a b : A) → Some a ≡ Some b → a ≡ b
some_same a b e = cc

one_table : (text : List ℕ) (program : Source) (a b : Result Source Refusal) → OfTable text program a
    → OfTable text program b → a ≡ b
one_table text program _ _ (table_refused r first) (table_refused r' first') =
    ap (λ x. Err x) (some_same r r' (sym first ∙ first'))
one_table text program _ _ (table_refused r first) (types_refused r' has bad) = let none =
    has.none (length text) in absurd (cc)
one_table text program _ _ (table_refused r first) (taken has good) = let none = has.none (length text) in
    absurd (cc)
one_table text program _ _ (types_refused r has bad) (table_refused r' first') = let none =
    has.none (length text) in absurd (cc)
one_table text program _ _ (types_refused r has bad) (types_refused r' has' bad') = let same : r ≡ r' = cc in
    ap (λ x. Err x) same
one_table text program _ _ (types_refused r has bad) (taken has' good) = absurd (cc)
one_table text program _ _ (taken has good) (table_refused r' first') = let none = has.none (length text) in
    absurd (cc)
one_table text program _ _ (taken has good) (types_refused r' has' bad) = absurd (cc)
one_table text program _ _ (taken has good) (taken has' good') = refl

data OfTokens (text : List ℕ) (tokens : List Token) : Result Source Refusal → Type 0 where
  tree_refused : (refusal : Refusal) → IsRead tokens (length text) refusal → OfTokens text tokens (Err refusal)
  tree : (program : Source) (a : Result Source Refusal) → Derives tokens program → limit_read tokens ≡ None
      → OfTable text program a → OfTokens text tokens a

one_refusal : (tokens : List Token) (end : ℕ) (r r' : Refusal) → IsRead tokens end r → IsRead tokens end r' → r ≡ r'
one_refusal tokens end _ _ (as_wrong at h) (as_wrong to h') = let same : at ≡ to = cc in ap (refused 3) same
one_refusal tokens end _ _ (as_wrong at h) (as_passed which to h') = absurd (cc)
one_refusal tokens end _ _ (as_passed which at h) (as_wrong to h') = absurd (cc)
one_refusal tokens end _ _ (as_passed which at h) (as_passed other to h') = let same : at ≡ to = cc in
    ap (refused 4) same

no_refusal : (tokens : List Token) (end : ℕ) (r : Refusal) (program : Source) → IsRead tokens end r
    → Derives tokens program → limit_read tokens ≡ None → ⊥
no_refusal tokens end _ program (as_wrong at h) derives none = let read = read_all end tokens program derives none in cc
no_refusal tokens end _ program (as_passed which at h) derives none =
    let read = read_all end tokens program derives none in
    cc

one_of_tokens : (text : List ℕ) (tokens : List Token) (a b : Result Source Refusal) → OfTokens text tokens a
    → OfTokens text tokens b → a ≡ b
one_of_tokens text tokens _ _ (tree_refused r h) (tree_refused r' h') =
    ap (λ x. Err x) (one_refusal tokens (length text) r r' h h')
one_of_tokens text tokens _ b (tree_refused r h) (tree program _ derives none of) =
    absurd (no_refusal tokens (length text) r program h derives none)
one_of_tokens text tokens a _ (tree program _ derives none of) (tree_refused r h) =
    absurd (no_refusal tokens (length text) r program h derives none)
one_of_tokens text tokens a b (tree program _ derives none of) (tree program' _ derives' none' of') =
    one_table text program' a b (subst (λ p. OfTable text p a) (one_tree tokens program program' derives derives') of)
    of'

data OfText (text : List ℕ) : Result Source Refusal → Type 0 where
  tokens_refused : (tokens : List Token) (refusal : Refusal) → Cut 0 text tokens (Some refusal)
      → OfText text (Err refusal)
  cut : (tokens : List Token) (a : Result Source Refusal) → Cut 0 text tokens None → OfTokens text tokens a
      → OfText text a

one_of_text : (text : List ℕ) (a b : Result Source Refusal) → OfText text a → OfText text b → a ≡ b
one_of_text text _ _ (tokens_refused ts r c) (tokens_refused ts' r' c') =
    ap (λ x. Err x) (some_same r r' (one_cut 0 text ts (Some r) ts' (Some r') c c').1)
one_of_text text _ b (tokens_refused ts r c) (cut ts' _ c' of) = let same =
    (one_cut 0 text ts (Some r) ts' None c c').1 in absurd (cc)
one_of_text text a _ (cut ts _ c of) (tokens_refused ts' r c') = let same =
    (one_cut 0 text ts None ts' (Some r) c c').1 in absurd (cc)
one_of_text text a b (cut ts _ c of) (cut ts' _ c' of') =
    one_of_tokens text ts' a b (subst (λ tokens. OfTokens text tokens a) (one_cut 0 text ts None ts' None c c').0 of)
    of'

passes_none : (text : List ℕ) (tokens : List Token) (program : Source) → HasTree text tokens program
    → limit_read tokens ≡ None
passes_none text tokens program has =
    none_by (limit_read tokens) (count_first_limit tokens tokens) (derived_limit tokens program has.derives) has.no_limit

layered : (text : List ℕ) (a : Result Source Refusal) → IsJudged text a → OfText text a
layered text _ (not_cut tokens refusal c) = tokens_refused tokens refusal c
layered text _ (wrong_token tokens at cutting wrong none) =
    cut tokens (Err (refused 3 at)) cutting (tree_refused (refused 3 at) (as_wrong at
    (wrong_read (length text) tokens at wrong (none_by (limit_read tokens) (count_first_limit tokens wrong.front)
    (wrong_limit (length text) tokens at wrong) none))))
layered text _ (limit_passed tokens at cutting begun full) =
    let read = begun_limit tokens begun at full in
    cut tokens (Err (refused 4 at)) cutting (tree_refused (refused 4 at) (as_passed read.0 at
    (passed_read (length text) tokens (Limit read.0 at) read.1)))
layered text _ (no_table tokens program refusal has first) =
    cut tokens (Err refusal) has.cutting (tree program (Err refusal) has.derives (passes_none text tokens program has)
    (table_refused refusal first))
layered text _ (no_types tokens program refusal has classes bad) =
    cut tokens (Err refusal) has.cutting (tree program (Err refusal) has.derives (passes_none text tokens program has)
    (types_refused refusal classes bad))
layered text _ (accepted tokens program has classes good) = cut tokens (Ok program) has.cutting
    (tree program (Ok program) has.derives (passes_none text tokens program has) (taken classes good))

pub one_judgement_of : (text : List ℕ) (a b : Result Source Refusal) → IsJudged text a → IsJudged text b → a ≡ b
one_judgement_of text a b x y = one_of_text text a b (layered text a x) (layered text b y)
