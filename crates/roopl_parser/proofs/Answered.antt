-- What a result that is the reading says in the terms of the grammar.
use Rattle.std.specs.Prelude.{◌≡◌, ◌≢◌, ◌<◌, ℕ, true, nat_lt, cond, List, [], ◌∷◌, length, drop, slice_index_or, Some}
use Rattle.std.specs.Prelude.{None, Result, Ok, Err, IfOk, MatchResult, refl}
use Rattle.std.proofs.Common.{sym, ap, ◌∙◌, lt-ltb}
use Rattle.std.proofs.Math.Seq.{drop-cons}
use Rattle.roopl_lexer.specs.rpp_tree.Tree.{ClassText, Source}
use Rattle.roopl_lexer.specs.rpp_tree.Views.{source_of}
use Rattle.roopl_lexer.specs.rpp_tree.Limits.{IsWithinLimits}
use Rattle.roopl_lexer.specs.rpp_tree.declared.tree.Program.{Program}
use Rattle.roopl_lexer.specs.rpp_tree.declared.limits.LimitKind.{LimitKind}
use Rattle.roopl_lexer.specs.rpp_tree.declared.limits.LimitKind.TheVariants.{Tokens}
use Rattle.roopl_lexer.specs.declared.token.Token.{Token}
use Rattle.roopl_parser.specs.declared.error.ParseError.{ParseError}
use Rattle.roopl_parser.specs.declared.error.ParseError.TheVariants.{Syntax, Limit, NoMemory}
use Rattle.roopl_parser.specs.Grammar.{Derives}
use Rattle.roopl_parser.specs.Readable.{AreSmallTokens, IsReadable}
use Rattle.roopl_parser.specs.Reader.{ParsedValue, Classes, Program as AProgram, scan}
use Rattle.roopl_lexer.specs.rpp_tree.declared.limits.TheConstants.{MOST_TOKENS}
use Rattle.roopl_parser.specs.Viable.{IsWrongAt, IsTokenReached, first_limit, offset_at, unless, reading}
use Rattle.roopl_parser.proofs.Exact.{read_tree, read_syntax, read_limit, read_all, kept, wrong_read, passed_read}
use Rattle.roopl_parser.proofs.Parts.{within_limits}

-- a result that is the reading, unless memory runs out
abbrev pub Reads : ℕ → List Token → Result Program ParseError → Type 0
Reads end tokens result = MatchResult result (λ b. reading end tokens ≡ Ok (Classes (source_of b).classes))
    (λ e. e ≢ NoMemory → reading end tokens ≡ Err e)

pub tree : (end : ℕ) (tokens : List Token) (r : Result Program ParseError) → Reads end tokens r
    → IfOk r (λ b. Derives tokens (source_of b) × (first_limit tokens ≡ None))
tree end tokens (Ok b) h = read_tree end tokens (source_of b) h
tree end tokens (Err e) h = tt

-- the place of a token is that of the tokens from it on
token_place : (n : ℕ) (tokens : List Token) (token : Token) → n < length tokens
    → offset_at 0 (drop n tokens) ≡ (slice_index_or tokens n token).at
token_place n tokens token h = ap (offset_at 0) (drop-cons tokens n token h)

too_many_at : (n : ℕ) (tokens : List Token) (token : Token) → n < length tokens
    → cond (nat_lt n (length tokens)) (Some (Limit Tokens (offset_at 0 (drop n tokens)))) None
    ≡ Some (Limit Tokens (slice_index_or tokens n token).at)
too_many_at n tokens token h =
    ap (λ b. cond b (Some (Limit Tokens (offset_at 0 (drop n tokens)))) None) (lt-ltb n (length tokens) h)
    ∙ ap (λ at. Some (Limit Tokens at)) (token_place n tokens token h)

-- more tokens than a text may have
pub many_tokens : (end : ℕ) (tokens : List Token) (token : Token) → MOST_TOKENS < length tokens
    → reading end tokens ≡ Err (Limit Tokens (slice_index_or tokens MOST_TOKENS token).at)
many_tokens end tokens token h = ap (λ o. unless o (scan true end tokens 0 (AProgram 0 ∷ []) (Classes [] ∷ [])))
    (too_many_at MOST_TOKENS tokens token h)

limits_of : (end : ℕ) (tokens : List Token) (x : Source) → IsReadable tokens end → AreSmallTokens tokens
    → reading end tokens ≡ Ok (Classes x.classes) → IsWithinLimits x
limits_of end tokens x readable numbers h =
    let t = read_tree end tokens x h in
    let k = kept tokens x t.0 t.1 in
    within_limits tokens x end t.0 k.1 k.0 readable numbers

pub limits : (end : ℕ) (tokens : List Token) (r : Result Program ParseError) → IsReadable tokens end
    → Reads end tokens r → AreSmallTokens tokens → IfOk r (λ b. IsWithinLimits (source_of b))
limits end tokens (Ok b) readable h numbers = limits_of end tokens (source_of b) readable numbers h
limits end tokens (Err e) readable h numbers = tt

one_tree : (end : ℕ) (tokens : List Token) (x y : Source) → reading end tokens ≡ Ok (Classes y.classes)
    → reading end tokens ≡ Ok (Classes x.classes) → y ≡ x
one_tree end tokens x y g h =
    let same : y.classes ≡ x.classes = cc in
    let P : List ClassText → Source = λ c. record { classes = c } in
    ap P same

no_memory : (end : ℕ) (tokens : List Token) (q : ParsedValue) (e : ParseError) → reading end tokens ≡ Ok q
    → (e ≢ NoMemory → reading end tokens ≡ Err e) → e ≡ NoMemory
no_memory end tokens q (Syntax at) g h = let k = h (λ m. cc) in cc
no_memory end tokens q (Limit which at) g h = let k = h (λ m. cc) in cc
no_memory end tokens q NoMemory g h = refl

pub only : (end : ℕ) (tokens : List Token) (r : Result Program ParseError) → Reads end tokens r → (x : Source)
    → Derives tokens x → first_limit tokens ≡ None → MatchResult r (λ b. source_of b ≡ x) (λ e. e ≡ NoMemory)
only end tokens (Ok b) h x d e = one_tree end tokens x (source_of b) h (read_all end tokens x d e)
only end tokens (Err err) h x d e = no_memory end tokens (Classes x.classes) err (read_all end tokens x d e) h

known : (end : ℕ) (tokens : List Token) (e f : ParseError) (r : Result Program ParseError) → Reads end tokens r
    → r ≡ Err e → e ≢ NoMemory → reading end tokens ≡ Err e
known end tokens e f (Ok b) h g never = cc
known end tokens e f (Err x) h g never = let same : x ≡ e = cc in rw (sym same) (h (λ k. never (sym same ∙ k)))

pub syntax : (end : ℕ) (tokens : List Token) (r : Result Program ParseError) → Reads end tokens r → (at : ℕ)
    → r ≡ Err (Syntax at) → IsWrongAt end tokens at × (first_limit tokens ≡ None)
syntax end tokens r h at e = read_syntax end tokens at (known end tokens (Syntax at) NoMemory r h e (λ k. cc))

pub limit : (end : ℕ) (tokens : List Token) (r : Result Program ParseError) → Reads end tokens r
    → (which : LimitKind) (at : ℕ) → r ≡ Err (Limit which at)
    → (first_limit tokens ≡ Some (Limit which at)) × (which ≢ Tokens → IsTokenReached tokens at)
limit end tokens r h which at e = read_limit end tokens which at
    (known end tokens (Limit which at) NoMemory r h e (λ k. cc))

refused : (end : ℕ) (tokens : List Token) (r : Result Program ParseError) (e : ParseError) → Reads end tokens r
    → reading end tokens ≡ Err e → MatchResult r (λ b. ⊥) (λ f. f ≢ NoMemory → f ≡ e)
refused end tokens (Ok b) e h g = cc
refused end tokens (Err f) e h g = λ never. let k = h never in cc

pub wrong : (end : ℕ) (tokens : List Token) (r : Result Program ParseError) → Reads end tokens r → (at : ℕ)
    → IsWrongAt end tokens at → first_limit tokens ≡ None → MatchResult r (λ b. ⊥) (λ f. f ≢ NoMemory → f ≡ Syntax at)
wrong end tokens r h at w e = refused end tokens r (Syntax at) h (wrong_read end tokens at w e)

pub passed : (end : ℕ) (tokens : List Token) (r : Result Program ParseError) → Reads end tokens r → (e : ParseError)
    → first_limit tokens ≡ Some e → MatchResult r (λ b. ⊥) (λ f. f ≢ NoMemory → f ≡ e)
passed end tokens r h e g = refused end tokens r e h (passed_read end tokens e g)
