-- The tokens of a tokenization are in order, and their names are names.
use Rattle.std.proofs.Common.{◌≡◌, ℕ, ◌+◌, ◌<◌, ◌≤◌, true, List, [], ◌∷◌, length, get_or, drop, take, ap, subst, arith}
use Rattle.std.proofs.Common.{zero-add, length-drop, length-take-le}
use Rattle.std.specs.Prelude.{Option, sum_by}
use Rattle.std.specs.List.{AllByRecursion, All}
use Rattle.std.proofs.lemmas.List.Elements.{All-from_recursion}
use Rattle.std.proofs.lemmas.List.Sums.{prefix_len-le-length, sum_by-cons}
use Rattle.rpp_tree.specs.declared.limits.TheConstants.{MOST_BYTES}
use Rattle.roopl_lexer.specs.declared.token.Token.{Token}
use Rattle.roopl_lexer.specs.declared.token.TokenKind.{TokenKind}
use Rattle.roopl_lexer.specs.declared.token.TokenKind.TheVariants.{Word, Name, Number, Sign}
use Rattle.rpp_tree.specs.Refusal.{Refusal}
use Rattle.roopl_lexer.specs.Tokens.{is_white, comment_length, Spells, Cut, finish, white, comment, token, bad_byte}
use Rattle.roopl_lexer.specs.Tokens.{too_large}
use Rattle.roopl_lexer.specs.Readable.{IsNameToken, name_length, AreReadable, AreInOrder}
use Rattle.roopl_lexer.proofs.Unique.{longest_some}

-- a tokenization may begin further ahead
earlier : (before start end : ℕ) (tokens : List Token) → before ≤ start → AreInOrder start tokens end
    → AreInOrder before tokens end
earlier before start end [] below ordered = omega arith
earlier before start end (first ∷ tokens) below ordered = (omega (arith, ordered.0), ordered.1, ordered.2)

white_some : (rest : List ℕ) → is_white (get_or rest 0 0) ≡ true → 1 + length (drop 1 rest) ≡ length rest
white_some [] blank = cc
white_some (b ∷ rest) blank = let left = length-drop 1 (b ∷ rest) in omega arith

comment_rest : (rest : List ℕ) → comment_length rest + length (drop (comment_length rest) rest) ≡ length rest
comment_rest rest =
    let within : comment_length rest ≤ length rest = prefix_len-le-length _ rest in
    let left = length-drop (comment_length rest) rest in
    omega arith

token_rest : (len : ℕ) (rest : List ℕ) → len ≤ length rest → len + length (drop len rest) ≡ length rest
token_rest len rest within = let left = length-drop len rest in omega arith

pub in_order : (at : ℕ) (rest : List ℕ) (tokens : List Token) (refusal : Option Refusal) → Cut at rest tokens refusal
    → AreInOrder at tokens (at + length rest)
in_order _ _ _ _ (finish at) = omega arith
in_order _ _ _ _ (white at rest tokens refusal blank cut) =
    let whole : at + 1 + length (drop 1 rest) ≡ at + length rest = omega (arith, white_some rest blank) in
    earlier at (at + 1) (at + length rest) tokens (omega arith)
    (subst (λ end. AreInOrder (at + 1) tokens end) whole (in_order (at + 1) (drop 1 rest) tokens refusal cut))
in_order _ _ _ _ (comment at rest tokens refusal starts cut) =
    let n = comment_length rest in
    let whole : at + n + length (drop n rest) ≡ at + length rest = omega (arith, comment_rest rest) in
    earlier at (at + n) (at + length rest) tokens (omega arith)
    (subst (λ end. AreInOrder (at + n) tokens end) whole (in_order (at + n) (drop n rest) tokens refusal cut))
in_order _ _ _ _ (token at rest kind len tokens refusal none long small cut) =
    let whole : at + len + length (drop len rest) ≡ at + length rest = omega (arith, token_rest len rest long.within) in (
      omega arith,
      longest_some kind len rest long,
      subst (λ end. AreInOrder (at + len) tokens end) whole
          (in_order (at + len) (drop len rest) tokens refusal cut),
    )
in_order _ _ _ _ (bad_byte at rest nothing) = omega arith
in_order _ _ _ _ (too_large at rest kind len none long large) = omega arith

before_end : (start end : ℕ) (tokens : List Token) → AreInOrder start tokens end → start ≤ end
before_end start end [] ordered = ordered
before_end start end (first ∷ tokens) ordered =
    let after = before_end (first.at + first.len) end tokens ordered.2 in
    omega (arith, ordered.0)

within_each : (start end : ℕ) (tokens : List Token) → AreInOrder start tokens end
    → AllByRecursion (λ found. found.at + found.len ≤ end) tokens
within_each start end [] ordered = tt
within_each start end (first ∷ tokens) ordered = (
  before_end (first.at + first.len) end tokens ordered.2,
  within_each (first.at + first.len) end tokens ordered.2,
)

below_each : (start end most : ℕ) (tokens : List Token) → end ≤ most → AreInOrder start tokens end
    → AllByRecursion (λ found. found.at < most) tokens
below_each start end most [] small ordered = tt
below_each start end most (first ∷ tokens) small ordered =
    let after = before_end (first.at + first.len) end tokens ordered.2 in
    (omega (arith, ordered.1), below_each (first.at + first.len) end most tokens small ordered.2)

spelled_named : (kind : TokenKind) (bytes : List ℕ) → Spells kind bytes → IsNameToken kind
spelled_named (Word keyword) bytes spelled = tt
spelled_named (Name text) bytes spelled = spelled.1
spelled_named (Number n) bytes spelled = tt
spelled_named (Sign sign) bytes spelled = tt

spelled_length : (kind : TokenKind) (bytes : List ℕ) → Spells kind bytes → name_length kind ≤ length bytes
spelled_length (Word keyword) bytes spelled = omega arith
spelled_length (Name text) bytes spelled = let same = ap length spelled.0 in omega arith
spelled_length (Number n) bytes spelled = omega arith
spelled_length (Sign sign) bytes spelled = omega arith

names_each : (at : ℕ) (rest : List ℕ) (tokens : List Token) (refusal : Option Refusal) → Cut at rest tokens refusal
    → AllByRecursion (λ found. IsNameToken found.kind) tokens
names_each _ _ _ _ (finish at) = tt
names_each _ _ _ _ (white at rest tokens refusal blank cut) = names_each (at + 1) (drop 1 rest) tokens refusal cut
names_each _ _ _ _ (comment at rest tokens refusal starts cut) =
    names_each (at + comment_length rest) (drop (comment_length rest) rest) tokens refusal cut
names_each _ _ _ _ (token at rest kind len tokens refusal none long small cut) =
    (spelled_named kind (take len rest) long.spelled, names_each (at + len) (drop len rest) tokens refusal cut)
names_each _ _ _ _ (bad_byte at rest nothing) = tt
names_each _ _ _ _ (too_large at rest kind len none long large) = tt

name_sum : (at : ℕ) (rest : List ℕ) (tokens : List Token) (refusal : Option Refusal) → Cut at rest tokens refusal
    → sum_by (λ found. name_length found.kind) tokens ≤ length rest
name_sum _ _ _ _ (finish at) = omega arith
name_sum _ _ _ _ (white at rest tokens refusal blank cut) =
    let after = name_sum (at + 1) (drop 1 rest) tokens refusal cut in
    omega (arith, white_some rest blank)
name_sum _ _ _ _ (comment at rest tokens refusal starts cut) =
    let after = name_sum (at + comment_length rest) (drop (comment_length rest) rest) tokens refusal cut in
    omega (arith, comment_rest rest)
name_sum _ _ _ _ (token at rest kind len tokens refusal none long small cut) =
    let after = name_sum (at + len) (drop len rest) tokens refusal cut in
    let here = spelled_length kind (take len rest) long.spelled in
    let first : Token = record { kind = kind; at = at; len = len } in
    let sum = sum_by-cons (λ (found : Token). name_length found.kind) first tokens in
    let front = length-take-le len rest long.within in
    omega (arith, token_rest len rest long.within)
name_sum _ _ _ _ (bad_byte at rest nothing) = omega arith
name_sum _ _ _ _ (too_large at rest kind len none long large) = omega arith

pub all_within : (text : List ℕ) (tokens : List Token) (refusal : Option Refusal) → Cut 0 text tokens refusal
    → All (λ found. found.at + found.len ≤ length text) tokens
all_within text tokens refusal cut =
    let ordered = in_order 0 text tokens refusal cut in
    All-from_recursion (λ found. found.at + found.len ≤ length text) tokens
    (within_each 0 (length text) tokens (subst (λ end. AreInOrder 0 tokens end) (zero-add (length text)) ordered))

pub readable : (text : List ℕ) (tokens : List Token) (refusal : Option Refusal) → length text ≤ MOST_BYTES
    → Cut 0 text tokens refusal → AreReadable tokens
readable text tokens refusal small cut = record {
  places = All-from_recursion (λ found. found.at < MOST_BYTES) tokens
      (below_each 0 (length text) MOST_BYTES tokens small (subst (λ end. AreInOrder 0 tokens end)
      (zero-add (length text)) (in_order 0 text tokens refusal cut)));
  names = All-from_recursion (λ found. IsNameToken found.kind) tokens (names_each 0 text tokens refusal cut);
  name_bytes = let sum = name_sum 0 text tokens refusal cut in omega arith;
}
