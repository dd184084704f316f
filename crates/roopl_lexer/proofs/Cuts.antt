-- One more part of a text, and the tokenization of the rest, are the tokenization of both.
use Rattle.std.proofs.Common.{◌≡◌, ℕ, ◌+◌, ◌-◌, ◌<◌, ◌≤◌, false, List, [], ◌∷◌, ◌++◌, length, get_or, drop, take, refl}
use Rattle.std.proofs.Common.{sym, ap, subst, ⊎_elim, arith, take_all, append_assoc, length-drop, drop-drop}
use Rattle.std.specs.Prelude.{Option, Some, None}
use Rattle.std.proofs.lemmas.List.{append-nil, drop_all}
use Rattle.roopl_lexer.specs.declared.token.Token.{Token}
use Rattle.roopl_lexer.specs.declared.error.LexError.{LexError}
use Rattle.roopl_lexer.specs.declared.error.LexError.TheVariants.{BadByte, NumberTooLarge, NoMemory}
use Rattle.rpp_tree.specs.Refusal.{Refusal, refused}
use Rattle.roopl_lexer.specs.Tokens.{is_white, begins_comment, Cut, finish, white, comment, token, bad_byte, too_large}
use Rattle.roopl_lexer.specs.Tokens.{lex_refusal, IsFirstRefusal}
use Rattle.roopl_lexer.specs.Begins.{IsBlank, IsTokenAt, IsRefusedAt}

-- neither white space nor a comment is at the beginning
pub record NoBlank (rest : List ℕ) : Type 0 where
  pub no_white : is_white (get_or rest 0 0) ≡ false
  pub no_comment : begins_comment rest ≡ false

pub no_blank : (rest : List ℕ) → IsBlank rest 0 → NoBlank rest
no_blank rest blank =
    ⊎_elim (λ one. absurd (omega (arith, one.0)))
    (λ more. ⊎_elim (λ some. absurd (omega (arith, some.1))) (λ none. record { no_white = none.1; no_comment = none.2 })
    more)
    blank

pub blank_within : (rest : List ℕ) (n : ℕ) → IsBlank rest n → 0 < length rest → n ≤ length rest
blank_within rest n blank some =
    ⊎_elim (λ one. omega (arith, one.0)) (λ more. ⊎_elim (λ long. long.2) (λ none. omega (arith, none.0)) more) blank

pub blank_cut : (at n : ℕ) (rest : List ℕ) (after : List Token) (refusal : Option Refusal) → IsBlank rest n → 0 < n
    → Cut (at + n) (drop n rest) after refusal → Cut at rest after refusal
blank_cut at n rest after refusal blank some cut =
    ⊎_elim
    (λ one. white at rest after refusal one.1 (subst (λ m. Cut (at + m) (drop m rest) after refusal) one.0 cut))
    (λ more. ⊎_elim
    (λ long. comment at rest after refusal long.3 (subst (λ m. Cut (at + m) (drop m rest) after refusal) long.0 cut))
    (λ none. absurd (omega (arith, none.0)))
    more)
    blank

pub token_cut : (at : ℕ) (rest : List ℕ) (found : Token) (after : List Token) (refusal : Option Refusal) → NoBlank rest
    → IsTokenAt at rest found → Cut (at + found.len) (drop found.len rest) after refusal
    → Cut at rest (found ∷ after) refusal
token_cut at rest found after refusal none is_token cut =
    subst (λ place. Cut at rest (record { kind = found.kind; at = place; len = found.len } ∷ after) refusal)
    (sym is_token.at_place)
    (token at rest found.kind found.len after refusal none.no_comment is_token.is_longest is_token.in_range cut)

pub refusal_cut : (at : ℕ) (rest : List ℕ) (error : LexError) → 0 < length rest → NoBlank rest
    → IsRefusedAt at rest error → (error ≡ NoMemory → ⊥) → Cut at rest [] (lex_refusal error)
refusal_cut at rest (BadByte place) some none why other =
    subst (λ p. Cut at rest [] (Some (refused 1 p))) (sym why.0)
    (bad_byte at rest (record {
      more = some;
      no_white = none.no_white;
      no_comment = none.no_comment;
      no_token = why.1;
    }))
refusal_cut at rest (NumberTooLarge place) some none why other =
    subst (λ p. Cut at rest [] (Some (refused 2 p))) (sym why.0)
    (too_large at rest why.1.kind why.1.len none.no_comment why.1.is_longest why.1.too_large)
refusal_cut at rest NoMemory some none why other = absurd (other refl)

first_refusal : (text : List ℕ) (error : LexError) → (error ≡ NoMemory → ⊥)
    → (front : List Token) × Cut 0 text front (lex_refusal error) → IsFirstRefusal text error
first_refusal text (BadByte at) other first = first
first_refusal text (NumberTooLarge at) other first = first
first_refusal text NoMemory other first = absurd (other refl)

-- the tokens so far and the tokenization of the rest are the tokenization of the text
abbrev pub CutUpTo : List ℕ → List Token → ℕ → Type 0
CutUpTo text tokens at = (after : List Token) (refusal : Option Refusal) → Cut at (drop at text) after refusal
    → Cut 0 text (tokens ++ after) refusal

-- the slice of a text from a place on
abbrev pub slice_from : ℕ → List ℕ → List ℕ
slice_from at text = take (length text - at) (drop at text)

slice_from-drop : (at : ℕ) (text : List ℕ) → slice_from at text ≡ drop at text
slice_from-drop at text = let left = length-drop at text in take_all (length text - at) (drop at text) (omega arith)

pub slice_within : (at n : ℕ) (text : List ℕ) → at < length text → n ≤ length (slice_from at text)
    → at + n ≤ length text
slice_within at n text more within =
    let left = length-drop at text in
    let same = ap length (slice_from-drop at text) in
    omega arith

pub slice_some : (at : ℕ) (text : List ℕ) → at < length text → 0 < length (slice_from at text)
slice_some at text more =
    let left = length-drop at text in
    let same = ap length (slice_from-drop at text) in
    omega arith

module _ (text : List ℕ) (tokens : List Token) (at : ℕ) (so_far : CutUpTo text tokens at) where
  pub up_to_blank : (n : ℕ) → IsBlank (slice_from at text) n → 0 < n → CutUpTo text tokens (at + n)
  up_to_blank n blank some after refusal cut =
      let here = subst (λ rest. IsBlank rest n) (slice_from-drop at text) blank in
      so_far after refusal (blank_cut at n (drop at text) after refusal here some (rw drop-drop cut))

  -- no white space and no comment is here
  none_here : (n : ℕ) → IsBlank (slice_from at text) n → n ≤ 0 → NoBlank (drop at text)
  none_here n blank none =
      let nothing : n ≡ 0 = omega arith in
      no_blank (drop at text) (subst (λ m. IsBlank (drop at text) m) nothing
      (subst (λ rest. IsBlank rest n) (slice_from-drop at text) blank))

  pub up_to_token : (n : ℕ) (found : Token) → IsBlank (slice_from at text) n → n ≤ 0
      → IsTokenAt at (slice_from at text) found → CutUpTo text (tokens ++ found ∷ []) (at + found.len)
  up_to_token n found blank none is_token after refusal cut =
      let here = subst (λ rest. IsTokenAt at rest found) (slice_from-drop at text) is_token in
      rw append_assoc (so_far (found ∷ after) refusal (token_cut at (drop at text) found after refusal
      (none_here n blank none) here (rw drop-drop cut)))

  pub up_to_refusal : (n : ℕ) (error : LexError) → at < length text → IsBlank (slice_from at text) n → n ≤ 0
      → IsRefusedAt at (slice_from at text) error → (error ≡ NoMemory → ⊥) → IsFirstRefusal text error
  up_to_refusal n error more blank none why other =
      let left = length-drop at text in
      let here = subst (λ rest. IsRefusedAt at rest error) (slice_from-drop at text) why in
      first_refusal text error other (
        tokens ++ [],
        so_far [] (lex_refusal error) (refusal_cut at (drop at text) error (omega arith) (none_here n blank none)
            here other),
      )

  pub up_to_end : length text ≤ at → Cut 0 text tokens None
  up_to_end ended =
      let nothing : drop at text ≡ [] = drop_all at text ended in
      subst (λ list. Cut 0 text list None) (append-nil tokens)
      (so_far [] None (subst (λ rest. Cut at rest [] None) (sym nothing) (finish at)))
