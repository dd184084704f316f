-- A printed text is cut into the tokens that were printed, since a space or a line feed follows each.
use Rattle.std.proofs.Common.{◌≡◌, ℕ, suc, ◌+◌, ◌-◌, ◌*◌, ◌/◌, ◌%◌, ◌<◌, ◌≤◌, ◌==◌, Bool, true, false, List, [], ◌∷◌}
use Rattle.std.proofs.Common.{◌++◌, length, get_or, take, map, refl, sym, ◌∙◌, ap, subst, arith, decimal, append_assoc}
use Rattle.std.proofs.Common.{length-append, length-take-le, get_or-take}
use Rattle.std.specs.Prelude.{None}
use Rattle.std.specs.List.{AllPass, AllByRecursion}
use Rattle.std.specs.Char.{is_ascii_alphabetic, is_ascii_digit}
use Rattle.std.proofs.lemmas.Bool.Decides.{nat_tests}
use Rattle.std.proofs.lemmas.Fmt.{decimal_by_steps}
use Rattle.std.proofs.lemmas.List.{take_at, drop_at, get_or_at}
use Rattle.roopl_parser.specs.rpp_tree.Tree.{Source}
use Rattle.roopl_parser.specs.rpp_tree.Names.{IsName}
use Rattle.roopl_parser.specs.roopl_lexer.declared.token.Keyword.{Keyword}
use Rattle.roopl_parser.specs.roopl_lexer.declared.token.Keyword.TheVariants as word
use Rattle.roopl_parser.specs.roopl_lexer.declared.token.Symbol.{Symbol}
use Rattle.roopl_parser.specs.roopl_lexer.declared.token.Symbol.TheVariants as sign
use Rattle.roopl_parser.specs.roopl_lexer.declared.token.Token.{Token}
use Rattle.roopl_parser.specs.roopl_lexer.declared.token.TokenKind.{TokenKind}
use Rattle.roopl_parser.specs.roopl_lexer.declared.token.TokenKind.TheVariants.{Word, Name, Number, Sign}
use Rattle.roopl_parser.specs.rpp_tree.declared.limits.TheConstants.{MOST_NUMBER}
use Rattle.roopl_parser.specs.roopl_lexer.Signs.{keyword_bytes, sign_bytes}
use Rattle.roopl_parser.specs.roopl_lexer.Tokens.{is_white, begins_comment, Spells, IsLongest, is_too_large, Cut, finish, white}
use Rattle.roopl_parser.specs.roopl_lexer.Tokens.{token, IsCutting}
use Rattle.roopl_parser.specs.rpp_words.Texts.{decimal_from}
use Rattle.roopl_parser.specs.rpp_words.Names.{is_name_byte}
use Rattle.roopl_printer.specs.Printable.{IsPrintable}
use Rattle.roopl_printer.specs.Printed.{PrintedToken, kind_bytes, gap, with_gaps, printed_text}
use Rattle.roopl_printer.specs.Spelled.{spelled, printed}
use Rattle.roopl_printer.proofs.TokenBytes.{is_visible, word_bytes_visible, sign_bytes_visible, decimal_digits}

-- ---- no token has white space in it

visible_no_white : (b : ℕ) → is_visible b ≡ true → is_white b ≡ false
visible_no_white b h = grind (arith, nat_tests)

digit_no_white : (b : ℕ) → is_ascii_digit b ≡ true → is_white b ≡ false
digit_no_white b h = grind (arith, nat_tests)

name_no_white : (b : ℕ) → is_name_byte b ≡ true → is_white b ≡ false
name_no_white b h = grind (arith, nat_tests)

spelled_no_white : (kind : TokenKind) (bytes : List ℕ) → Spells kind bytes → (i : ℕ) → i < length bytes
    → is_white (get_or bytes i 0) ≡ false
spelled_no_white (Word k) bytes h i inside =
    visible_no_white (get_or bytes i 0) (subst (λ b. AllPass is_visible b) (sym h) (word_bytes_visible k) i 0 inside)
spelled_no_white (Name text) bytes h i inside =
    name_no_white (get_or bytes i 0) (subst (λ b. AllPass is_name_byte b) (sym h.0) h.1.name_bytes i 0 inside)
spelled_no_white (Number n) bytes h i inside = digit_no_white (get_or bytes i 0) (h.0.digits i 0 inside)
spelled_no_white (Sign s) bytes h i inside =
    visible_no_white (get_or bytes i 0) (subst (λ b. AllPass is_visible b) (sym h) (sign_bytes_visible s) i 0 inside)

-- ---- numbers

decimal_from-push : (before : ℕ) (digits : List ℕ) (d : ℕ)
    → decimal_from before (digits ++ d ∷ []) ≡ 10 * decimal_from before digits + (d - 48)
decimal_from-push before [] d = refl
decimal_from-push before (digit ∷ digits) d = decimal_from-push (10 * before + (digit - 48)) digits d

-- the digits of a number, of which there is one or more, write it
abbrev Writes : ℕ → List ℕ → Type 0
Writes n digits = (n ≡ decimal_from 0 digits) × (0 < length digits)

one_digit : (n : ℕ) → n < 10 → Writes n ((48 + n) ∷ [])
one_digit n small = (omega arith, omega arith)

one_more_digit : (n : ℕ) (digits : List ℕ) → 10 ≤ n → Writes (n / 10) digits → Writes n (digits ++ ((48 + n % 10) ∷ []))
one_more_digit n digits large h =
    let push = decimal_from-push 0 digits (48 + n % 10) in
    let long = length-append digits ((48 + n % 10) ∷ []) in
    let front : n / 10 ≡ decimal_from 0 digits = h.0 in
    (omega arith, omega arith)

decimal_writes : (n : ℕ) → n ≤ MOST_NUMBER → Writes n (decimal n)
decimal_writes n small = decimal_by_steps Writes one_digit one_more_digit n (omega arith)

-- ---- a token, and then white space

white_no_slash : (w : ℕ) → is_white w ≡ true → w == 47 ≡ false
white_no_slash w h = grind (arith, nat_tests)

letter_no_slash : (b : ℕ) → is_ascii_alphabetic b ≡ true → b == 47 ≡ false
letter_no_slash b h = grind (arith, nat_tests)

digit_no_slash : (b : ℕ) → is_ascii_digit b ≡ true → b == 47 ≡ false
digit_no_slash b h = grind (arith, nat_tests)

module _ (w : ℕ) (more : List ℕ) (blank : is_white w ≡ true) where
  first_no_slash : (bytes : List ℕ) → 0 < length bytes → get_or bytes 0 0 == 47 ≡ false
      → begins_comment (bytes ++ w ∷ more) ≡ false
  first_no_slash [] some h = absurd (omega arith)
  first_no_slash (a ∷ []) some h = rw h refl
  first_no_slash (a ∷ b ∷ bytes) some h = rw h refl

  word_no_comment : (k : Keyword) → begins_comment (keyword_bytes k ++ w ∷ more) ≡ false
  word_no_comment word.Class = refl
  word_no_comment _ = refl

  sign_no_comment : (s : Symbol) → begins_comment (sign_bytes s ++ w ∷ more) ≡ false
  sign_no_comment sign.Slash = white_no_slash w blank
  sign_no_comment _ = refl

  name_some : (text : List ℕ) → IsName text → 0 < length text
  name_some [] name = let none = name.letter in cc
  name_some (a ∷ text) name = omega arith

  no_comment : (kind : TokenKind) → IsPrintable kind → begins_comment (kind_bytes kind ++ w ∷ more) ≡ false
  no_comment (Word k) h = word_no_comment k
  no_comment (Name text) h = first_no_slash text (name_some text h) (letter_no_slash (get_or text 0 0) h.letter)
  no_comment (Number n) h =
      let writes = decimal_writes n h in
      first_no_slash (decimal n) writes.1 (digit_no_slash (get_or (decimal n) 0 0) (decimal_digits n 0 0 writes.1))
  no_comment (Sign s) h = sign_no_comment s

  spells : (kind : TokenKind) → IsPrintable kind → Spells kind (kind_bytes kind)
  spells (Word k) h = refl
  spells (Name text) h = (refl, h)
  spells (Number n) h = let writes = decimal_writes n h in
      (record { some = writes.1; digits = decimal_digits n }, writes.0)
  spells (Sign s) h = refl

  in_range : (kind : TokenKind) → IsPrintable kind → is_too_large kind ≡ false
  in_range (Word k) h = refl
  in_range (Name text) h = refl
  in_range (Number n) h = grind (arith, nat_tests)
  in_range (Sign s) h = refl

  none_longer : (kind other : TokenKind) (n : ℕ) → length (kind_bytes kind) < n
      → n ≤ length (kind_bytes kind ++ w ∷ more) → Spells other (take n (kind_bytes kind ++ w ∷ more)) → ⊥
  none_longer kind other n longer within spells_it =
      let rest = kind_bytes kind ++ w ∷ more in
      let at : ℕ = length (kind_bytes kind) in
      let here : get_or (take n rest) at 0 ≡ w = get_or-take n rest at 0 longer
      ∙ get_or_at (kind_bytes kind) w more 0 (length (kind_bytes kind)) refl in
      let long = length-take-le n rest within in
      let no = spelled_no_white other (take n rest) spells_it at (omega arith) in
      let same = ap is_white here in
      cc

  longest : (kind : TokenKind) → IsPrintable kind → IsLongest kind (length (kind_bytes kind))
      (kind_bytes kind ++ w ∷ more)
  longest kind h = record {
    within = let long = length-append (kind_bytes kind) (w ∷ more) in omega arith;
    spelled = subst (Spells kind) (sym (take_at (kind_bytes kind) (w ∷ more) (length (kind_bytes kind)) refl))
        (spells kind h);
    longest = λ other n. none_longer kind other n;
  }

-- ---- the tokens of a text

-- the tokens at their offsets: one byte is between two of them
abbrev pub laid : ℕ → List PrintedToken → List Token
laid at [] = []
laid at (t ∷ ts) = record { kind = t.kind; at = at; len = length (kind_bytes t.kind) }
    ∷ laid (at + length (kind_bytes t.kind) + 1) ts

pub laid_kinds : (at : ℕ) (ts : List PrintedToken) → map (λ t. t.kind) (laid at ts) ≡ map (λ t. t.kind) ts
laid_kinds at [] = refl
laid_kinds at (t ∷ ts) = ap (λ kinds. t.kind ∷ kinds) (laid_kinds (at + length (kind_bytes t.kind) + 1) ts)

pub laid_length : (at : ℕ) (ts : List PrintedToken) → length (laid at ts) ≡ length ts
laid_length at [] = refl
laid_length at (t ∷ ts) = ap suc (laid_length (at + length (kind_bytes t.kind) + 1) ts)

gap_white : (fresh : Bool) → is_white (gap fresh) ≡ true
gap_white true = refl
gap_white false = refl

abbrev Printables : List PrintedToken → Type 0
Printables ts = AllByRecursion (λ t. IsPrintable t.kind) ts

-- what follows a token begins with white space
abbrev BeginsWhite : List ℕ → Type 0
BeginsWhite bytes = (w : ℕ) × (more : List ℕ) × (bytes ≡ w ∷ more) × (is_white w ≡ true)

behind_white : (ts : List PrintedToken) → BeginsWhite (with_gaps ts ++ 10 ∷ [])
behind_white [] = (10, [], refl, refl)
behind_white (t ∷ ts) = (gap t.fresh, kind_bytes t.kind ++ with_gaps ts ++ 10 ∷ [], refl, gap_white t.fresh)

token_cut : (at : ℕ) (kind : TokenKind) (rest : List ℕ) (tokens : List Token) → IsPrintable kind → BeginsWhite rest
    → Cut (at + length (kind_bytes kind)) rest tokens None
    → Cut at (kind_bytes kind ++ rest) (record { kind = kind; at = at; len = length (kind_bytes kind) } ∷ tokens) None
token_cut at kind rest tokens printable begins cut =
    let w = begins.0 in
    let more = begins.1 in
    let whole : List ℕ = kind_bytes kind ++ rest in
    let is : kind_bytes kind ++ w ∷ more ≡ whole = ap (λ r. kind_bytes kind ++ r) (sym begins.2) in
    token at whole kind (length (kind_bytes kind)) tokens None
    (subst (λ l. begins_comment l ≡ false) is (no_comment w more begins.3 kind printable))
    (subst (λ l. IsLongest kind (length (kind_bytes kind)) l) is (longest w more begins.3 kind printable))
    (in_range w more begins.3 kind printable)
    (subst (λ l. Cut (at + length (kind_bytes kind)) l tokens None)
    (sym (drop_at (kind_bytes kind) rest (length (kind_bytes kind)) refl)) cut)

text_cut : (t : PrintedToken) (ts : List PrintedToken) (at : ℕ) → IsPrintable t.kind
    → Cut (at + length (kind_bytes t.kind)) (with_gaps ts ++ 10 ∷ []) (laid (at + length (kind_bytes t.kind) + 1) ts)
    None
    → Cut at (kind_bytes t.kind ++ with_gaps ts ++ 10 ∷ []) (laid at (t ∷ ts)) None
text_cut t ts at here cut =
    subst (λ l. Cut at l (laid at (t ∷ ts)) None) (sym (append_assoc (kind_bytes t.kind) (with_gaps ts) (10 ∷ [])))
    (token_cut at t.kind (with_gaps ts ++ 10 ∷ []) (laid (at + length (kind_bytes t.kind) + 1) ts) here
    (behind_white ts) cut)

behind_cut : (ts : List PrintedToken) (at : ℕ) → Printables ts → Cut at (with_gaps ts ++ 10 ∷ []) (laid (at + 1) ts) None
behind_cut [] at h = white at (10 ∷ []) [] None refl (finish (at + 1))
behind_cut (t ∷ ts) at h =
    white at (with_gaps (t ∷ ts) ++ 10 ∷ []) (laid (at + 1) (t ∷ ts)) None (gap_white t.fresh)
    (text_cut t ts (at + 1) h.0 (behind_cut ts (at + 1 + length (kind_bytes t.kind)) h.1))

tokens_cut : (ts : List PrintedToken) → Printables ts → IsCutting (printed_text ts) (laid 0 ts)
tokens_cut [] h = finish 0
tokens_cut (t ∷ ts) h = text_cut t ts 0 h.0 (behind_cut ts (0 + length (kind_bytes t.kind)) h.1)

pub printed_cut : (p : Source) → Printables (spelled p) → IsCutting (printed p) (laid 0 (spelled p))
printed_cut p h = tokens_cut (spelled p) h
