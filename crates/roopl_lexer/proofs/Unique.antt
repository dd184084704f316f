-- A text has one tokenization: at each offset one constructor fits, and one token is the longest.
use Rattle.std.proofs.Common.{◌≡◌, ℕ, ◌+◌, ◌<◌, ◌≤◌, Bool, true, false, not, List, [], ◌∷◌, length, get_or, drop, take}
use Rattle.std.proofs.Common.{refl, sym, ◌∙◌, ap, subst, ⊎_elim, arith, length-take-le}
use Rattle.std.specs.Prelude.{Option}
use Rattle.std.specs.List.{prefix_len}
use Rattle.std.specs.Str.{bytes_eq}
use Rattle.std.specs.Char.{is_ascii_alphabetic, is_ascii_digit}
use Rattle.std.proofs.str.Laws.{order}
use Rattle.std.proofs.lemmas.Bool.Decides.{nat_tests}
use Rattle.rpp_tree.specs.Names.{IsName}
use Rattle.roopl_lexer.specs.declared.token.Keyword.{Keyword}
use Rattle.roopl_lexer.specs.declared.token.Keyword.TheVariants.{Class}
use Rattle.roopl_lexer.specs.declared.token.Symbol.{Symbol}
use Rattle.roopl_lexer.specs.declared.token.Symbol.TheVariants.{AddTo, SubFrom, XorInto, Swap, Plus, Minus, Caret, Amp}
use Rattle.roopl_lexer.specs.declared.token.Symbol.TheVariants.{Bar, AmpAmp, BarBar, Less, Greater, AtMost, AtLeast}
use Rattle.roopl_lexer.specs.declared.token.Symbol.TheVariants.{Equal, NotEqual, Star, Slash, Percent, LeftParen}
use Rattle.roopl_lexer.specs.declared.token.Symbol.TheVariants.{RightParen, LeftBracket, RightBracket, Comma}
use Rattle.roopl_lexer.specs.declared.token.Symbol.TheVariants.{DoubleColon}
use Rattle.roopl_lexer.specs.declared.token.Token.{Token}
use Rattle.roopl_lexer.specs.declared.token.TokenKind.{TokenKind}
use Rattle.roopl_lexer.specs.declared.token.TokenKind.TheVariants.{Word, Name, Number, Sign}
use Rattle.roopl_lexer.specs.declared.word.TheConstants.{KEYWORDS}
use Rattle.rpp_tree.specs.Refusal.{Refusal}
use Rattle.roopl_lexer.specs.Signs.{keyword_bytes, sign_bytes}
use Rattle.roopl_lexer.specs.Tokens.{is_white, begins_comment, comment_length, Spells, IsLongest, is_too_large, Cut}
use Rattle.roopl_lexer.specs.Tokens.{finish, white, comment, token, bad_byte, too_large}
use Rattle.roopl_lexer.proofs.Words.{is_keyword-keyword_bytes, keyword_letter}
use Rattle.roopl_lexer.proofs.Signs.{sign_no_letter, sign_no_digit, sign_no_white, sign_some}
use Rattle.roopl_lexer.proofs.Fronts.{letter_no_digit, first_of_front}

-- ---- the tables have each text once

keyword_of : List ℕ → Keyword
keyword_of bytes = get_or KEYWORDS (prefix_len (λ keyword. not (bytes_eq bytes (keyword_bytes keyword))) KEYWORDS) Class

keyword_of-keyword_bytes : (keyword : Keyword) → keyword_of (keyword_bytes keyword) ≡ keyword
unfolding keyword_of
keyword_of-keyword_bytes Class = refl
keyword_of-keyword_bytes _ = refl

same_keyword : (a b : Keyword) → keyword_bytes a ≡ keyword_bytes b → a ≡ b
same_keyword a b same = sym (keyword_of-keyword_bytes a) ∙ ap keyword_of same ∙ keyword_of-keyword_bytes b

signs : List Symbol
signs = AddTo ∷ SubFrom ∷ XorInto ∷ Swap ∷ Plus ∷ Minus ∷ Caret ∷ Amp ∷ Bar ∷ AmpAmp ∷ BarBar ∷ Less ∷ Greater ∷ AtMost
    ∷ AtLeast ∷ Equal ∷ NotEqual
    ∷ Star ∷ Slash ∷ Percent ∷ LeftParen ∷ RightParen ∷ LeftBracket ∷ RightBracket ∷ Comma ∷ DoubleColon ∷ []

sign_of : List ℕ → Symbol
sign_of bytes = get_or signs (prefix_len (λ sign. not (bytes_eq bytes (sign_bytes sign))) signs) AddTo

sign_of-sign_bytes : (sign : Symbol) → sign_of (sign_bytes sign) ≡ sign
unfolding sign_of signs
sign_of-sign_bytes AddTo = refl
sign_of-sign_bytes _ = refl

same_sign : (a b : Symbol) → sign_bytes a ≡ sign_bytes b → a ≡ b
same_sign a b same = sym (sign_of-sign_bytes a) ∙ ap sign_of same ∙ sign_of-sign_bytes b

-- ---- a text is that of one token

-- the class of a token by its first byte
abbrev Begins : TokenKind → ℕ → Type 0
Begins (Word keyword) b = is_ascii_alphabetic b ≡ true
Begins (Name text) b = is_ascii_alphabetic b ≡ true
Begins (Number n) b = is_ascii_digit b ≡ true
Begins (Sign sign) b = (is_ascii_alphabetic b ≡ false) × (is_ascii_digit b ≡ false) × (is_white b ≡ false)

begins : (kind : TokenKind) (bytes : List ℕ) → Spells kind bytes → Begins kind (get_or bytes 0 0)
begins (Word keyword) bytes spelled = subst (λ list. is_ascii_alphabetic (get_or list 0 0) ≡ true) (sym spelled)
    (keyword_letter keyword)
begins (Name text) bytes spelled = subst (λ list. is_ascii_alphabetic (get_or list 0 0) ≡ true) (sym spelled.0)
    spelled.1.letter
begins (Number n) bytes spelled = spelled.0.digits 0 0 spelled.0.some
begins (Sign sign) bytes spelled =
    subst (λ list. (is_ascii_alphabetic (get_or list 0 0) ≡ false) × (is_ascii_digit (get_or list 0 0) ≡ false)
    × (is_white (get_or list 0 0) ≡ false)) (sym spelled)
    (sign_no_letter sign, sign_no_digit sign, sign_no_white sign)

word_or_name : (keyword : Keyword) (text bytes : List ℕ) → bytes ≡ keyword_bytes keyword → bytes ≡ text → IsName text
    → ⊥
word_or_name keyword text bytes is_word is_text name =
    let keyword_holds = is_keyword-keyword_bytes keyword in
    let keyword_fails = name.no_keyword in
    let same : keyword_bytes keyword ≡ text = sym is_word ∙ is_text in
    cc

contrary : (test : Bool) → test ≡ true → test ≡ false → ⊥
contrary test holds fails = cc

one_kind : (a b : TokenKind) (bytes : List ℕ) → Spells a bytes → Spells b bytes → a ≡ b
one_kind (Word k) (Word j) bytes first second = ap (λ keyword. Word keyword) (same_keyword k j (sym first ∙ second))
one_kind (Word k) (Name text) bytes first second = absurd (word_or_name k text bytes first second.0 second.1)
one_kind (Word k) (Number n) bytes first second = absurd
    (letter_no_digit (get_or bytes 0 0) (begins (Word k) bytes first) (begins (Number n) bytes second))
one_kind (Word k) (Sign s) bytes first second = absurd
    (contrary (is_ascii_alphabetic (get_or bytes 0 0)) (begins (Word k) bytes first) (begins (Sign s) bytes second).0)
one_kind (Name text) (Word k) bytes first second = absurd (word_or_name k text bytes second first.0 first.1)
one_kind (Name text) (Name other) bytes first second = ap (λ name. Name name) (sym first.0 ∙ second.0)
one_kind (Name text) (Number n) bytes first second = absurd
    (letter_no_digit (get_or bytes 0 0) (begins (Name text) bytes first) (begins (Number n) bytes second))
one_kind (Name text) (Sign s) bytes first second = absurd
    (contrary (is_ascii_alphabetic (get_or bytes 0 0)) (begins (Name text) bytes first)
    (begins (Sign s) bytes second).0)
one_kind (Number n) (Word k) bytes first second = absurd
    (letter_no_digit (get_or bytes 0 0) (begins (Word k) bytes second) (begins (Number n) bytes first))
one_kind (Number n) (Name text) bytes first second = absurd
    (letter_no_digit (get_or bytes 0 0) (begins (Name text) bytes second) (begins (Number n) bytes first))
one_kind (Number n) (Number m) bytes first second = ap (λ number. Number number) (first.1 ∙ sym second.1)
one_kind (Number n) (Sign s) bytes first second = absurd
    (contrary (is_ascii_digit (get_or bytes 0 0)) (begins (Number n) bytes first) (begins (Sign s) bytes second).1)
one_kind (Sign s) (Word k) bytes first second = absurd
    (contrary (is_ascii_alphabetic (get_or bytes 0 0)) (begins (Word k) bytes second) (begins (Sign s) bytes first).0)
one_kind (Sign s) (Name text) bytes first second = absurd
    (contrary (is_ascii_alphabetic (get_or bytes 0 0)) (begins (Name text) bytes second)
    (begins (Sign s) bytes first).0)
one_kind (Sign s) (Number n) bytes first second = absurd
    (contrary (is_ascii_digit (get_or bytes 0 0)) (begins (Number n) bytes second) (begins (Sign s) bytes first).1)
one_kind (Sign s) (Sign t) bytes first second = ap (λ sign. Sign sign) (same_sign s t (sym first ∙ second))

-- ---- one token is the longest

one_length : (a b : TokenKind) (m n : ℕ) (rest : List ℕ) → IsLongest a m rest → IsLongest b n rest → m ≡ n
one_length a b m n rest first second =
    ⊎_elim
    (λ (less : m < n). absurd (first.longest b n less second.within second.spelled))
    (λ (more : n ≤ m). ⊎_elim
    (λ (greater : n < m). absurd (second.longest a m greater first.within first.spelled))
    (λ (equal : m ≤ n). omega arith)
    (order n m))
    (order m n)

one_longest : (a b : TokenKind) (m n : ℕ) (rest : List ℕ) → IsLongest a m rest → IsLongest b n rest → (a ≡ b) × (m ≡ n)
one_longest a b m n rest first second =
    let same = one_length a b m n rest first second in
    (one_kind a b (take n rest) (subst (λ k. Spells a (take k rest)) same first.spelled) second.spelled, same)

-- ---- a token has a first byte, and it is not white

spelled_some : (kind : TokenKind) (bytes : List ℕ) → Spells kind bytes → 0 < length bytes
spelled_some kind [] spelled = absurd (nothing kind (begins kind [] spelled) spelled)
  where
    nothing : (kind : TokenKind) → Begins kind 0 → Spells kind [] → ⊥
    nothing (Word keyword) begun empty = cc
    nothing (Name text) begun empty = cc
    nothing (Number n) begun empty = cc
    nothing (Sign sign) begun empty = let some = sign_some sign in let none = ap length empty in omega arith
spelled_some kind (b ∷ rest) spelled = omega arith

pub longest_some : (kind : TokenKind) (len : ℕ) (rest : List ℕ) → IsLongest kind len rest → 0 < len
longest_some kind len rest long =
    let some = spelled_some kind (take len rest) long.spelled in
    let same = length-take-le len rest long.within in
    omega arith

letter_no_white : (b : ℕ) → is_ascii_alphabetic b ≡ true → is_white b ≡ true → ⊥
letter_no_white b letter blank = grind (arith, nat_tests)

digit_no_white : (b : ℕ) → is_ascii_digit b ≡ true → is_white b ≡ true → ⊥
digit_no_white b digit blank = grind (arith, nat_tests)

not_white : (kind : TokenKind) (b : ℕ) → Begins kind b → is_white b ≡ true → ⊥
not_white (Word keyword) b begun blank = letter_no_white b begun blank
not_white (Name text) b begun blank = letter_no_white b begun blank
not_white (Number n) b begun blank = digit_no_white b begun blank
not_white (Sign sign) b begun blank = contrary (is_white b) blank begun.2

token_no_white : (kind : TokenKind) (len : ℕ) (rest : List ℕ) → IsLongest kind len rest
    → is_white (get_or rest 0 0) ≡ true → ⊥
token_no_white kind len rest long blank =
    let first = first_of_front len rest (longest_some kind len rest long) in
    not_white kind (get_or (take len rest) 0 0) (begins kind (take len rest) long.spelled) (ap is_white first ∙ blank)

token_no_end : (kind : TokenKind) (len : ℕ) → IsLongest kind len [] → ⊥
token_no_end kind len long = let some = longest_some kind len [] long in let within = long.within in omega arith

comment_no_white : (rest : List ℕ) → begins_comment rest ≡ true → is_white (get_or rest 0 0) ≡ true → ⊥
comment_no_white [] starts blank = cc
comment_no_white (a ∷ []) starts blank = cc
comment_no_white (a ∷ b ∷ rest) starts blank = grind (arith, nat_tests)

-- ---- one tokenization

pub one_cut : (at : ℕ) (rest : List ℕ) (a : List Token) (x : Option Refusal) (b : List Token) (y : Option Refusal)
    → Cut at rest a x → Cut at rest b y → (a ≡ b) × (x ≡ y)
one_cut _ _ _ _ _ _ (finish at) (finish _) = (refl, refl)
one_cut _ _ _ _ _ _ (finish at) (white _ _ tokens refusal blank cut) = cc
one_cut _ _ _ _ _ _ (finish at) (comment _ _ tokens refusal starts cut) = cc
one_cut _ _ _ _ _ _ (finish at) (token _ _ kind len tokens refusal none long small cut) =
    absurd (token_no_end kind len long)
one_cut _ _ _ _ _ _ (finish at) (bad_byte _ _ nothing) = absurd (omega (arith, nothing.more))
one_cut _ _ _ _ _ _ (finish at) (too_large _ _ kind len none long large) = absurd (token_no_end kind len long)
one_cut _ _ _ _ _ _ (white at rest tokens refusal blank cut) (finish _) = cc
one_cut _ _ _ _ _ _ (white at rest tokens refusal blank cut) (white _ _ others other blank' cut') =
    one_cut (at + 1) (drop 1 rest) tokens refusal others other cut cut'
one_cut _ _ _ _ _ _ (white at rest tokens refusal blank cut) (comment _ _ others other starts cut') =
    absurd (comment_no_white rest starts blank)
one_cut _ _ _ _ _ _ (white at rest tokens refusal blank cut) (token _ _ kind len others other none long small cut') =
    absurd (token_no_white kind len rest long blank)
one_cut _ _ _ _ _ _ (white at rest tokens refusal blank cut) (bad_byte _ _ nothing) =
    absurd (contrary (is_white (get_or rest 0 0)) blank nothing.no_white)
one_cut _ _ _ _ _ _ (white at rest tokens refusal blank cut) (too_large _ _ kind len none long large) =
    absurd (token_no_white kind len rest long blank)
one_cut _ _ _ _ _ _ (comment at rest tokens refusal starts cut) (finish _) = cc
one_cut _ _ _ _ _ _ (comment at rest tokens refusal starts cut) (white _ _ others other blank cut') =
    absurd (comment_no_white rest starts blank)
one_cut _ _ _ _ _ _ (comment at rest tokens refusal starts cut) (comment _ _ others other starts' cut') =
    one_cut (at + comment_length rest) (drop (comment_length rest) rest) tokens refusal others other cut cut'
one_cut _ _ _ _ _ _ (comment at rest tokens refusal starts cut) (token _ _ kind len others other none long small cut') =
    absurd (contrary (begins_comment rest) starts none)
one_cut _ _ _ _ _ _ (comment at rest tokens refusal starts cut) (bad_byte _ _ nothing) =
    absurd (contrary (begins_comment rest) starts nothing.no_comment)
one_cut _ _ _ _ _ _ (comment at rest tokens refusal starts cut) (too_large _ _ kind len none long large) =
    absurd (contrary (begins_comment rest) starts none)
one_cut _ _ _ _ _ _ (token at _ kind len tokens refusal none long small cut) (finish _) =
    absurd (token_no_end kind len long)
one_cut _ _ _ _ _ _ (token at rest kind len tokens refusal none long small cut) (white _ _ others other blank cut') =
    absurd (token_no_white kind len rest long blank)
one_cut _ _ _ _ _ _ (token at rest kind len tokens refusal none long small cut) (comment _ _ others other starts cut') =
    absurd (contrary (begins_comment rest) starts none)
one_cut _ _ _ _ _ _ (token at rest kind len tokens refusal none long small cut)
    (token _ _ kind' len' others other none' long' small' cut') =
    let same = one_longest kind kind' len len' rest long long' in
    let after = one_cut (at + len) (drop len rest) tokens refusal others other cut
    (subst (λ n. Cut (at + n) (drop n rest) others other) (sym same.1) cut') in
    ((λ i. record { kind = same.0 i; at = at; len = same.1 i } ∷ after.0 i), after.1)
one_cut _ _ _ _ _ _ (token at rest kind len tokens refusal none long small cut) (bad_byte _ _ nothing) =
    absurd (nothing.no_token kind len long.within long.spelled)
one_cut _ _ _ _ _ _ (token at rest kind len tokens refusal none long small cut)
    (too_large _ _ kind' len' none' long' large) =
    absurd (contrary (is_too_large kind) (ap is_too_large (one_longest kind kind' len len' rest long long').0 ∙ large)
    small)
one_cut _ _ _ _ _ _ (bad_byte at _ nothing) (finish _) = absurd (omega (arith, nothing.more))
one_cut _ _ _ _ _ _ (bad_byte at rest nothing) (white _ _ others other blank cut) =
    absurd (contrary (is_white (get_or rest 0 0)) blank nothing.no_white)
one_cut _ _ _ _ _ _ (bad_byte at rest nothing) (comment _ _ others other starts cut) =
    absurd (contrary (begins_comment rest) starts nothing.no_comment)
one_cut _ _ _ _ _ _ (bad_byte at rest nothing) (token _ _ kind len others other none long small cut) =
    absurd (nothing.no_token kind len long.within long.spelled)
one_cut _ _ _ _ _ _ (bad_byte at rest nothing) (bad_byte _ _ nothing') = (refl, refl)
one_cut _ _ _ _ _ _ (bad_byte at rest nothing) (too_large _ _ kind len none long large) =
    absurd (nothing.no_token kind len long.within long.spelled)
one_cut _ _ _ _ _ _ (too_large at _ kind len none long large) (finish _) = absurd (token_no_end kind len long)
one_cut _ _ _ _ _ _ (too_large at rest kind len none long large) (white _ _ others other blank cut) =
    absurd (token_no_white kind len rest long blank)
one_cut _ _ _ _ _ _ (too_large at rest kind len none long large) (comment _ _ others other starts cut) =
    absurd (contrary (begins_comment rest) starts none)
one_cut _ _ _ _ _ _ (too_large at rest kind len none long large)
    (token _ _ kind' len' others other none' long' small cut) =
    absurd (contrary (is_too_large kind') (ap is_too_large (one_longest kind' kind len' len rest long' long).0 ∙ large)
    small)
one_cut _ _ _ _ _ _ (too_large at rest kind len none long large) (bad_byte _ _ nothing) =
    absurd (nothing.no_token kind len long.within long.spelled)
one_cut _ _ _ _ _ _ (too_large at rest kind len none long large) (too_large _ _ kind' len' none' long' large') =
    (refl, refl)
