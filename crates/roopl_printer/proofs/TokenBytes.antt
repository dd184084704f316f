-- The bytes of tokens.
use Rattle.std.proofs.Common.{◌≡◌, ℕ, zero, suc, ◌<◌, ◌%◌, ◌/◌, ◌==◌, ◌&&◌, nat_lt, Bool, true, false, cond, List, []}
use Rattle.std.proofs.Common.{◌∷◌, ◌++◌, All, refl, arith, decimal}
use Rattle.std.specs.List.{AllPass, AllByRecursion, list_all}
use Rattle.std.specs.Char.{is_ascii_digit}
use Rattle.std.specs.Fmt.{digits, digits_onto, digit_glyph}
use Rattle.std.specs.Str.{IsAscii, IsUtf8}
use Rattle.std.proofs.lemmas.Bool.Decides.{nat_tests}
use Rattle.std.proofs.lemmas.Str.{IsAscii-append, IsUtf8-from_ascii}
use Rattle.std.proofs.lemmas.Str.Ascii.{IsAscii-nil, IsAscii-cons, IsAscii-from_all}
use Rattle.std.proofs.lemmas.List.Elements.{All-cons, All-weaker, recursion_from_All}
use Rattle.std.proofs.lemmas.List.Sums.{AllPass-from_list_all}
use Rattle.roopl_parser.specs.rpp_tree.Tree.{Source}
use Rattle.roopl_parser.specs.rpp_tree.Parts.{source_names}
use Rattle.roopl_parser.specs.roopl_lexer.declared.token.Keyword.{Keyword}
use Rattle.roopl_parser.specs.roopl_lexer.declared.token.Keyword.TheVariants as word
use Rattle.roopl_parser.specs.roopl_lexer.declared.token.Symbol.{Symbol}
use Rattle.roopl_parser.specs.roopl_lexer.declared.token.Symbol.TheVariants as sign
use Rattle.roopl_parser.specs.roopl_lexer.Signs.{keyword_bytes, sign_bytes}
use Rattle.roopl_printer.specs.Printed.{PrintedToken, kind_bytes, with_gaps, with_gap, gap, printed_text}
use Rattle.roopl_printer.specs.Spelled.{spelled, printed}
use Rattle.roopl_printer.proofs.NamedTokens.{each_token}

-- a visible byte: ASCII, and no white space
abbrev pub is_visible : ℕ → Bool
is_visible b = nat_lt 32 b && nat_lt b 127

keyword_visible : (k : Keyword) → list_all is_visible (keyword_bytes k) ≡ true
keyword_visible word.Class = refl
keyword_visible _ = refl

sign_visible : (s : Symbol) → list_all is_visible (sign_bytes s) ≡ true
sign_visible sign.AddTo = refl
sign_visible _ = refl

pub word_bytes_visible : (k : Keyword) → AllPass is_visible (keyword_bytes k)
word_bytes_visible k = AllPass-from_list_all is_visible (keyword_bytes k) (keyword_visible k)

pub sign_bytes_visible : (s : Symbol) → AllPass is_visible (sign_bytes s)
sign_bytes_visible s = AllPass-from_list_all is_visible (sign_bytes s) (sign_visible s)

-- ---- the digits of a number

glyph_digit : (d : ℕ) → d < 10 → is_ascii_digit (digit_glyph false d) ≡ true
glyph_digit d small = grind (arith, nat_tests)

either_passes : (test : ℕ → Bool) (b : Bool) (xs ys : List ℕ) → AllPass test xs → AllPass test ys
    → AllPass test (cond b xs ys)
either_passes test true xs ys a b = a
either_passes test false xs ys a b = b

onto_digits : (k n : ℕ) (acc : List ℕ) → AllPass is_ascii_digit acc
    → AllPass is_ascii_digit (digits_onto k 10 false n acc)
onto_digits zero n acc h = h
onto_digits (suc k) n acc h =
    let last : is_ascii_digit (digit_glyph false (n % 10)) ≡ true = glyph_digit (n % 10) (omega arith) in
    let more = All-cons (λ b. is_ascii_digit b ≡ true) (digit_glyph false (n % 10)) acc last h in
    either_passes is_ascii_digit (n / 10 == 0) (digit_glyph false (n % 10) ∷ acc)
    (digits_onto k 10 false (n / 10) (digit_glyph false (n % 10) ∷ acc)) more
    (onto_digits k (n / 10) (digit_glyph false (n % 10) ∷ acc) more)

pub decimal_digits : (n : ℕ) → AllPass is_ascii_digit (decimal n)
unfolding digits
decimal_digits n = onto_digits 64 n [] (λ k d below. absurd (omega arith))

-- ---- ASCII

visible_ascii : (b : ℕ) → is_visible b ≡ true → b < 128
visible_ascii b h = grind (arith, nat_tests)

digit_ascii : (b : ℕ) → is_ascii_digit b ≡ true → b < 128
digit_ascii b h = grind (arith, nat_tests)

ascii_from : (test : ℕ → Bool) (bytes : List ℕ) → ((b : ℕ) → test b ≡ true → b < 128) → AllPass test bytes
    → IsAscii bytes
ascii_from test bytes ascii pass = IsAscii-from_all bytes
    (All-weaker (λ b. test b ≡ true) (λ b. b < 128) ascii bytes pass)

gaps_ascii : (tokens : List PrintedToken) → AllByRecursion (λ t. IsAscii (kind_bytes t.kind)) tokens
    → IsAscii (with_gaps tokens)
gaps_ascii [] h = IsAscii-nil
gaps_ascii (t ∷ tokens) h = IsAscii-append (with_gap t) (with_gaps tokens)
    (IsAscii-cons (gap t.fresh) (kind_bytes t.kind) (gap_ascii t.fresh) h.0) (gaps_ascii tokens h.1)
  where
    gap_ascii : (fresh : Bool) → gap fresh < 128
    gap_ascii true = omega arith
    gap_ascii false = omega arith

text_ascii : (tokens : List PrintedToken) → AllByRecursion (λ t. IsAscii (kind_bytes t.kind)) tokens
    → IsAscii (printed_text tokens)
text_ascii [] h = IsAscii-nil
text_ascii (t ∷ tokens) h =
    IsAscii-append (kind_bytes t.kind ++ with_gaps tokens) (10 ∷ [])
    (IsAscii-append (kind_bytes t.kind) (with_gaps tokens) h.0 (gaps_ascii tokens h.1))
    (IsAscii-cons 10 [] (omega arith) IsAscii-nil)

pub printed_utf8 : (p : Source) → All (λ name. IsAscii name.text) (source_names p) → IsUtf8 (printed p)
printed_utf8 p names =
    IsUtf8-from_ascii (printed p) (text_ascii (spelled p) (each_token (λ kind. IsAscii (kind_bytes kind))
    (λ k. ascii_from is_visible (keyword_bytes k) visible_ascii (word_bytes_visible k))
    (λ s. ascii_from is_visible (sign_bytes s) visible_ascii (sign_bytes_visible s))
    (λ n. ascii_from is_ascii_digit (decimal n) digit_ascii (decimal_digits n))
    p (recursion_from_All (λ name. IsAscii name.text) (source_names p) names)))
