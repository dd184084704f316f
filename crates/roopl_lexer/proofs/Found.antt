-- The token that is found at a place, or why there is none.
use Rattle.std.proofs.Common.{◌≡◌, ℕ, ◌<◌, ◌≤◌, true, false, List, length, get_or, take, refl, sym, ◌∙◌, ap, subst}
use Rattle.std.proofs.Common.{arith}
use Rattle.std.specs.Prelude.{Some}
use Rattle.std.specs.List.{prefix_len}
use Rattle.std.specs.Char.{is_ascii_alphabetic, is_ascii_digit}
use Rattle.std.proofs.lemmas.Bool.Decides.{nat_tests}
use Rattle.rpp_tree.specs.Names.{is_keyword}
use Rattle.rpp_tree.specs.declared.limits.TheConstants.{MOST_NUMBER}
use Rattle.roopl_lexer.specs.declared.token.Symbol.{Symbol}
use Rattle.roopl_lexer.specs.declared.token.Keyword.{Keyword}
use Rattle.roopl_lexer.specs.declared.token.TokenKind.TheVariants.{Word, Name, Number, Sign}
use Rattle.roopl_lexer.specs.Signs.{keyword_bytes, sign_bytes}
use Rattle.roopl_lexer.specs.Tokens.{IsLongest, is_too_large}
use Rattle.rpp_tree.specs.rpp_words.Texts.{decimal_from}
use Rattle.rpp_tree.specs.rpp_words.Names.{is_name_byte}
use Rattle.roopl_lexer.specs.Begins.{IsTokenAt, IsLargeNumber, IsLongestSign}
use Rattle.roopl_lexer.proofs.Fronts.{letter_name_byte, run_some, word_longest, numeral_longest, run_name, run_numeral}
use Rattle.roopl_lexer.proofs.Fronts.{sign_longest}
use Rattle.roopl_lexer.proofs.Signs.{sign_some}

small_number : (n : ℕ) → n ≤ MOST_NUMBER → is_too_large (Number n) ≡ false
small_number n small = grind (arith, nat_tests)

large_number : (n : ℕ) → MOST_NUMBER < n → is_too_large (Number n) ≡ true
large_number n large = grind (arith, nat_tests)

module _ (rest : List ℕ) (some : 0 < length rest) where
  pub number_found : (at n len : ℕ) → is_ascii_digit (get_or rest 0 0) ≡ true → len ≡ prefix_len is_ascii_digit rest
      → n ≡ decimal_from 0 (take len rest) → n ≤ MOST_NUMBER
      → IsTokenAt at rest (record { kind = Number n; at = at; len = len })
  number_found at n len digit run number small = record {
    at_place = refl;
    some_bytes = let long = run_some is_ascii_digit rest some digit in omega arith;
    is_longest = subst (λ m. IsLongest (Number n) m rest) (sym run)
        (numeral_longest (Number n) rest digit (
          run_numeral rest some digit,
          number
              ∙ ap (λ m. decimal_from 0 (take m rest)) run,
        ));
    in_range = small_number n small;
  }

  pub large_found : (len : ℕ) → is_ascii_digit (get_or rest 0 0) ≡ true → len ≡ prefix_len is_ascii_digit rest
      → MOST_NUMBER < decimal_from 0 (take len rest) → IsLargeNumber rest
  large_found len digit run large =
      let n = decimal_from 0 (take len rest) in
      record {
        kind = Number n;
        len = prefix_len is_ascii_digit rest;
        is_longest = numeral_longest (Number n) rest digit (
          run_numeral rest some digit,
          ap (λ m. decimal_from 0 (take m rest)) run,
        );
        too_large = large_number n large;
      }

  pub keyword_found : (at len : ℕ) (keyword : Keyword) → is_ascii_alphabetic (get_or rest 0 0) ≡ true
      → len ≡ prefix_len is_name_byte rest → take len rest ≡ keyword_bytes keyword
      → IsTokenAt at rest (record { kind = Word keyword; at = at; len = len })
  keyword_found at len keyword letter run same = record {
    at_place = refl;
    some_bytes = let long = run_some is_name_byte rest some (letter_name_byte (get_or rest 0 0) letter) in omega arith;
    is_longest = subst (λ m. IsLongest (Word keyword) m rest) (sym run)
        (word_longest (Word keyword) rest letter (subst (λ m. take m rest ≡ keyword_bytes keyword) run same));
    in_range = refl;
  }

  pub name_found : (at len : ℕ) (text : List ℕ) → is_ascii_alphabetic (get_or rest 0 0) ≡ true
      → len ≡ prefix_len is_name_byte rest → is_keyword (take len rest) ≡ false → text ≡ take len rest
      → IsTokenAt at rest (record { kind = Name text; at = at; len = len })
  name_found at len text letter run none same =
      let whole : text ≡ take (prefix_len is_name_byte rest) rest = same ∙ ap (λ m. take m rest) run in
      let name = run_name rest some letter (subst (λ m. is_keyword (take m rest) ≡ false) run none) in
      record {
        at_place = refl;
        some_bytes = let long = run_some is_name_byte rest some (letter_name_byte (get_or rest 0 0) letter) in
            omega arith;
        is_longest = subst (λ m. IsLongest (Name text) m rest) (sym run)
            (word_longest (Name text) rest letter (sym whole, rw whole name));
        in_range = refl;
      }

  pub sign_found : (at len : ℕ) (sign : Symbol) → is_ascii_alphabetic (get_or rest 0 0) ≡ false
      → is_ascii_digit (get_or rest 0 0) ≡ false → len ≡ length (sign_bytes sign) → IsLongestSign rest (Some sign)
      → IsTokenAt at rest (record { kind = Sign sign; at = at; len = len })
  sign_found at len sign no_letter no_digit same found = record {
    at_place = refl;
    some_bytes = let long = sign_some sign in omega arith;
    is_longest = subst (λ m. IsLongest (Sign sign) m rest) (sym same) (sign_longest rest no_letter no_digit sign found);
    in_range = refl;
  }
