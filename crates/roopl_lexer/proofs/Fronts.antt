-- A maximal run of name bytes or of digits is the longest token at its place.
use Rattle.std.proofs.Common.{◌≡◌, ℕ, zero, suc, ◌<◌, ◌≤◌, Bool, true, false, List, [], ◌∷◌, length, get_or, take, refl}
use Rattle.std.proofs.Common.{sym, ◌∙◌, ap, subst, arith, length-take-le, get_or-take}
use Rattle.std.specs.Prelude.{Some, None}
use Rattle.std.specs.List.{AllPass, prefix_len}
use Rattle.std.specs.Char.{is_ascii_alphabetic, is_ascii_digit}
use Rattle.std.proofs.lemmas.Bool.Decides.{nat_tests}
use Rattle.std.proofs.lemmas.List.Elements.{All-from_get_or}
use Rattle.std.proofs.lemmas.List.Sums.{prefix_len_passes, prefix_len_stops, prefix_len-le-length}
use Rattle.rpp_tree.specs.rpp_words.Names.{is_name_byte}
use Rattle.rpp_tree.specs.Names.{IsName, is_keyword}
use Rattle.roopl_lexer.specs.declared.token.Symbol.{Symbol}
use Rattle.roopl_lexer.specs.declared.token.TokenKind.{TokenKind}
use Rattle.roopl_lexer.specs.declared.token.TokenKind.TheVariants.{Word, Name, Number, Sign}
use Rattle.roopl_lexer.specs.Signs.{sign_bytes}
use Rattle.roopl_lexer.specs.Tokens.{IsNumeral, Spells, IsLongest}
use Rattle.roopl_lexer.specs.Begins.{NoToken, IsLongestSign}
use Rattle.roopl_lexer.proofs.Words.{keyword_letter, keyword_name_bytes}
use Rattle.roopl_lexer.proofs.Signs.{sign_no_letter, sign_no_digit}

pub letter_no_digit : (b : ℕ) → is_ascii_alphabetic b ≡ true → is_ascii_digit b ≡ true → ⊥
letter_no_digit b letter digit = grind (arith, nat_tests)

pub letter_name_byte : (b : ℕ) → is_ascii_alphabetic b ≡ true → is_name_byte b ≡ true
letter_name_byte b letter = rw letter refl

-- a token that begins with a letter is made of name bytes
pub word_bytes : (kind : TokenKind) (bytes : List ℕ) → Spells kind bytes → is_ascii_alphabetic (get_or bytes 0 0) ≡ true
    → AllPass is_name_byte bytes
word_bytes (Word keyword) bytes spelled letter = subst (AllPass is_name_byte) (sym spelled) (keyword_name_bytes keyword)
word_bytes (Name text) bytes spelled letter = subst (AllPass is_name_byte) (sym spelled.0) spelled.1.name_bytes
word_bytes (Number n) bytes spelled letter = absurd (letter_no_digit (get_or bytes 0 0) letter
    (spelled.0.digits 0 0 spelled.0.some))
word_bytes (Sign sign) bytes spelled letter =
    let none = sign_no_letter sign in
    let same = ap (λ list. is_ascii_alphabetic (get_or list 0 0)) spelled in
    cc

-- a token that begins with a digit is made of digits
pub numeral_bytes : (kind : TokenKind) (bytes : List ℕ) → Spells kind bytes → is_ascii_digit (get_or bytes 0 0) ≡ true
    → AllPass is_ascii_digit bytes
numeral_bytes (Word keyword) bytes spelled digit =
    absurd (letter_no_digit (get_or bytes 0 0) (ap (λ list. is_ascii_alphabetic (get_or list 0 0)) spelled
    ∙ keyword_letter keyword) digit)
numeral_bytes (Name text) bytes spelled digit =
    absurd (letter_no_digit (get_or bytes 0 0) (ap (λ list. is_ascii_alphabetic (get_or list 0 0)) spelled.0
    ∙ spelled.1.letter) digit)
numeral_bytes (Number n) bytes spelled digit = spelled.0.digits
numeral_bytes (Sign sign) bytes spelled digit =
    let none = sign_no_digit sign in
    let same = ap (λ list. is_ascii_digit (get_or list 0 0)) spelled in
    cc

-- a token that begins with neither is a symbol
pub other_sign : (kind : TokenKind) (bytes : List ℕ) → Spells kind bytes
    → is_ascii_alphabetic (get_or bytes 0 0) ≡ false → is_ascii_digit (get_or bytes 0 0) ≡ false
    → (sign : Symbol) × (bytes ≡ sign_bytes sign)
other_sign (Word keyword) bytes spelled no_letter no_digit =
    let letter = keyword_letter keyword in
    let same = ap (λ list. is_ascii_alphabetic (get_or list 0 0)) spelled in
    cc
other_sign (Name text) bytes spelled no_letter no_digit =
    let letter = spelled.1.letter in
    let same = ap (λ list. is_ascii_alphabetic (get_or list 0 0)) spelled.0 in
    cc
other_sign (Number n) bytes spelled no_letter no_digit =
    let digit = spelled.0.digits 0 0 spelled.0.some in
    cc
other_sign (Sign sign) bytes spelled no_letter no_digit = (sign, spelled)

-- the first byte of a front
pub first_of_front : (n : ℕ) (rest : List ℕ) → 0 < n → get_or (take n rest) 0 0 ≡ get_or rest 0 0
first_of_front n rest some = get_or-take n rest 0 0 some

pub first_fails : (test : ℕ → Bool) (n : ℕ) (rest : List ℕ) → test 0 ≡ false → test (get_or rest 0 0) ≡ false
    → test (get_or (take n rest) 0 0) ≡ false
first_fails test zero rest nothing fails = nothing
first_fails test (suc n) rest nothing fails = ap test (first_of_front (suc n) rest (omega arith)) ∙ fails

pub run_some : (test : ℕ → Bool) (rest : List ℕ) → 0 < length rest → test (get_or rest 0 0) ≡ true
    → 0 < prefix_len test rest
run_some test [] some passes = absurd (omega arith)
run_some test (b ∷ rest) some passes = rw passes (omega arith)

pub run_passes : (test : ℕ → Bool) (rest : List ℕ) → AllPass test (take (prefix_len test rest) rest)
run_passes test rest =
    let within = prefix_len-le-length test rest in
    let len = length-take-le (prefix_len test rest) rest within in
    All-from_get_or (λ b. test b ≡ true) (take (prefix_len test rest) rest) 0
    (λ i below. ap test (get_or-take (prefix_len test rest) rest i 0 (omega arith))
    ∙ prefix_len_passes test rest i 0 (omega arith))

-- a longer front than the run has a byte that fails
pub longer_fails : (test : ℕ → Bool) (rest : List ℕ) (more : ℕ) → prefix_len test rest < more → more ≤ length rest
    → AllPass test (take more rest) → ⊥
longer_fails test rest more longer within passes =
    let len = length-take-le more rest within in
    let stops = prefix_len_stops test rest 0 (omega arith) in
    let passed = passes (prefix_len test rest) 0 (omega arith) in
    let same = ap test (get_or-take more rest (prefix_len test rest) 0 longer) in
    cc

pub word_longest : (kind : TokenKind) (rest : List ℕ) → is_ascii_alphabetic (get_or rest 0 0) ≡ true
    → Spells kind (take (prefix_len is_name_byte rest) rest) → IsLongest kind (prefix_len is_name_byte rest) rest
word_longest kind rest letter spelled = record {
  within = prefix_len-le-length is_name_byte rest;
  spelled = spelled;
  longest = λ other more longer within found. longer_fails is_name_byte rest more longer within
      (word_bytes other (take more rest) found (ap is_ascii_alphabetic (first_of_front more rest (omega arith))
      ∙ letter));
}

pub numeral_longest : (kind : TokenKind) (rest : List ℕ) → is_ascii_digit (get_or rest 0 0) ≡ true
    → Spells kind (take (prefix_len is_ascii_digit rest) rest) → IsLongest kind (prefix_len is_ascii_digit rest) rest
numeral_longest kind rest digit spelled = record {
  within = prefix_len-le-length is_ascii_digit rest;
  spelled = spelled;
  longest = λ other more longer within found. longer_fails is_ascii_digit rest more longer within
      (numeral_bytes other (take more rest) found (ap is_ascii_digit (first_of_front more rest (omega arith)) ∙ digit));
}

-- the run of name bytes after a letter is a name, if it is no keyword
pub run_name : (rest : List ℕ) → 0 < length rest → is_ascii_alphabetic (get_or rest 0 0) ≡ true
    → is_keyword (take (prefix_len is_name_byte rest) rest) ≡ false → IsName (take (prefix_len is_name_byte rest) rest)
run_name rest some letter none =
    let len = run_some is_name_byte rest some (letter_name_byte (get_or rest 0 0) letter) in
    record {
      letter = ap is_ascii_alphabetic (first_of_front (prefix_len is_name_byte rest) rest len) ∙ letter;
      name_bytes = run_passes is_name_byte rest;
      no_keyword = none;
    }

pub run_numeral : (rest : List ℕ) → 0 < length rest → is_ascii_digit (get_or rest 0 0) ≡ true
    → IsNumeral (take (prefix_len is_ascii_digit rest) rest)
run_numeral rest some digit =
    let len = run_some is_ascii_digit rest some digit in
    let same = length-take-le (prefix_len is_ascii_digit rest) rest (prefix_len-le-length is_ascii_digit rest) in
    record { some = omega arith; digits = run_passes is_ascii_digit rest }

module _ (rest : List ℕ) (no_letter : is_ascii_alphabetic (get_or rest 0 0) ≡ false)
    (no_digit : is_ascii_digit (get_or rest 0 0) ≡ false) where
  pub front_sign : (kind : TokenKind) (n : ℕ) → Spells kind (take n rest)
      → (sign : Symbol) × (take n rest ≡ sign_bytes sign)
  front_sign kind n spelled =
      other_sign kind (take n rest) spelled (first_fails is_ascii_alphabetic n rest refl no_letter)
      (first_fails is_ascii_digit n rest refl no_digit)

  pub sign_longest : (sign : Symbol) → IsLongestSign rest (Some sign)
      → IsLongest (Sign sign) (length (sign_bytes sign)) rest
  sign_longest sign found = record {
    within = found.0;
    spelled = found.1;
    longest = λ other more longer within spelled. let is_sign = front_sign other more spelled in
        found.2 is_sign.0 more longer within is_sign.1;
  }

  pub no_sign_no_token : IsLongestSign rest None → NoToken rest
  no_sign_no_token none kind len within spelled = let is_sign = front_sign kind len spelled in
      none is_sign.0 len within is_sign.1
