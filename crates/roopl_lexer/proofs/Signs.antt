-- The longest symbol at a beginning, from the symbols of one, two and three bytes.
use Rattle.std.proofs.Common.{◌≡◌, ℕ, ◌<◌, ◌≤◌, false, List, [], ◌∷◌, length, get_or, take, refl, sym, ◌∙◌, ap, subst}
use Rattle.std.proofs.Common.{⊎_elim, arith, length-take-le}
use Rattle.std.proofs.str.Laws.{order}
use Rattle.std.specs.Prelude.{Option, Some, None, MatchOption}
use Rattle.std.specs.Option.{option_or}
use Rattle.std.specs.Char.{is_ascii_alphabetic, is_ascii_digit}
use Rattle.roopl_lexer.specs.declared.token.Symbol.{Symbol}
use Rattle.roopl_lexer.specs.declared.token.Symbol.TheVariants.{AddTo}
use Rattle.roopl_lexer.specs.Signs.{sign_bytes}
use Rattle.roopl_lexer.specs.Tokens.{is_white}
use Rattle.roopl_lexer.specs.Begins.{NoSign, IsLongestSign}

pub sign_no_letter : (sign : Symbol) → is_ascii_alphabetic (get_or (sign_bytes sign) 0 0) ≡ false
sign_no_letter AddTo = refl
sign_no_letter _ = refl

pub sign_no_digit : (sign : Symbol) → is_ascii_digit (get_or (sign_bytes sign) 0 0) ≡ false
sign_no_digit AddTo = refl
sign_no_digit _ = refl

pub sign_no_white : (sign : Symbol) → is_white (get_or (sign_bytes sign) 0 0) ≡ false
sign_no_white AddTo = refl
sign_no_white _ = refl

pub sign_some : (sign : Symbol) → 0 < length (sign_bytes sign)
sign_some AddTo = omega arith
sign_some _ = omega arith

pub sign_short : (sign : Symbol) → length (sign_bytes sign) ≤ 3
sign_short AddTo = omega arith
sign_short _ = omega arith

-- a symbol that is found among those of one number of bytes
abbrev pub Finds : List ℕ → Option Symbol → Type 0
Finds bytes found = MatchOption found (NoSign bytes) (λ sign. bytes ≡ sign_bytes sign)

-- the length of a front that is a symbol
front_length : (rest : List ℕ) (sign : Symbol) (len : ℕ) → len ≤ length rest → take len rest ≡ sign_bytes sign
    → len ≡ length (sign_bytes sign)
front_length rest sign len within spelled = sym (length-take-le len rest within) ∙ ap length spelled

-- a symbol of n bytes is found at the beginning
abbrev pub FindsAt : List ℕ → ℕ → Option Symbol → Type 0
FindsAt rest n None = n ≤ length rest → NoSign (take n rest)
FindsAt rest n (Some sign) = (n ≤ length rest) × (take n rest ≡ sign_bytes sign)

-- no symbol is at the beginning
longest_none : (rest : List ℕ) → ((len : ℕ) → 0 < len → len ≤ 3 → len ≤ length rest → NoSign (take len rest))
    → IsLongestSign rest None
longest_none rest none sign len within spelled =
    let same : len ≡ length (sign_bytes sign) = front_length rest sign len within spelled in
    let some = sign_some sign in
    let short = sign_short sign in
    none len (omega arith) (omega arith) within sign spelled

-- a symbol is at the beginning, and none of more bytes
longest_some : (rest : List ℕ) (sign : Symbol) (n : ℕ) → n ≤ length rest → take n rest ≡ sign_bytes sign
    → ((len : ℕ) → n < len → len ≤ 3 → len ≤ length rest → NoSign (take len rest)) → IsLongestSign rest (Some sign)
longest_some rest sign n within spelled none =
    let same : n ≡ length (sign_bytes sign) = front_length rest sign n within spelled in
    subst (λ m. (m ≤ length rest) × (take m rest ≡ sign_bytes sign)
    × ((other : Symbol) (len : ℕ) → m < len → len ≤ length rest → take len rest ≡ sign_bytes other → ⊥)) same (
      within,
      spelled,
      λ other len longer inside found.
          let found_length : len ≡ length (sign_bytes other) = front_length rest other len inside found in
          let short = sign_short other in
          none len longer (omega arith) inside other found,
    )

-- the lengths of symbols above one
above_two : (rest : List ℕ) → (3 ≤ length rest → NoSign (take 3 rest)) → (len : ℕ) → 2 < len → len ≤ 3
    → len ≤ length rest → NoSign (take len rest)
above_two rest none len longer short inside =
    let three : 3 ≡ len = omega arith in
    subst (λ m. NoSign (take m rest)) three (none (omega arith))

above_one : (rest : List ℕ) → (2 ≤ length rest → NoSign (take 2 rest)) → (3 ≤ length rest → NoSign (take 3 rest))
    → (len : ℕ) → 1 < len → len ≤ 3 → len ≤ length rest → NoSign (take len rest)
above_one rest two three len longer short inside =
    ⊎_elim
    (λ (small : len < 3). let is_two : 2 ≡ len = omega arith in
    subst (λ m. NoSign (take m rest)) is_two (two (omega arith)))
    (λ (large : 3 ≤ len). above_two rest three len (omega arith) short inside)
    (order len 3)

above_none : (rest : List ℕ) → (1 ≤ length rest → NoSign (take 1 rest)) → (2 ≤ length rest → NoSign (take 2 rest))
    → (3 ≤ length rest → NoSign (take 3 rest)) → (len : ℕ) → 0 < len → len ≤ 3 → len ≤ length rest
    → NoSign (take len rest)
above_none rest one two three len longer short inside =
    ⊎_elim
    (λ (small : len < 2). let is_one : 1 ≡ len = omega arith in
    subst (λ m. NoSign (take m rest)) is_one (one (omega arith)))
    (λ (large : 2 ≤ len). above_one rest two three len (omega arith) short inside)
    (order len 2)

pub longest_of : (rest : List ℕ) (one two three : Option Symbol) → FindsAt rest 1 one → FindsAt rest 2 two
    → FindsAt rest 3 three → IsLongestSign rest (option_or (option_or three two) one)
longest_of rest one two (Some sign) at_one at_two at_three =
    longest_some rest sign 3 at_three.0 at_three.1 (λ len longer short inside. absurd (omega arith))
longest_of rest one (Some sign) None at_one at_two at_three =
    longest_some rest sign 2 at_two.0 at_two.1 (above_two rest at_three)
longest_of rest (Some sign) None None at_one at_two at_three =
    longest_some rest sign 1 at_one.0 at_one.1 (above_one rest at_two at_three)
longest_of rest None None None at_one at_two at_three = longest_none rest (above_none rest at_one at_two at_three)

-- what a front of one, two or three bytes is
finds_front : (rest front : List ℕ) (n : ℕ) (found : Option Symbol) → n ≤ length rest → take n rest ≡ front
    → Finds front found → FindsAt rest n found
finds_front rest front n None within same finds = λ inside sign spelled. finds sign (sym same ∙ spelled)
finds_front rest front n (Some sign) within same finds = (within, same ∙ finds)

pub finds_one : (rest : List ℕ) (found : Option Symbol) → 1 ≤ length rest → Finds (get_or rest 0 0 ∷ []) found
    → FindsAt rest 1 found
finds_one [] found within finds = absurd (omega arith)
finds_one (a ∷ rest) found within finds = finds_front (a ∷ rest) (a ∷ []) 1 found within refl finds

pub finds_two : (rest : List ℕ) (found : Option Symbol) → 2 ≤ length rest
    → Finds (get_or rest 0 0 ∷ get_or rest 1 0 ∷ []) found → FindsAt rest 2 found
finds_two [] found within finds = absurd (omega arith)
finds_two (a ∷ []) found within finds = absurd (omega arith)
finds_two (a ∷ b ∷ rest) found within finds = finds_front (a ∷ b ∷ rest) (a ∷ b ∷ []) 2 found within refl finds

pub finds_three : (rest : List ℕ) (found : Option Symbol) → 3 ≤ length rest
    → Finds (get_or rest 0 0 ∷ get_or rest 1 0 ∷ get_or rest 2 0 ∷ []) found → FindsAt rest 3 found
finds_three [] found within finds = absurd (omega arith)
finds_three (a ∷ []) found within finds = absurd (omega arith)
finds_three (a ∷ b ∷ []) found within finds = absurd (omega arith)
finds_three (a ∷ b ∷ c ∷ rest) found within finds = finds_front (a ∷ b ∷ c ∷ rest) (a ∷ b ∷ c ∷ []) 3 found within refl
    finds
