-- The lines of a script, their words, and numbers in digits.
use Rattle.std.specs.Prelude.{ℕ, ◌+◌, ◌-◌, ◌*◌, ◌^◌, Bool, false, ◌&&◌, ◌||◌, nat_eq, nat_le}
use Rattle.std.specs.Prelude.{if◌then◌else◌, List, [], ◌∷◌, ◌++◌, length, Option, Some, None}
use Rattle.std.specs.List.{list_all, slice_split}
use Rattle.std.specs.Char.{is_ascii_digit}
use Rattle.pisa_scripts.specs.declared.numbers.TheConstants.{MOST_DIGITS}

-- the number that digits write after others, if they are digits
abbrev pub digits_after : ℕ → List ℕ → Option ℕ
digits_after n [] = Some n
digits_after n (c ∷ cs) = if is_ascii_digit c then digits_after (10 * n + (c - 48)) cs else None

abbrev pub at_most : ℕ → Option ℕ → Option ℕ
at_most most None = None
at_most most (Some n) = if nat_le n most then Some n else None

-- the number that one digit or more write, if it is at most so much
abbrev pub number_up_to : (most : ℕ) → List ℕ → Option ℕ
number_up_to most word = if nat_eq (length word) 0 then None else at_most most (digits_after 0 word)

-- the number that one digit or more write, and at most MOST_DIGITS
abbrev pub short_number : List ℕ → Option ℕ
short_number word = if nat_le (length word) MOST_DIGITS then number_up_to (10 ^ MOST_DIGITS - 1) word
    else None

-- only spaces and tabs
abbrev pub is_blank : List ℕ → Bool
is_blank line = list_all (λ b. nat_eq b 32 || nat_eq b 9) line

-- the pieces that a byte parts
abbrev pub pieces : (at : ℕ) → List ℕ → List (List ℕ)
pieces at bytes = slice_split (λ b. nat_eq b at) bytes

abbrev pub begins_with : ℕ → List ℕ → Bool
begins_with b [] = false
begins_with b (first ∷ rest) = nat_eq first b

-- a byte of a text, unless it is a carriage return before a line feed
abbrev pub kept_byte : ℕ → (rest : List ℕ) → List ℕ
kept_byte b rest = if nat_eq b 13 && begins_with 10 rest then [] else b ∷ []

abbrev pub without_returns : List ℕ → List ℕ
without_returns [] = []
without_returns (b ∷ rest) = kept_byte b rest ++ without_returns rest
