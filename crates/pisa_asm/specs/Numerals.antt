-- Numbers and registers.
use Rattle.std.specs.Prelude.{ℕ, ◌+◌, ◌-◌, ◌*◌, ◌^◌, Bool, true, false, not, nat_lt, List, [], ◌∷◌}
use Rattle.std.specs.Prelude.{◌==◌, ◌&&◌, Option, Some, None, if◌then◌else◌}
use Rattle.std.specs.Char.{is_ascii_digit}
use Rattle.pisa_isa.specs.rpp_words.Words.{negated}

-- the number that decimal digits write after those of `before`, if they are only digits
abbrev pub numeral_from : ℕ → List ℕ → Option ℕ
numeral_from before [] = Some before
numeral_from before (digit ∷ rest) =
    if is_ascii_digit digit then numeral_from (10 * before + (digit - 48)) rest else None

-- the number that one or more digits write
abbrev pub numeral : List ℕ → Option ℕ
numeral [] = None
numeral (digit ∷ rest) = numeral_from 0 (digit ∷ rest)

-- a number below an end
abbrev pub below : ℕ → Option ℕ → Option ℕ
below end None = None
below end (Some n) = if nat_lt n end then Some n else None

-- the word of a negative number, given without its sign
abbrev pub minus : Option ℕ → Option ℕ
minus None = None
minus (Some n) = Some (negated n)

-- the word of a number that is at least -low and below `end`: digits with an optional sign
abbrev pub number_in : (low end : ℕ) → List ℕ → Option ℕ
number_in low end [] = None
number_in low end (first ∷ rest) =
    if first == 45 then minus (below (low + 1) (numeral rest))
    else (if first == 43 then below end (numeral rest) else below end (numeral (first ∷ rest)))

-- a word, an amount, an offset
abbrev pub word_number : List ℕ → Option ℕ
word_number bytes = number_in (2 ^ 31) (2 ^ 32) bytes

abbrev pub amount_number : List ℕ → Option ℕ
amount_number bytes = number_in 0 32 bytes

abbrev pub offset_number : List ℕ → Option ℕ
offset_number bytes = number_in (2 ^ 31) (2 ^ 31) bytes

-- a word of decimal digits only
abbrev pub unsigned_number : List ℕ → Option ℕ
unsigned_number bytes = below (2 ^ 32) (numeral bytes)

-- a number without leading zeros
abbrev pub plain_digits : List ℕ → Bool
plain_digits [] = false
plain_digits (digit ∷ []) = true
plain_digits (digit ∷ more ∷ rest) = not (digit == 48)

-- `$` and a number from 0 to 31 without leading zeros
abbrev pub register_number : List ℕ → Option ℕ
register_number [] = None
register_number (first ∷ digits) = if (first == 36) && plain_digits digits
    then below 32 (numeral digits) else None
