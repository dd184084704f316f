-- The numbers that texts write.
use Rattle.std.specs.Prelude.{ℕ, ◌^◌, ◌==◌, nat_lt, Bool, not, ◌&&◌, List, length}
use Rattle.std.specs.Prelude.{ℤ, pos, negsuc, Option, Some, None, if◌then◌else◌, codes}
use Rattle.std.specs.Char.{digit_value}
use Rattle.std.specs.List.{list_all}
use Rattle.std.specs.Option.{option_map_or}
use Rattle.std.specs.Str.Parse.{digits_value, without_leading_plus, without_leading_sign, signed_digits_value}
use Rattle.row_parts.specs.Pieces.{after}

-- digits to a base, at least one
abbrev pub is_numeral : ℕ → List ℕ → Bool
is_numeral base digits = not (length digits == 0)
    && list_all (λ byte. nat_lt (digit_value byte) base) digits

-- the number of so many bits that digits to a base write, maybe after +
abbrev pub unsigned : ℕ → ℕ → List ℕ → Option ℕ
unsigned bits base text = let digits = without_leading_plus text in
    if is_numeral base digits && nat_lt (digits_value base digits) (2 ^ bits)
    then Some (digits_value base digits) else None

-- a number is one of 64 bits with a sign
abbrev pub has_64_bits : ℤ → Bool
has_64_bits (pos n) = nat_lt n (2 ^ 63)
has_64_bits (negsuc n) = nat_lt n (2 ^ 63)

-- the number with a sign
abbrev pub in_64_bits : ℤ → Option ℤ
in_64_bits number = if has_64_bits number then Some number else None

-- the number of 64 bits that decimal digits write, maybe after a sign
abbrev pub signed : List ℕ → Option ℤ
signed text = if is_numeral 10 (without_leading_sign text)
    then in_64_bits (signed_digits_value 10 text) else None

-- the number that decimal digits write, or digits to the base 16 after 0x
abbrev pub number : List ℕ → Option ℕ
number text = option_map_or (unsigned 64 16) (after (codes "0x") text) (unsigned 64 10 text)
