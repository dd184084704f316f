-- What `parse` gives, as a number or none.
use Rattle.std.proofs.Common.{◌≡◌, ℕ, zero, suc, drop, get_or, ◌<◌, ◌^◌, ◌≢◌, Bool, true, false, cond, List, [], ◌∷◌, length, Option, Some, None, Result, Ok, Err, ℤ, pos, negsuc, refl, ap, ◌∙◌, SFits, w64, arith}
use Rattle.std.specs.Prelude.{◌==◌, nat_lt, not, ◌&&◌, SomeIff, OkIff}
use Rattle.std.specs.Bool.{Decides}
use Rattle.std.specs.Str.{IsAscii, IsUtf8}
use Rattle.std.proofs.lemmas.Str.{IsUtf8-from_ascii}
use Rattle.std.proofs.lemmas.Fmt.{IsAscii-from_digits}
use Rattle.std.specs.Char.{digit_value}
use Rattle.std.specs.List.{list_all}
use Rattle.std.specs.Result.{result_ok}
use Rattle.std.specs.Str.Parse.{AllDigits, IsNumeral, ParsesUnsigned, ParsesSigned, digits_value, without_leading_plus, without_leading_sign, signed_digits_value}
use Rattle.std.proofs.lemmas.Bool.Decides.{Decides-eqb, Decides-ltb, Decides-not, Decides-and, Decides-like}
use Rattle.row_parts.specs.Digits.{is_numeral, unsigned, has_64_bits, in_64_bits, signed}

digits_decided : (base : ℕ) (ds : List ℕ)
    → Decides (list_all (λ byte. nat_lt (digit_value byte) base) ds) (AllDigits base ds)
digits_decided base [] = (λ _. tt, λ _. refl)
digits_decided base (d ∷ ds) = Decides-and _ _ (Decides-ltb (digit_value d) base) (digits_decided base ds)

some_decided : (ds : List ℕ) → Decides (not (length ds == 0)) (0 < length ds)
some_decided ds = Decides-like (not (length ds == 0)) (λ (ne : length ds ≢ 0). omega arith)
    (λ (h : 0 < length ds) (e : length ds ≡ 0). omega arith)
    (Decides-not (length ds == 0) (Decides-eqb (length ds) 0))

numeral_decided : (base : ℕ) (ds : List ℕ) → Decides (is_numeral base ds) (IsNumeral base ds)
numeral_decided base ds = Decides-and _ _ (some_decided ds) (digits_decided base ds)

bits_decided : (z : ℤ) → Decides (has_64_bits z) (SFits w64 z)
bits_decided (pos n) = Decides-like (nat_lt n (2 ^ 63)) (λ (h : n < 2 ^ 63). record { sfits = h })
    (λ (f : SFits w64 (pos n)). f.sfits) (Decides-ltb n (2 ^ 63))
bits_decided (negsuc n) = Decides-like (nat_lt n (2 ^ 63)) (λ (h : n < 2 ^ 63). record { sfits = h })
    (λ (f : SFits w64 (negsuc n)). f.sfits) (Decides-ltb n (2 ^ 63))

not_both : false ≡ true → ⊥
not_both e = cc

-- a test and what it decides choose the same
pub ok_chosen : {A E P : Type 0} (b : Bool) (v : A) (r : Result A E) → Decides b P → OkIff r P v
    → result_ok r ≡ cond b (Some v) None
ok_chosen true v (Ok x) d h = ap (λ y. Some y) h.1
ok_chosen false v (Ok x) d h = absurd (not_both (d.1 h.0))
ok_chosen true v (Err e) d h = absurd (h (d.0 refl))
ok_chosen false v (Err e) d h = refl

pub some_chosen : {A P : Type 0} (b : Bool) (v : A) (r : Option A) → Decides b P → SomeIff r P v
    → r ≡ cond b (Some v) None
some_chosen true v (Some x) d h = ap (λ y. Some y) h.1
some_chosen false v (Some x) d h = absurd (not_both (d.1 h.0))
some_chosen true v None d h = absurd (h (d.0 refl))
some_chosen false v None d h = refl

pub unsigned_gives : {E : Type 0} (bits base : ℕ) (text : List ℕ) (r : Result ℕ E)
    → ParsesUnsigned bits base text r → result_ok r ≡ unsigned bits base text
unsigned_gives bits base text r h =
    let ds = without_leading_plus text in
    ok_chosen (is_numeral base ds && nat_lt (digits_value base ds) (2 ^ bits)) (digits_value base ds) r
    (Decides-and _ _ (numeral_decided base ds) (Decides-ltb (digits_value base ds) (2 ^ bits))) h

both_chosen : {A : Type 0} (a b : Bool) (v : A) → cond (a && b) (Some v) None ≡ cond a (cond b (Some v) None) None
both_chosen true b v = refl
both_chosen false b v = refl

pub signed_gives : {E : Type 0} (text : List ℕ) (r : Result ℤ E) → ParsesSigned w64 10 text r
    → result_ok r ≡ signed text
signed_gives text r h =
    let ds = without_leading_sign text in
    let z = signed_digits_value 10 text in
    ok_chosen (is_numeral 10 ds && has_64_bits z) z r
    (Decides-and _ _ (numeral_decided 10 ds) (bits_decided z)) h
    ∙ both_chosen (is_numeral 10 ds) (has_64_bits z) z

pub checked_gives : (z : ℤ) (r : Option ℤ) → SomeIff r (SFits w64 z) z → r ≡ in_64_bits z
checked_gives z r h = some_chosen (has_64_bits z) z r (bits_decided z) h

-- what is no text is no number
cons_ascii : (c : ℕ) (tail : List ℕ) → c < 128 → ((i : ℕ) → get_or tail i 0 < 128) → (i : ℕ)
    → get_or (c ∷ tail) i 0 < 128
cons_ascii c tail small h zero = small
cons_ascii c tail small h (suc i) = h i

sign_ascii : (minus plus : Bool) (c : ℕ) (tail : List ℕ) → (minus ≡ true → c ≡ 45) → (plus ≡ true → c ≡ 43)
    → IsAscii (cond minus tail (drop (cond plus 1 0) (c ∷ tail))) → IsAscii (c ∷ tail)
sign_ascii true plus c tail is_minus is_plus h =
    let e : c ≡ 45 = is_minus refl in cons_ascii c tail (omega arith) h
sign_ascii false true c tail is_minus is_plus h =
    let e : c ≡ 43 = is_plus refl in cons_ascii c tail (omega arith) h
sign_ascii false false c tail is_minus is_plus h = h

number_ascii : (bs : List ℕ) → IsAscii (without_leading_sign bs) → IsAscii bs
number_ascii [] h = h
number_ascii (c ∷ tail) h = sign_ascii (c == 45) (c == 43) c tail (Decides-eqb c 45).0 (Decides-eqb c 43).0 h

not_at : (b : Bool) (o : Option ℤ) → (b ≡ true → ⊥) → None ≡ cond b o None
not_at true o h = absurd (h refl)
not_at false o h = refl

pub not_text : (bs : List ℕ) → ¬ (IsUtf8 bs) → None ≡ signed bs
not_text bs h =
    let ds = without_leading_sign bs in
    not_at (is_numeral 10 ds) (in_64_bits (signed_digits_value 10 bs))
    (λ e. h (IsUtf8-from_ascii bs (number_ascii bs
    (IsAscii-from_digits ds ((numeral_decided 10 ds).0 e).1))))
