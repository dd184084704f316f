-- The parts of assembly text and what is read of them.
use Rattle.std.proofs.Common.{◌≡◌, ◌∙◌, ap, sym, refl, ℕ, ◌+◌, ◌-◌, ◌*◌, ◌^◌, ◌<◌, Bool, true, false, not, cond, ◌==◌}
use Rattle.std.proofs.Common.{arith, List, [], ◌∷◌, ◌++◌, length, get_or, Option, Some, None}
use Rattle.std.specs.Prelude.{◌&&◌}
use Rattle.std.specs.Fmt.{decimal}
use Rattle.std.specs.Char.{is_ascii_digit}
use Rattle.std.specs.Str.{all_ascii_digits, bytes_eq}
use Rattle.std.specs.Str.Parse.{IsNumeral, digits_value}
use Rattle.std.proofs.lemmas.Bool.Decides.{nat_tests}
use Rattle.std.proofs.lemmas.Slice.Eq.{bytes_eq-Decides}
use Rattle.std.proofs.lemmas.Fmt.{decimal-digits_value}
use Rattle.pisa_isa.specs.rpp_words.Words.{negated}
use Rattle.pisa_isa.specs.declared.cell.Op.{Op}
use Rattle.pisa_asm.specs.Numerals.{numeral_from, numeral, below, minus, number_in, unsigned_number, plain_digits}
use Rattle.pisa_asm.specs.Numerals.{register_number}
use Rattle.pisa_asm.specs.Mnemonics.{mnemonic, row_among}
use Rattle.pisa_asm.specs.Operands.{register_from}
use Rattle.pisa_asm.specs.AssemblyText.{NumberText, plain, plus, minus as minus_text, UnsignedText, RegisterText}
use Rattle.pisa_asm.specs.AssemblyText.{RegisterWords}
use Rattle.pisa_asm.proofs.Chaining.{some_map, tested}
use Rattle.pisa_asm.proofs.Ranging.{below_in}
use Rattle.pisa_asm.proofs.Spelling.{both}
use Rattle.pisa_asm.proofs.Rereading.{read_on, numeral_reads, own, some_numeral, below_same, unsigned, register_read}

-- numbers

digits_from : (digits : List ℕ) (n v : ℕ) → numeral_from n digits ≡ Some v → all_ascii_digits digits ≡ true
digits_from [] n v h = refl
digits_from (digit ∷ digits) n v h =
    let t = tested (is_ascii_digit digit) (numeral_from (10 * n + (digit - 48)) digits) v h in
    rw (t.0, digits_from digits (10 * n + (digit - 48)) v t.1) refl

-- only digits, as they are read and as they are written
pub record Numeral (bytes : List ℕ) (v : ℕ) : Type 0 where
  pub some : 0 < length bytes
  pub digits : all_ascii_digits bytes ≡ true
  pub is_numeral : IsNumeral 10 bytes
  pub value : v ≡ digits_value 10 bytes

pub numeral_sound : (bytes : List ℕ) (v : ℕ) → numeral bytes ≡ Some v → Numeral bytes v
numeral_sound [] v h = absurd (cc)
numeral_sound (digit ∷ digits) v h =
    let all = digits_from (digit ∷ digits) 0 v h in
    let some : 0 < length (digit ∷ digits) = omega arith in
    let read : Some (read_on 0 (digit ∷ digits)) ≡ Some v = sym (numeral_reads (digit ∷ digits) 0 all) ∙ h in
    let same : read_on 0 (digit ∷ digits) ≡ v = cc in
    record {
      some = some;
      digits = all;
      is_numeral = (some, own.to (digit ∷ digits) all);
      value = sym same ∙ own.same (digit ∷ digits) (own.to (digit ∷ digits) all);
    }

pub numeral_complete : (bytes : List ℕ) → IsNumeral 10 bytes → numeral bytes ≡ Some (digits_value 10 bytes)
numeral_complete bytes n =
    some_numeral bytes n.0 ∙ numeral_reads bytes 0 (own.from bytes n.1) ∙ ap Some (own.same bytes n.1)

below_complete : (end : ℕ) (bytes : List ℕ) → IsNumeral 10 bytes → digits_value 10 bytes < end
    → below end (numeral bytes) ≡ Some (digits_value 10 bytes)
below_complete end bytes n h = ap (below end) (numeral_complete bytes n) ∙ below_same end (digits_value 10 bytes) h

pub number_complete : (low end : ℕ) (bytes : List ℕ) (word : ℕ) → NumberText low end bytes word
    → number_in low end bytes ≡ Some word
number_complete low end bytes word (plain n h e) =
    unsigned low end bytes n.0 (own.from bytes n.1) ∙ below_complete end bytes n h ∙ ap Some (sym e)
number_complete low end bytes word (plus digits same n h e) = rw same (below_complete end digits n h ∙ ap Some (sym e))
number_complete low end bytes word (minus_text digits same n h e) =
    rw same (ap minus (below_complete (low + 1) digits n (omega arith)) ∙ ap Some (sym e))

pub number_sound : (low end : ℕ) (bytes : List ℕ) (word : ℕ) → number_in low end bytes ≡ Some word
    → NumberText low end bytes word
number_sound low end [] word h = absurd (cc)
number_sound low end (first ∷ rest) word h = by_sign (first == 45) (first == 43) refl refl h
  where
    is_first : (k : ℕ) → (first == k) ≡ true → first ∷ rest ≡ k ∷ rest
    is_first k e = let same : first ≡ k = grind (arith, nat_tests) in ap (λ b. b ∷ rest) same

    of_minus : (o : Option ℕ) → below (low + 1) (numeral rest) ≡ o → minus o ≡ Some word → (first == 45) ≡ true
        → NumberText low end (first ∷ rest) word
    of_minus None e h s = absurd (cc)
    of_minus (Some n) e h s =
        let b = below_in (low + 1) (numeral rest) n e in
        let numeral = numeral_sound rest n b.0 in
        let same : word ≡ negated n = cc in
        let value = numeral.value in
        let small = b.1 in
        minus_text rest (is_first 45 s) numeral.is_numeral (omega arith) (same ∙ ap negated value)

    by_sign : (s t : Bool) → (first == 45) ≡ s → (first == 43) ≡ t
        → cond s (minus (below (low + 1) (numeral rest))) (cond t (below end (numeral rest))
        (below end (numeral (first ∷ rest)))) ≡ Some word
        → NumberText low end (first ∷ rest) word
    by_sign true t e f h = of_minus (below (low + 1) (numeral rest)) refl h e
    by_sign false true e f h =
        let b = below_in end (numeral rest) word h in
        let numeral = numeral_sound rest word b.0 in
        plus rest (is_first 43 f) numeral.is_numeral (rw (← numeral.value) b.1) numeral.value
    by_sign false false e f h =
        let b = below_in end (numeral (first ∷ rest)) word h in
        let numeral = numeral_sound (first ∷ rest) word b.0 in
        plain numeral.is_numeral (rw (← numeral.value) b.1) numeral.value

pub unsigned_sound : (bytes : List ℕ) (n : ℕ) → unsigned_number bytes ≡ Some n → UnsignedText bytes n
unsigned_sound bytes n h =
    let b = below_in (2 ^ 32) (numeral bytes) n h in
    let numeral = numeral_sound bytes n b.0 in
    record { is_numeral = numeral.is_numeral; in_range = b.1; value = numeral.value }

pub unsigned_complete : (bytes : List ℕ) (n : ℕ) → UnsignedText bytes n → unsigned_number bytes ≡ Some n
unsigned_complete bytes n t =
    below_complete (2 ^ 32) bytes t.is_numeral (rw (← t.value) t.in_range) ∙ ap Some (sym t.value)

-- registers

no_leading_zero : (digits : List ℕ) → plain_digits digits ≡ true → get_or digits 0 0 ≡ 48 → length digits ≡ 1
no_leading_zero [] h e = absurd (cc)
no_leading_zero (d ∷ []) h e = refl
no_leading_zero (d ∷ more ∷ digits) h e = absurd (zero_first d h e)
  where
    zero_first : (d : ℕ) → not (d == 48) ≡ true → d ≡ 48 → ⊥
    zero_first d h e = grind (arith, nat_tests)

pub register_sound : (word : List ℕ) (r : ℕ) → register_number word ≡ Some r → RegisterText word r
register_sound [] r h = absurd (cc)
register_sound (first ∷ digits) r h =
    let t = tested ((first == 36) && plain_digits digits) (below 32 (numeral digits)) r h in
    let p = both (first == 36) (plain_digits digits) t.0 in
    let b = below_in 32 (numeral digits) r t.1 in
    let numeral = numeral_sound digits r b.0 in
    let small = b.1 in
    let value = numeral.value in
    let same : decimal (digits_value 10 digits) ≡ digits =
    ap decimal (sym (own.same digits (own.to digits numeral.digits)))
    ∙ decimal-digits_value own digits numeral.digits numeral.some (no_leading_zero digits p.1)
    (let e = own.same digits (own.to digits numeral.digits) in omega arith) in
    let dollar : first ≡ 36 = is_dollar first p.0 in
    record {
      in_range = b.1;
      written = ap (λ b. b ∷ digits) dollar ∙ ap (λ ds. 36 ∷ ds) (sym same ∙ ap decimal (sym value));
    }
  where
    is_dollar : (b : ℕ) → (b == 36) ≡ true → b ≡ 36
    is_dollar b e = grind (arith, nat_tests)

pub register_complete : (word : List ℕ) (r : ℕ) → RegisterText word r → register_number word ≡ Some r
register_complete word r t = rw t.written (register_read r t.in_range)

-- the words of a register, and those after them
pub record Taken (has : Bool) (words : List (List ℕ)) (r : ℕ) (rest : List (List ℕ)) : Type 0 where
  pub here : List (List ℕ)
  pub all : words ≡ here ++ rest
  pub is_register : RegisterWords has here r

pub taken_sound : (has : Bool) (words : List (List ℕ)) (p : ℕ × List (List ℕ)) → register_from has words ≡ Some p
    → Taken has words p.0 p.1
taken_sound false words p h = let same : p ≡ (0, words) = cc in
    rw same (record { here = []; all = refl; is_register = (refl, refl) })
taken_sound true [] p h = absurd (cc)
taken_sound true (word ∷ words) p h =
    let m = some_map (λ (r : ℕ). (r, words)) (register_number word) p h in
    rw m.2 (record { here = word ∷ []; all = refl; is_register = (word, refl, register_sound word m.0 m.1) })

pub taken_complete : (has : Bool) (here rest : List (List ℕ)) (r : ℕ) → RegisterWords has here r
    → register_from has (here ++ rest) ≡ Some (r, rest)
taken_complete false here rest r t = rw (t.0, t.1) refl
taken_complete true here rest r t = rw (t.1, register_complete t.0 r t.2) refl

-- mnemonics

pub row_sound : (ops : List Op) (word : List ℕ) (op : Op) → row_among ops word ≡ Some op → word ≡ mnemonic op
row_sound [] word op h = absurd (cc)
row_sound (first ∷ ops) word op h = by_test (bytes_eq word (mnemonic first)) refl h (row_sound ops word op)
  where
    by_test : (t : Bool) → bytes_eq word (mnemonic first) ≡ t → cond t (Some first) (row_among ops word) ≡ Some op
        → (row_among ops word ≡ Some op → word ≡ mnemonic op) → word ≡ mnemonic op
    by_test true e h rest =
        let same : first ≡ op = cc in
        (bytes_eq-Decides word (mnemonic first)).0 e ∙ ap mnemonic same
    by_test false e h rest = rest h
