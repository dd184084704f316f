-- Numbers, registers, instructions and static words of a listing read back.
use Rattle.std.proofs.Common.{◌≡◌, ◌∙◌, ap, refl, ℕ, zero, suc, ◌+◌, ◌-◌, ◌*◌, ◌^◌, ◌<◌, ◌≤◌, Bool, true, false, not}
use Rattle.std.proofs.Common.{cond, ◌==◌, arith, List, [], ◌∷◌, ◌++◌, length, get_or, Some, None, Ok}
use Rattle.std.specs.Prelude.{nat_lt}
use Rattle.std.specs.Option.{option_map}
use Rattle.std.specs.Fmt.{decimal}
use Rattle.std.specs.Char.{is_ascii_digit}
use Rattle.std.specs.Str.{all_ascii_digits}
use Rattle.std.proofs.lemmas.Bool.Decides.{nat_tests}
use Rattle.std.proofs.lemmas.Str.Parse.{IsNumeralModel, numerals_by_fold, tells_all_ascii_digits}
use Rattle.std.proofs.lemmas.Fmt.{digits_value-decimal, decimal_nonempty, decimal_digit, first_decimal}
use Rattle.pisa_isa.specs.rpp_words.Words.{negated}
use Rattle.pisa_isa.specs.declared.cell.Op.{Op}
use Rattle.pisa_isa.specs.declared.cell.Op.TheVariants.{Add}
use Rattle.pisa_isa.specs.declared.cell.Cell.{Cell}
use Rattle.pisa_isa.specs.declared.notes.Mark.{Mark}
use Rattle.pisa_isa.specs.declared.notes.FieldName.{FieldName}
use Rattle.pisa_isa.specs.Notes.{is_name}
use Rattle.pisa_isa.specs.Table.{IsInRange, has_a, has_b, c_is_source, register_end}
use Rattle.pisa_asm.specs.declared.operand.Last.{Last}
use Rattle.pisa_asm.specs.declared.operand.Last.TheVariants.{Nothing, Word, Amount, Offset}
use Rattle.pisa_asm.specs.declared.operand.Operand.TheVariants.{Number}
use Rattle.pisa_asm.specs.declared.item.Item.TheVariants.{Code, Static, Marked, Named}
use Rattle.pisa_asm.specs.Numerals.{numeral_from, numeral, below, minus, number_in, plain_digits, register_number}
use Rattle.pisa_asm.specs.Numerals.{word_number, unsigned_number}
use Rattle.pisa_asm.specs.LabelNames.{is_label}
use Rattle.pisa_asm.specs.Mnemonics.{mnemonic, rows, row_named, static_mnemonic, mark_word, name_word}
use Rattle.pisa_asm.specs.Operands.{last_of, register_from, registers_from, offset_from, operand_from, given_from}
use Rattle.pisa_asm.specs.Items.{item_from}
use Rattle.pisa_asm.specs.Listing.{signed_text, offset_text}
use Rattle.pisa_asm.proofs.Spelling.{register_words, last_words, operand_words, mark_words, name_words, both}
use Rattle.pisa_asm.proofs.Spelling.{decimal_digits}
use Rattle.pisa_asm.proofs.Ranging.{end_of, last_end}

-- what digits write, read from the left
abbrev pub read_on : ℕ → List ℕ → ℕ
read_on n [] = n
read_on n (digit ∷ digits) = read_on (10 * n + (digit - 48)) digits

pub numeral_reads : (digits : List ℕ) (n : ℕ) → all_ascii_digits digits ≡ true
    → numeral_from n digits ≡ Some (read_on n digits)
numeral_reads [] n h = refl
numeral_reads (digit ∷ digits) n h =
    let p = both (is_ascii_digit digit) (all_ascii_digits digits) h in
    rw p.0 (numeral_reads digits (10 * n + (digit - 48)) p.1)

pub own : IsNumeralModel (λ ds. all_ascii_digits ds ≡ true) (read_on 0)
own = numerals_by_fold (λ ds. all_ascii_digits ds ≡ true) tells_all_ascii_digits read_on (record {
  empty = λ n. refl;
  more = λ n c cs h. ap (λ m. read_on m cs) (omega arith);
})

pub some_numeral : (digits : List ℕ) → 0 < length digits → numeral digits ≡ numeral_from 0 digits
some_numeral [] h = absurd (omega arith)
some_numeral (digit ∷ digits) h = refl

decimal_read : (n : ℕ) → n < 2 ^ 64 → numeral (decimal n) ≡ Some n
decimal_read n h = some_numeral (decimal n) (decimal_nonempty n h) ∙ numeral_reads (decimal n) 0 (decimal_digits n h)
    ∙ ap Some (digits_value-decimal own n h)

is_below : (n end : ℕ) → n < end → nat_lt n end ≡ true
is_below n end h = grind (arith, nat_tests)

pub below_same : (end n : ℕ) → n < end → below end (Some n) ≡ Some n
below_same end n h = rw (is_below n end h) refl

decimal_below : (end n : ℕ) → n < end → n < 2 ^ 64 → below end (numeral (decimal n)) ≡ Some n
decimal_below end n h small = ap (below end) (decimal_read n small) ∙ below_same end n h

plain_of : (digits : List ℕ) → 0 < length digits → 48 < get_or digits 0 0 → plain_digits digits ≡ true
plain_of [] some h = absurd (omega arith)
plain_of (d ∷ []) some h = refl
plain_of (d ∷ e ∷ digits) some h = not_zero d h
  where
    not_zero : (d : ℕ) → 48 < d → not (d == 48) ≡ true
    not_zero d h = grind (arith, nat_tests)

plain_decimal : (n : ℕ) → n < 2 ^ 64 → plain_digits (decimal n) ≡ true
plain_decimal zero h = rw (decimal_digit 0 (omega arith)) refl
plain_decimal (suc n) h = plain_of (decimal (suc n)) (decimal_nonempty (suc n) h)
    (first_decimal (suc n) (omega arith) h)

pub register_read : (r : ℕ) → r < 32 → register_number (36 ∷ decimal r) ≡ Some r
register_read r h = rw (plain_decimal r (omega arith)) (decimal_below 32 r h (omega arith))

register_again : (has : Bool) (r : ℕ) (words : List (List ℕ)) → r < register_end has
    → register_from has (register_words has r ++ words) ≡ Some (r, words)
register_again false r words h = let e : r ≡ 0 = omega arith in rw e refl
register_again true r words h = rw (register_read r h) refl

digit_no_minus : (d : ℕ) → is_ascii_digit d ≡ true → (d == 45) ≡ false
digit_no_minus d h = grind (arith, nat_tests)

digit_no_plus : (d : ℕ) → is_ascii_digit d ≡ true → (d == 43) ≡ false
digit_no_plus d h = grind (arith, nat_tests)

-- digits without a sign
pub unsigned : (low end : ℕ) (digits : List ℕ) → 0 < length digits → all_ascii_digits digits ≡ true
    → number_in low end digits ≡ below end (numeral digits)
unsigned low end [] some h = absurd (omega arith)
unsigned low end (d ∷ digits) some h =
    let p = both (is_ascii_digit d) (all_ascii_digits digits) h in
    rw (digit_no_minus d p.0, digit_no_plus d p.0) refl

plain_read : (low end n : ℕ) → n < end → n < 2 ^ 64 → number_in low end (decimal n) ≡ Some n
plain_read low end n h small = unsigned low end (decimal n) (decimal_nonempty n small) (decimal_digits n small)
    ∙ decimal_below end n h small

negated_twice : (n : ℕ) → 0 < n → n < 2 ^ 32 → negated (2 ^ 32 - n) ≡ n
negated_twice n some h = omega arith

minus_read : (low end n : ℕ) → 0 < n → n < 2 ^ 32 → 2 ^ 32 - n < low + 1
    → number_in low end (45 ∷ decimal (2 ^ 32 - n)) ≡ Some n
minus_read low end n some h l =
    ap minus (decimal_below (low + 1) (2 ^ 32 - n) l (omega arith)) ∙ ap Some (negated_twice n some h)

signed_read : (n : ℕ) → n < 2 ^ 32 → word_number (signed_text n) ≡ Some n
signed_read n h = by_sign (nat_lt n (2 ^ 31)) refl
  where
    by_sign : (t : Bool) → nat_lt n (2 ^ 31) ≡ t → word_number (cond t (decimal n) (45 ∷ decimal (2 ^ 32 - n))) ≡ Some n
    by_sign true e = plain_read (2 ^ 31) (2 ^ 32) n h (omega arith)
    by_sign false e = let above : 2 ^ 31 ≤ n = grind (arith, nat_tests) in
        minus_read (2 ^ 31) (2 ^ 32) n (omega arith) h (omega arith)

offset_read : (n : ℕ) → n < 2 ^ 32 → offset_from (offset_text n) ≡ Some (Number n)
offset_read n h = by_sign (nat_lt n (2 ^ 31)) refl
  where
    by_sign : (t : Bool) → nat_lt n (2 ^ 31) ≡ t → offset_from (cond t (43 ∷ decimal n) (45 ∷ decimal (2 ^ 32 - n)))
        ≡ Some (Number n)
    by_sign true e =
        let small : n < 2 ^ 31 = grind (arith, nat_tests) in
        ap (option_map Number) (decimal_below (2 ^ 31) n small (omega arith))
    by_sign false e =
        let above : 2 ^ 31 ≤ n = grind (arith, nat_tests) in
        ap (option_map Number) (minus_read (2 ^ 31) (2 ^ 31) n (omega arith) h (omega arith))

last_read : (last : Last) (imm : ℕ) → imm < end_of last → operand_from last (last_words last imm) ≡ Some (Number imm)
last_read Nothing imm h = let e : imm ≡ 0 = omega arith in rw e refl
last_read Word imm h = ap (option_map Number) (signed_read imm h)
last_read Amount imm h = ap (option_map Number) (plain_read 0 32 imm h (omega arith))
last_read Offset imm h = offset_read imm h

registers_read : (c : Cell) → IsInRange c
    → registers_from c.op (operand_words c) ≡ Some (
      record { op = c.op; a = c.a; b = c.b; c = c.c; imm = 0 },
      last_words (last_of c.op) c.imm,
    )
registers_read c i =
    rw (
      register_again (has_a c.op) c.a (register_words (has_b c.op) c.b
          ++ (register_words (c_is_source c.op) c.c ++ last_words (last_of c.op) c.imm)) i.a_in,
      register_again (has_b c.op) c.b (register_words (c_is_source c.op) c.c ++ last_words (last_of c.op) c.imm) i.b_in,
      register_again (c_is_source c.op) c.c (last_words (last_of c.op) c.imm) i.c_in,
    ) refl

given_read : (c : Cell) → IsInRange c → given_from c.op (operand_words c) ≡ Some (record { cell = c; target = None })
given_read c i = rw (registers_read c i, last_read (last_of c.op) c.imm (rw (← last_end c.op) i.imm_in)) refl

pub row_read : (op : Op) → row_named (mnemonic op) ≡ Some op
unfolding mnemonic rows
row_read Add = refl
row_read _ = refl

pub item_read : (line : ℕ) (c : Cell) → IsInRange c → item_from line (mnemonic c.op ∷ operand_words c)
    ≡ Ok (Code (record { cell = c; target = None }))
item_read line c i = rw (row_read c.op, given_read c i) refl

pub static_no_row : row_named static_mnemonic ≡ None
unfolding mnemonic rows
static_no_row = refl

pub static_read : (line word : ℕ) → word < 2 ^ 32 → item_from line (static_mnemonic ∷ signed_text word ∷ [])
    ≡ Ok (Static word)
static_read line word h = rw (static_no_row, signed_read word h) refl

unsigned_read : (n : ℕ) → n < 2 ^ 32 → unsigned_number (decimal n) ≡ Some n
unsigned_read n h = decimal_below (2 ^ 32) n h (omega arith)

pub mark_no_row : row_named mark_word ≡ None
unfolding mnemonic rows
mark_no_row = refl

pub mark_read : (line : ℕ) (m : Mark) → m.first < 2 ^ 32 → m.end < 2 ^ 32 → m.at < 2 ^ 32
    → item_from line (mark_word ∷ mark_words m) ≡ Ok (Marked m)
mark_read line m first end at = rw (
  mark_no_row,
  unsigned_read m.first first,
  unsigned_read m.end end,
  unsigned_read m.at at,
) refl

pub name_no_row : row_named name_word ≡ None
unfolding mnemonic rows
name_no_row = refl

pub name_read : (line : ℕ) (n : FieldName) → n.cell < 2 ^ 32 → is_name n.text ≡ true
    → item_from line (name_word ∷ name_words n) ≡ Ok (Named n)
name_read line n cell text = rw (name_no_row, unsigned_read n.cell cell, text) refl

pub no_label : (op : Op) → is_label (mnemonic op) ≡ false
unfolding mnemonic
no_label Add = refl
no_label _ = refl
