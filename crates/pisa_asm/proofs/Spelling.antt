-- The words of the listing's lines.
use Rattle.std.proofs.Common.{◌≡◌, ◌∙◌, ap, sym, refl, ℕ, ◌-◌, ◌<◌, ◌^◌, Bool, true, false, not, cond, ◌==◌, arith}
use Rattle.std.proofs.Common.{List, [], ◌∷◌, ◌++◌, length}
use Rattle.std.specs.Prelude.{◌&&◌, ◌||◌, nat_lt}
use Rattle.std.specs.List.{list_all}
use Rattle.std.specs.Fmt.{decimal}
use Rattle.std.specs.Char.{is_ascii_alphabetic, is_ascii_digit}
use Rattle.std.specs.Str.{all_ascii_digits}
use Rattle.std.proofs.lemmas.Bool.Decides.{nat_tests}
use Rattle.std.proofs.lemmas.Str.Parse.{numerals_by_value, tells_all_ascii_digits}
use Rattle.std.proofs.lemmas.Fmt.{digits_decimal, decimal_nonempty}
use mathlib.Core.List.{append_assoc, append-nil}
use Rattle.pisa_isa.specs.declared.cell.Op.{Op}
use Rattle.pisa_isa.specs.declared.cell.Op.TheVariants.{Add}
use Rattle.pisa_isa.specs.declared.cell.Cell.{Cell}
use Rattle.pisa_isa.specs.declared.notes.Mark.{Mark}
use Rattle.pisa_isa.specs.declared.notes.FieldName.{FieldName}
use Rattle.pisa_isa.specs.rpp_words.Names.{is_name_byte}
use Rattle.pisa_isa.specs.Notes.{is_name}
use Rattle.pisa_isa.specs.Table.{has_a, has_b, c_is_source}
use Rattle.pisa_asm.specs.declared.operand.Last.{Last}
use Rattle.pisa_asm.specs.declared.operand.Last.TheVariants.{Nothing, Word, Amount, Offset}
use Rattle.pisa_asm.specs.Lines.{is_blank_byte}
use Rattle.pisa_asm.specs.Mnemonics.{mnemonic, static_mnemonic, mark_word, name_word}
use Rattle.pisa_asm.specs.Operands.{last_of}
use Rattle.pisa_asm.specs.Listing.{signed_text, offset_text, register_text, last_text, cell_text, static_text}
use Rattle.pisa_asm.specs.Listing.{mark_text, name_text}

-- a byte that ends no line and begins no comment
abbrev pub is_clean : ℕ → Bool
is_clean b = not (b == 10 || b == 13 || b == 59)

abbrev pub is_solid : ℕ → Bool
is_solid b = is_clean b && not (is_blank_byte b)

abbrev pub is_word : List ℕ → Bool
is_word [] = false
is_word (b ∷ word) = is_solid b && list_all is_solid word

-- words each after a space
abbrev pub spaced : List (List ℕ) → List ℕ
spaced [] = []
spaced (word ∷ words) = 32 ∷ (word ++ spaced words)

abbrev pub register_words : Bool → ℕ → List (List ℕ)
register_words false r = []
register_words true r = (36 ∷ decimal r) ∷ []

abbrev pub last_words : Last → ℕ → List (List ℕ)
last_words Nothing imm = []
last_words Word imm = signed_text imm ∷ []
last_words Amount imm = decimal imm ∷ []
last_words Offset imm = offset_text imm ∷ []

abbrev pub operand_words : Cell → List (List ℕ)
operand_words c =
    register_words (has_a c.op) c.a ++ (register_words (has_b c.op) c.b
    ++ (register_words (c_is_source c.op) c.c ++ last_words (last_of c.op) c.imm))

-- the line of a cell by its words

spaced-append : (xs ys : List (List ℕ)) → spaced (xs ++ ys) ≡ spaced xs ++ spaced ys
spaced-append [] ys = refl
spaced-append (x ∷ xs) ys = ap (λ t. 32 ∷ (x ++ t)) (spaced-append xs ys)
    ∙ ap (λ t. 32 ∷ t) (sym (append_assoc x (spaced xs) (spaced ys)))

one_spaced : (word : List ℕ) → 32 ∷ word ≡ spaced (word ∷ [])
one_spaced word = ap (λ t. 32 ∷ t) (sym (append-nil word))

register_spaced : (has : Bool) (r : ℕ) → register_text has r ≡ spaced (register_words has r)
register_spaced false r = refl
register_spaced true r = one_spaced (36 ∷ decimal r)

last_spaced : (last : Last) (imm : ℕ) → last_text last imm ≡ spaced (last_words last imm)
last_spaced Nothing imm = refl
last_spaced Word imm = one_spaced (signed_text imm)
last_spaced Amount imm = one_spaced (decimal imm)
last_spaced Offset imm = one_spaced (offset_text imm)

operands_spaced : (a b c l : List (List ℕ)) → spaced (a ++ (b ++ (c ++ l)))
    ≡ spaced a ++ (spaced b ++ (spaced c ++ spaced l))
operands_spaced a b c l = simp spaced-append

regrouped : (m a b c l p q r s : List ℕ) → a ≡ p → b ≡ q → c ≡ r → l ≡ s
    → (((m ++ a) ++ b) ++ c) ++ l ≡ m ++ (p ++ (q ++ (r ++ s)))
regrouped m a b c l p q r s ea eb ec el = rw (ea, eb, ec, el) (simp append_assoc)

pub cell_spaced : (c : Cell) → cell_text c ≡ mnemonic c.op ++ spaced (operand_words c)
cell_spaced c =
    let a = register_words (has_a c.op) c.a in
    let b = register_words (has_b c.op) c.b in
    let t = register_words (c_is_source c.op) c.c in
    let l = last_words (last_of c.op) c.imm in
    regrouped (mnemonic c.op) (register_text (has_a c.op) c.a) (register_text (has_b c.op) c.b)
    (register_text (c_is_source c.op) c.c) (last_text (last_of c.op) c.imm)
    (spaced a) (spaced b) (spaced t) (spaced l)
    (register_spaced (has_a c.op) c.a) (register_spaced (has_b c.op) c.b) (register_spaced (c_is_source c.op) c.c)
    (last_spaced (last_of c.op) c.imm)
    ∙ ap (λ s. mnemonic c.op ++ s) (sym (operands_spaced a b t l))

pub static_spaced : (word : ℕ) → static_text word ≡ static_mnemonic ++ spaced (signed_text word ∷ [])
static_spaced word = ap (λ s. static_mnemonic ++ s) (one_spaced (signed_text word))

abbrev pub mark_words : Mark → List (List ℕ)
mark_words m = decimal m.first ∷ decimal m.end ∷ decimal m.at ∷ []

abbrev pub name_words : FieldName → List (List ℕ)
name_words n = decimal n.cell ∷ n.text ∷ []

three_spaced : (m a b c : List ℕ) → ((m ++ 32 ∷ a) ++ 32 ∷ b) ++ 32 ∷ c ≡ m ++ 32 ∷ (a ++ 32 ∷ (b ++ 32 ∷ (c ++ [])))
three_spaced m a b c = rw (append-nil c) (simp append_assoc)

two_spaced : (m a b : List ℕ) → (m ++ 32 ∷ a) ++ 32 ∷ b ≡ m ++ 32 ∷ (a ++ 32 ∷ (b ++ []))
two_spaced m a b = rw (append-nil b) (simp append_assoc)

pub mark_spaced : (m : Mark) → mark_text m ≡ mark_word ++ spaced (mark_words m)
mark_spaced m = three_spaced mark_word (decimal m.first) (decimal m.end) (decimal m.at)

pub name_spaced : (n : FieldName) → name_text n ≡ name_word ++ spaced (name_words n)
name_spaced n = two_spaced name_word (decimal n.cell) n.text

-- all of them are words

pub both : (a b : Bool) → (a && b) ≡ true → (a ≡ true) × (b ≡ true)
both true true h = (refl, refl)
both true false h = absurd (cc)
both false b h = absurd (cc)

digit_solid : (c : ℕ) → is_ascii_digit c ≡ true → is_solid c ≡ true
digit_solid c h = grind (arith, nat_tests)

digits_solid : (ds : List ℕ) → all_ascii_digits ds ≡ true → list_all is_solid ds ≡ true
digits_solid [] h = refl
digits_solid (d ∷ ds) h = let p = both (is_ascii_digit d) (all_ascii_digits ds) h in
    rw (digit_solid d p.0, digits_solid ds p.1) refl

pub decimal_digits : (n : ℕ) → n < 2 ^ 64 → all_ascii_digits (decimal n) ≡ true
decimal_digits n h = digits_decimal (numerals_by_value (λ ds. all_ascii_digits ds ≡ true) tells_all_ascii_digits) n h

decimal_solid : (n : ℕ) → n < 2 ^ 64 → list_all is_solid (decimal n) ≡ true
decimal_solid n h = digits_solid (decimal n) (decimal_digits n h)

some_solid : (w : List ℕ) → 0 < length w → list_all is_solid w ≡ true → is_word w ≡ true
some_solid [] some h = absurd (omega arith)
some_solid (b ∷ w) some h = h

decimal_word : (n : ℕ) → n < 2 ^ 64 → is_word (decimal n) ≡ true
decimal_word n h = some_solid (decimal n) (decimal_nonempty n h) (decimal_solid n h)

signed_word : (n : ℕ) → n < 2 ^ 32 → is_word (signed_text n) ≡ true
signed_word n h = by_sign (nat_lt n (2 ^ 31))
  where
    by_sign : (t : Bool) → is_word (cond t (decimal n) (45 ∷ decimal (2 ^ 32 - n))) ≡ true
    by_sign true = decimal_word n (omega arith)
    by_sign false = decimal_solid (2 ^ 32 - n) (omega arith)

offset_word : (n : ℕ) → n < 2 ^ 32 → is_word (offset_text n) ≡ true
offset_word n h = by_sign (nat_lt n (2 ^ 31))
  where
    by_sign : (t : Bool) → is_word (cond t (43 ∷ decimal n) (45 ∷ decimal (2 ^ 32 - n))) ≡ true
    by_sign true = decimal_solid n (omega arith)
    by_sign false = decimal_solid (2 ^ 32 - n) (omega arith)

register_is_words : (has : Bool) (r : ℕ) → r < 32 → list_all is_word (register_words has r) ≡ true
register_is_words false r h = refl
register_is_words true r h = rw (decimal_solid r (omega arith)) refl

last_is_words : (last : Last) (imm : ℕ) → imm < 2 ^ 32 → list_all is_word (last_words last imm) ≡ true
last_is_words Nothing imm h = refl
last_is_words Word imm h = rw (signed_word imm h) refl
last_is_words Amount imm h = rw (decimal_word imm (omega arith)) refl
last_is_words Offset imm h = rw (offset_word imm h) refl

pub words_append : (xs ys : List (List ℕ)) → list_all is_word xs ≡ true → list_all is_word ys ≡ true
    → list_all is_word (xs ++ ys) ≡ true
words_append [] ys h g = g
words_append (x ∷ xs) ys h g = let p = both (is_word x) (list_all is_word xs) h in
    rw (p.0, words_append xs ys p.1 g) refl

pub operands_are_words : (c : Cell) → c.a < 32 → c.b < 32 → c.c < 32 → c.imm < 2 ^ 32
    → list_all is_word (operand_words c) ≡ true
operands_are_words c a b t i =
    words_append (register_words (has_a c.op) c.a) (register_words (has_b c.op) c.b
    ++ (register_words (c_is_source c.op) c.c ++ last_words (last_of c.op) c.imm))
    (register_is_words (has_a c.op) c.a a)
    (words_append (register_words (has_b c.op) c.b) (register_words (c_is_source c.op) c.c
    ++ last_words (last_of c.op) c.imm) (register_is_words (has_b c.op) c.b b)
    (words_append (register_words (c_is_source c.op) c.c) (last_words (last_of c.op) c.imm)
    (register_is_words (c_is_source c.op) c.c t) (last_is_words (last_of c.op) c.imm i)))

pub mnemonic_word : (op : Op) → is_word (mnemonic op) ≡ true
unfolding mnemonic
mnemonic_word Add = refl
mnemonic_word _ = refl

pub static_is_word : (word : ℕ) → word < 2 ^ 32 → list_all is_word (signed_text word ∷ []) ≡ true
static_is_word word h = rw (signed_word word h) refl

pub mark_is_words : (m : Mark) → m.first < 2 ^ 32 → m.end < 2 ^ 32 → m.at < 2 ^ 32
    → list_all is_word (mark_words m) ≡ true
mark_is_words m first end at =
    rw (decimal_word m.first (omega arith), decimal_word m.end (omega arith), decimal_word m.at (omega arith)) refl

letter_solid : (b : ℕ) → is_ascii_alphabetic b ≡ true → is_solid b ≡ true
letter_solid b h = grind (arith, nat_tests)

name_byte_solid : (b : ℕ) → is_name_byte b ≡ true → is_solid b ≡ true
name_byte_solid b h = grind (arith, nat_tests)

name_bytes_solid : (bytes : List ℕ) → list_all is_name_byte bytes ≡ true → list_all is_solid bytes ≡ true
name_bytes_solid [] h = refl
name_bytes_solid (b ∷ bytes) h =
    let p = both (is_name_byte b) (list_all is_name_byte bytes) h in
    rw (name_byte_solid b p.0, name_bytes_solid bytes p.1) refl

name_word_is : (text : List ℕ) → is_name text ≡ true → is_word text ≡ true
name_word_is [] h = absurd (cc)
name_word_is (b ∷ text) h =
    let p = both (is_ascii_alphabetic b) (list_all is_name_byte text) h in
    rw (letter_solid b p.0, name_bytes_solid text p.1) refl

pub name_is_words : (n : FieldName) → n.cell < 2 ^ 32 → is_name n.text ≡ true → list_all is_word (name_words n) ≡ true
name_is_words n cell text = rw (decimal_word n.cell (omega arith), name_word_is n.text text) refl
