-- The fields of a cell that is read are in the ranges of its instruction.
use Rattle.std.proofs.Common.{◌≡◌, ◌∙◌, ap, subst, refl, ℕ, ◌+◌, ◌^◌, ◌<◌, Bool, true, false, cond, ◌==◌, arith, List}
use Rattle.std.proofs.Common.{[], ◌∷◌, Option, Some, None, Ok, Err, inl, inr, ◌⊎◌}
use Rattle.std.specs.Prelude.{nat_lt, ◌&&◌}
use Rattle.std.specs.Option.{option_map, option_and_then}
use Rattle.std.proofs.lemmas.Bool.Decides.{nat_tests}
use Rattle.pisa_isa.specs.rpp_words.Words.{negated, difference_of}
use Rattle.pisa_isa.specs.declared.cell.Op.{Op}
use Rattle.pisa_isa.specs.declared.cell.Op.TheVariants.{Addi, Xori, Rl, Rr, Andix, Orix, Sllx, Srlx, Srax, Bra, Rbra}
use Rattle.pisa_isa.specs.declared.cell.Op.TheVariants.{Beq, Bne, Bgez, Bgtz, Blez, Bltz, DataWord}
use Rattle.pisa_isa.specs.declared.cell.Cell.{Cell}
use Rattle.pisa_isa.specs.declared.notes.Mark.{Mark}
use Rattle.pisa_isa.specs.declared.notes.FieldName.{FieldName}
use Rattle.pisa_isa.specs.Table.{IsInRange, is_one_to_one, has_a, has_b, c_is_source, register_end, imm_end}
use Rattle.pisa_asm.specs.declared.operand.Last.{Last}
use Rattle.pisa_asm.specs.declared.operand.Last.TheVariants.{Nothing, Word, Amount, Offset}
use Rattle.pisa_asm.specs.declared.operand.Operand.{Operand}
use Rattle.pisa_asm.specs.declared.operand.Operand.TheVariants.{Number, Label}
use Rattle.pisa_asm.specs.declared.operand.Given.{Given}
use Rattle.pisa_asm.specs.declared.item.Item.{Item}
use Rattle.pisa_asm.specs.declared.item.Item.TheVariants.{Nothing as NoItem, Code, Static, Marked, Named}
use Rattle.pisa_asm.specs.Numerals.{below, minus, numeral, number_in, plain_digits, register_number, word_number}
use Rattle.pisa_asm.specs.Numerals.{amount_number, offset_number}
use Rattle.pisa_asm.specs.LabelNames.{is_label_name, Labels, label_address}
use Rattle.pisa_asm.specs.declared.error.AsmError.TheVariants.{UnknownMnemonic}
use Rattle.std.specs.Str.{bytes_eq}
use Rattle.pisa_asm.specs.Chain.{and_then, or_bad}
use Rattle.pisa_asm.specs.Mnemonics.{row_named, static_mnemonic, mark_word, name_word}
use Rattle.pisa_asm.specs.Operands.{last_of, register_from, registers_from, offset_from, sole, operand_from}
use Rattle.pisa_asm.specs.Operands.{with_operand, given_from}
use Rattle.pisa_asm.specs.Items.{static_from, mark_from, name_from, item_by, item_from}
use Rattle.pisa_asm.specs.Passes.{resolved_by, resolved_cell}
use Rattle.pisa_asm.proofs.Chaining.{some_then, some_map, tested}

pub below_in : (end : ℕ) (o : Option ℕ) (n : ℕ) → below end o ≡ Some n → (o ≡ Some n) × (n < end)
below_in end None n h = absurd (cc)
below_in end (Some m) n h =
    let t = tested (nat_lt m end) (Some m) n h in
    let same : m ≡ n = cc (t.1) in
    let test : nat_lt m end ≡ true = t.0 in
    (t.1, subst (λ k. k < end) same (grind (arith, nat_tests)))

register_number_in : (word : List ℕ) (r : ℕ) → register_number word ≡ Some r → r < 32
register_number_in [] r h = absurd (cc)
register_number_in (first ∷ digits) r h =
    (below_in 32 (numeral digits) r ((tested ((first == 36) && plain_digits digits) (below 32 (numeral digits)) r
    h).1)).1

register_in : (has : Bool) (words : List (List ℕ)) (p : ℕ × List (List ℕ)) → register_from has words ≡ Some p
    → p.0 < register_end has
register_in false words p h = let e : p ≡ (0, words) = cc in rw e (omega arith)
register_in true [] p h = absurd (cc)
register_in true (word ∷ words) p h =
    let m = some_map (λ r. (r, words)) (register_number word) p h in
    rw m.2 (register_number_in word m.0 m.1)

-- a number that is read is below the end, or is the word of a negative number
pub number_cases : (low end : ℕ) (bytes : List ℕ) (n : ℕ) → number_in low end bytes ≡ Some n
    → (n < end) ⊎ ((m : ℕ) × (m < low + 1) × (n ≡ negated m))
number_cases low end [] n h = absurd (cc)
number_cases low end (first ∷ rest) n h = by_sign (first == 45) (first == 43) h
  where
    minus_in : (o : Option ℕ) → minus (below (low + 1) o) ≡ Some n → (m : ℕ) × (m < low + 1) × (n ≡ negated m)
    minus_in o h = minus_of (below (low + 1) o) refl h
      where
        minus_of : (p : Option ℕ) → below (low + 1) o ≡ p → minus p ≡ Some n → (m : ℕ) × (m < low + 1) × (n ≡ negated m)
        minus_of None e h = absurd (cc)
        minus_of (Some m) e h = (m, (below_in (low + 1) o m e).1, cc)

    by_sign : (s t : Bool) → cond s (minus (below (low + 1) (numeral rest)))
        (cond t (below end (numeral rest)) (below end (numeral (first ∷ rest)))) ≡ Some n
        → (n < end) ⊎ ((m : ℕ) × (m < low + 1) × (n ≡ negated m))
    by_sign true t h = inr (minus_in (numeral rest) h)
    by_sign false true h = inl ((below_in end (numeral rest) n h).1)
    by_sign false false h = inl ((below_in end (numeral (first ∷ rest)) n h).1)

-- the end of the range of a last operand
abbrev pub end_of : Last → ℕ
end_of Nothing = 1
end_of Word = 2 ^ 32
end_of Amount = 32
end_of Offset = 2 ^ 32

pub last_end : (op : Op) → imm_end op ≡ end_of (last_of op)
last_end Addi = refl
last_end Xori = refl
last_end Rl = refl
last_end Rr = refl
last_end Andix = refl
last_end Orix = refl
last_end Sllx = refl
last_end Srlx = refl
last_end Srax = refl
last_end Bra = refl
last_end Rbra = refl
last_end Beq = refl
last_end Bne = refl
last_end Bgez = refl
last_end Bgtz = refl
last_end Blez = refl
last_end Bltz = refl
last_end DataWord = refl
last_end _ = refl

word_in : (bytes : List ℕ) (n : ℕ) → word_number bytes ≡ Some n → n < 2 ^ 32
word_in bytes n h = elim (number_cases (2 ^ 31) (2 ^ 32) bytes n h) [ inl small ↦ small | inr m ↦ rw m.2 (omega arith) ]

amount_in : (bytes : List ℕ) (n : ℕ) → amount_number bytes ≡ Some n → n < 32
amount_in bytes n h = elim (number_cases 0 32 bytes n h)
    [ inl small ↦ small | inr m ↦ rw m.2 (let z : m.0 ≡ 0 = let e = m.1 in omega arith in rw z (omega arith)) ]

offset_in : (bytes : List ℕ) (n : ℕ) → offset_number bytes ≡ Some n → n < 2 ^ 32
offset_in bytes n h = elim (number_cases (2 ^ 31) (2 ^ 31) bytes n h)
    [ inl small ↦ omega arith | inr m ↦ rw m.2 (omega arith) ]

-- a last operand is in its range; only an offset is a label
abbrev OperandFits : Last → Operand → Type 0
OperandFits last (Number n) = n < end_of last
OperandFits last (Label name) = last ≡ Offset

operand_fits : (last : Last) (words : List (List ℕ)) (o : Operand) → operand_from last words ≡ Some o
    → OperandFits last o
operand_fits Nothing [] o h = let e : o ≡ Number 0 = cc in rw e (omega arith)
operand_fits Nothing (word ∷ words) o h = absurd (cc)
operand_fits Word words o h =
    let m = some_map Number (option_and_then word_number (sole words)) o h in
    let s = some_then word_number (sole words) m.0 m.1 in
    rw m.2 (word_in s.0 m.0 s.2)
operand_fits Amount words o h =
    let m = some_map Number (option_and_then amount_number (sole words)) o h in
    let s = some_then amount_number (sole words) m.0 m.1 in
    rw m.2 (amount_in s.0 m.0 s.2)
operand_fits Offset words o h =
    let s = some_then offset_from (sole words) o h in
    named_or_number (is_label_name s.0) s.0 s.2
  where
    named_or_number : (t : Bool) (word : List ℕ) → cond t (Some (Label word)) (option_map Number (offset_number word))
        ≡ Some o → OperandFits Offset o
    named_or_number true word h = let e : o ≡ Label word = cc in rw e refl
    named_or_number false word h =
        let m = some_map Number (offset_number word) o h in
        rw m.2 (offset_in word m.0 m.1)

-- the registers of an instruction, if they are read
record RegistersFit (op : Op) (cell : Cell) : Type 0 where
  same : cell.op ≡ op
  a_in : cell.a < register_end (has_a op)
  b_in : cell.b < register_end (has_b op)
  c_in : cell.c < register_end (c_is_source op)
  no_imm : cell.imm ≡ 0

registers_fit : (op : Op) (words : List (List ℕ)) (p : Cell × List (List ℕ)) → registers_from op words ≡ Some p
    → RegistersFit op p.0
registers_fit op words p h =
    let a = some_then (λ (a : ℕ × List (List ℕ)). option_and_then
    (λ (b : ℕ × List (List ℕ)). option_map (λ (c : ℕ × List (List ℕ)).
    (record { op = op; a = a.0; b = b.0; c = c.0; imm = 0 }, c.1))
    (register_from (c_is_source op) b.1)) (register_from (has_b op) a.1)) (register_from (has_a op) words) p h in
    let b = some_then (λ (b : ℕ × List (List ℕ)). option_map
    (λ (c : ℕ × List (List ℕ)). (record { op = op; a = a.0.0; b = b.0; c = c.0; imm = 0 }, c.1))
    (register_from (c_is_source op) b.1)) (register_from (has_b op) a.0.1) p a.2 in
    let c = some_map (λ (c : ℕ × List (List ℕ)). (record { op = op; a = a.0.0; b = b.0.0; c = c.0; imm = 0 }, c.1))
    (register_from (c_is_source op) b.0.1) p b.2 in
    rw c.2 (record {
      same = refl;
      a_in = register_in (has_a op) words a.0 a.1;
      b_in = register_in (has_b op) a.0.1 b.0 b.1;
      c_in = register_in (c_is_source op) b.0.1 c.0 c.1;
      no_imm = refl;
    })

-- if a label gives the offset, the instruction has one
abbrev pub TargetFits : Op → Option (List ℕ) → Type 0
TargetFits op None = Unit {0}
TargetFits op (Some name) = imm_end op ≡ 2 ^ 32

-- an instruction as it is read
pub record GivenFits (given : Given) : Type 0 where
  pub in_range : IsInRange given.cell
  pub target : TargetFits given.cell.op given.target

some_end : (op : Op) → 0 < imm_end op
some_end op = rw (last_end op) (some (last_of op))
  where
    some : (last : Last) → 0 < end_of last
    some Nothing = omega arith
    some Word = omega arith
    some Amount = omega arith
    some Offset = omega arith

with_operand_fits : (op : Op) (cell : Cell) (o : Operand) → RegistersFit op cell → OperandFits (last_of op) o
    → GivenFits (with_operand cell o)
with_operand_fits op cell (Number n) r o = record {
  in_range = record {
    a_in = rw r.same r.a_in;
    b_in = rw r.same r.b_in;
    c_in = rw r.same r.c_in;
    imm_in = rw (r.same, last_end op) o;
  };
  target = tt;
}
with_operand_fits op cell (Label name) r o = record {
  in_range = record {
    a_in = rw r.same r.a_in;
    b_in = rw r.same r.b_in;
    c_in = rw r.same r.c_in;
    imm_in = rw (r.no_imm, r.same) (some_end op);
  };
  target = rw r.same (last_end op ∙ ap end_of o);
}

pub given_fits : (op : Op) (words : List (List ℕ)) (given : Given) → given_from op words ≡ Some given → GivenFits given
given_fits op words given h =
    let r = some_then (λ (registers : Cell × List (List ℕ)). option_map (with_operand registers.0)
    (operand_from (last_of op) registers.1)) (registers_from op words) given h in
    let o = some_map (with_operand r.0.0) (operand_from (last_of op) r.0.1) given r.2 in
    rw o.2 (with_operand_fits op r.0.0 o.0 (registers_fit op words r.0 r.1) (operand_fits (last_of op) r.0.1 o.0 o.1))

-- what is on a line, as it is read
abbrev pub ItemFits : Item → Type 0
ItemFits NoItem = Unit {0}
ItemFits (Code given) = GivenFits given
ItemFits (Static word) = word < 2 ^ 32
ItemFits (Marked mark) = Unit {0}
ItemFits (Named name) = Unit {0}

static_fits : (line : ℕ) (words : List (List ℕ)) (item : Item) (o : Option ℕ) → static_from words ≡ o
    → and_then (or_bad line o) (λ word. Ok (Static word)) ≡ Ok item → ItemFits item
static_fits line words item None e h = absurd (cc)
static_fits line words item (Some word) e h =
    let s = some_then word_number (sole words) word e in
    let same : item ≡ Static word = cc in
    rw same (word_in s.0 word s.2)

mark_fits : (line : ℕ) (item : Item) (o : Option Mark) → and_then (or_bad line o) (λ mark. Ok (Marked mark)) ≡ Ok item
    → ItemFits item
mark_fits line item None h = absurd (cc)
mark_fits line item (Some mark) h = let same : item ≡ Marked mark = cc in rw same tt

name_fits : (line : ℕ) (item : Item) (o : Option FieldName)
    → and_then (or_bad line o) (λ name. Ok (Named name)) ≡ Ok item → ItemFits item
name_fits line item None h = absurd (cc)
name_fits line item (Some name) h = let same : item ≡ Named name = cc in rw same tt

row_fits : (line : ℕ) (op : Op) (words : List (List ℕ)) (item : Item) (o : Option Given) → given_from op words ≡ o
    → and_then (or_bad line o) (λ given. Ok (Code given)) ≡ Ok item → ItemFits item
row_fits line op words item None e h = absurd (cc)
row_fits line op words item (Some given) e h = let same : item ≡ Code given = cc in
    rw same (given_fits op words given e)

pub item_fits : (line : ℕ) (words : List (List ℕ)) (item : Item) → item_from line words ≡ Ok item → ItemFits item
item_fits line [] item h = let same : item ≡ NoItem = cc in rw same tt
item_fits line (first ∷ words) item h = by_row (row_named first) h
  where
    by_word : (s m n : Bool) → cond s (and_then (or_bad line (static_from words)) (λ word. Ok (Static word)))
        (cond m (and_then (or_bad line (mark_from words)) (λ mark. Ok (Marked mark)))
        (cond n (and_then (or_bad line (name_from words)) (λ name. Ok (Named name))) (Err (UnknownMnemonic line))))
        ≡ Ok item → ItemFits item
    by_word true m n h = static_fits line words item (static_from words) refl h
    by_word false true n h = mark_fits line item (mark_from words) h
    by_word false false true h = name_fits line item (name_from words) h
    by_word false false false h = absurd (cc)

    by_row : (o : Option Op) → item_by line first words o ≡ Ok item → ItemFits item
    by_row (Some op) h = row_fits line op words item (given_from op words) refl h
    by_row None h = by_word (bytes_eq first static_mnemonic) (bytes_eq first mark_word) (bytes_eq first name_word) h

-- a label keeps all but the offset
pub record CellFits (given : Given) (cell : Cell) : Type 0 where
  pub in_range : IsInRange cell
  pub same : is_one_to_one cell ≡ is_one_to_one given.cell

pub resolved_fits : (labels : Labels) (at : ℕ) (given : Given) (cell : Cell) → GivenFits given
    → resolved_cell labels at given ≡ Some cell → CellFits given cell
resolved_fits labels at given cell g h = by_target given.target g.target h
  where
    by_target : (target : Option (List ℕ)) → TargetFits given.cell.op target
        → resolved_by labels at given.cell target ≡ Some cell → CellFits given cell
    by_target None t h = let same : cell ≡ given.cell = cc in rw same (record { in_range = g.in_range; same = refl })
    by_target (Some name) t h =
        let p = some_map (λ (place : ℕ). record given.cell { imm = difference_of place at }) (label_address name labels)
        cell
        h in
        rw p.2 (record {
          in_range = record {
            a_in = g.in_range.a_in;
            b_in = g.in_range.b_in;
            c_in = g.in_range.c_in;
            imm_in = rw t (omega arith);
          };
          same = refl;
        })
