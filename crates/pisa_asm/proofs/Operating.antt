-- Instructions and static words as they are written and as they are read.
use Rattle.std.proofs.Common.{◌≡◌, ◌∙◌, ap, refl, ℕ, ◌^◌, ◌<◌, Bool, true, false, cond, arith, List, [], ◌∷◌, ◌++◌}
use Rattle.std.proofs.Common.{length, Some}
use Rattle.std.specs.Option.{option_map, option_and_then}
use Rattle.std.specs.Char.{is_ascii_digit}
use Rattle.std.specs.Str.{all_ascii_digits}
use Rattle.std.proofs.lemmas.Bool.Decides.{nat_tests}
use Rattle.pisa_isa.specs.rpp_words.Words.{difference_of}
use Rattle.pisa_isa.specs.declared.cell.Op.{Op}
use Rattle.pisa_isa.specs.declared.cell.Cell.{Cell}
use Rattle.pisa_isa.specs.Table.{has_a, has_b, c_is_source}
use Rattle.pisa_asm.specs.declared.operand.Last.{Last}
use Rattle.pisa_asm.specs.declared.operand.Last.TheVariants.{Nothing, Word, Amount, Offset}
use Rattle.pisa_asm.specs.declared.operand.Operand.{Operand}
use Rattle.pisa_asm.specs.declared.operand.Operand.TheVariants.{Number, Label}
use Rattle.pisa_asm.specs.declared.operand.Given.{Given}
use Rattle.pisa_asm.specs.Numerals.{word_number, amount_number, offset_number}
use Rattle.pisa_asm.specs.LabelNames.{begins_name, is_label_name, Labels, label_address}
use Rattle.pisa_asm.specs.Mnemonics.{mnemonic}
use Rattle.pisa_asm.specs.Operands.{last_of, register_from, registers_from, offset_from, sole, operand_from}
use Rattle.pisa_asm.specs.Operands.{with_operand, given_from}
use Rattle.pisa_asm.specs.Passes.{resolved_cell}
use Rattle.pisa_asm.specs.AssemblyText.{NumberText, plain, plus, minus, RegisterWords, OffsetText, by_number, by_label}
use Rattle.pisa_asm.specs.AssemblyText.{LastWords, InstructionText}
use Rattle.pisa_asm.proofs.Chaining.{some_then, some_map}
use Rattle.pisa_asm.proofs.Spelling.{both}
use Rattle.pisa_asm.proofs.Rereading.{own}
use Rattle.pisa_asm.proofs.Texts.{number_sound, number_complete, Taken, taken_sound, taken_complete}

-- a number is no name

digit_no_name : (d : ℕ) → is_ascii_digit d ≡ true → begins_name d ≡ false
digit_no_name d h = grind (arith, nat_tests)

digits_no_name : (bytes : List ℕ) → 0 < length bytes → all_ascii_digits bytes ≡ true → is_label_name bytes ≡ false
digits_no_name [] some h = absurd (omega arith)
digits_no_name (d ∷ bytes) some h = let p = both (is_ascii_digit d) (all_ascii_digits bytes) h in
    rw (digit_no_name d p.0) refl

no_name : (low end : ℕ) (bytes : List ℕ) (word : ℕ) → NumberText low end bytes word → is_label_name bytes ≡ false
no_name low end bytes word (plain n h e) = digits_no_name bytes n.0 (own.from bytes n.1)
no_name low end bytes word (plus digits same n h e) = rw same refl
no_name low end bytes word (minus digits same n h e) = rw same refl

pub sole_one : (words : List (List ℕ)) (word : List ℕ) → sole words ≡ Some word → words ≡ word ∷ []
sole_one [] word h = absurd (cc)
sole_one (first ∷ []) word h = cc
sole_one (first ∷ second ∷ words) word h = absurd (cc)

-- the last operand

record LastSaid (labels : Labels) (at : ℕ) (last : Last) (words : List (List ℕ)) (cell final : Cell) : Type 0 where
  said : LastWords labels at last words final.imm
  same : final ≡ record cell { imm = final.imm }

said_at : (labels : Labels) (at : ℕ) (last : Last) (words : List (List ℕ)) (cell final : Cell) (imm : ℕ)
    → LastWords labels at last words imm → final ≡ record cell { imm = imm }
    → LastSaid labels at last words cell final
said_at labels at last words cell final imm w e = rw e (record { said = w; same = refl })

last_sound : (labels : Labels) (at : ℕ) (last : Last) (words : List (List ℕ)) (o : Operand) (cell final : Cell)
    → operand_from last words ≡ Some o → resolved_cell labels at (with_operand cell o) ≡ Some final
    → LastSaid labels at last words cell final
last_sound labels at Nothing [] o cell final h g =
    let zero : o ≡ Number 0 = cc in
    let g0 : Some (record cell { imm = 0 }) ≡ Some final = rw zero at g in
    said_at labels at Nothing [] cell final 0 (refl, refl) (cc)
last_sound labels at Nothing (word ∷ words) o cell final h g = absurd (cc)
last_sound labels at Word words o cell final h g =
    let m = some_map Number (option_and_then word_number (sole words)) o h in
    let s = some_then word_number (sole words) m.0 m.1 in
    let g0 : Some (record cell { imm = m.0 }) ≡ Some final = rw m.2 at g in
    said_at labels at Word words cell final m.0 (
      s.0,
      sole_one words s.0 s.1,
      number_sound (2 ^ 31) (2 ^ 32) s.0 m.0 s.2,
    ) (cc)
last_sound labels at Amount words o cell final h g =
    let m = some_map Number (option_and_then amount_number (sole words)) o h in
    let s = some_then amount_number (sole words) m.0 m.1 in
    let g0 : Some (record cell { imm = m.0 }) ≡ Some final = rw m.2 at g in
    said_at labels at Amount words cell final m.0 (s.0, sole_one words s.0 s.1, number_sound 0 32 s.0 m.0 s.2) (cc)
last_sound labels at Offset words o cell final h g =
    let s = some_then offset_from (sole words) o h in
    by_name s.0 (is_label_name s.0) refl s.2 (sole_one words s.0 s.1)
  where
    by_name : (word : List ℕ) (t : Bool) → is_label_name word ≡ t
        → cond t (Some (Label word)) (option_map Number (offset_number word)) ≡ Some o → words ≡ word ∷ []
        → LastSaid labels at Offset words cell final
    by_name word true n h w =
        let label : o ≡ Label word = cc in
        let g0 : option_map (λ (place : ℕ). record cell { imm = difference_of place at }) (label_address word labels)
        ≡ Some final = rw label at g in
        let p = some_map (λ (place : ℕ). record cell { imm = difference_of place at }) (label_address word labels) final
        g0
        in
        said_at labels at Offset words cell final (difference_of p.0 at) (word, w, by_label p.0 n p.1 refl) p.2
    by_name word false n h w =
        let m = some_map Number (offset_number word) o h in
        let g0 : Some (record cell { imm = m.0 }) ≡ Some final = rw m.2 at g in
        said_at labels at Offset words cell final m.0 (word, w, by_number (number_sound (2 ^ 31) (2 ^ 31) word m.0 m.1))
        (cc)

-- the operand that is read of such words
record LastRead (labels : Labels) (at : ℕ) (last : Last) (words : List (List ℕ)) (cell : Cell) (imm : ℕ) : Type 0 where
  operand : Operand
  read : operand_from last words ≡ Some operand
  resolves : resolved_cell labels at (with_operand cell operand) ≡ Some (record cell { imm = imm })

offset_complete : (labels : Labels) (at : ℕ) (words : List (List ℕ)) (cell : Cell) (imm : ℕ) (word : List ℕ)
    → words ≡ word ∷ [] → OffsetText labels at word imm
    → LastRead labels at Offset words cell imm
offset_complete labels at words cell imm word w (by_number n) = record {
  operand = Number imm;
  read = rw (w, no_name (2 ^ 31) (2 ^ 31) word imm n) (ap (option_map Number)
      (number_complete (2 ^ 31) (2 ^ 31) word imm n));
  resolves = refl;
}
offset_complete labels at words cell imm word w (by_label place n p e) = record {
  operand = Label word;
  read = rw (w, n) refl;
  resolves = rw (p, e) refl;
}

last_complete : (labels : Labels) (at : ℕ) (last : Last) (words : List (List ℕ)) (cell : Cell) (imm : ℕ)
    → LastWords labels at last words imm
    → LastRead labels at last words cell imm
last_complete labels at Nothing words cell imm t = record
    { operand = Number 0; read = rw t.0 refl; resolves = rw t.1 refl }
last_complete labels at Word words cell imm t = record {
  operand = Number imm;
  read = rw t.1 (ap (option_map Number) (number_complete (2 ^ 31) (2 ^ 32) t.0 imm t.2));
  resolves = refl;
}
last_complete labels at Amount words cell imm t = record {
  operand = Number imm;
  read = rw t.1 (ap (option_map Number) (number_complete 0 32 t.0 imm t.2));
  resolves = refl;
}
last_complete labels at Offset words cell imm t = offset_complete labels at words cell imm t.0 t.1 t.2

-- the registers

record RegistersSaid (op : Op) (words : List (List ℕ)) (cell : Cell) (rest : List (List ℕ)) : Type 0 where
  a : List (List ℕ)
  b : List (List ℕ)
  c : List (List ℕ)
  all : words ≡ a ++ (b ++ (c ++ rest))
  is_op : cell.op ≡ op
  is_a : RegisterWords (has_a op) a cell.a
  is_b : RegisterWords (has_b op) b cell.b
  is_c : RegisterWords (c_is_source op) c cell.c

registers_sound : (op : Op) (words : List (List ℕ)) (p : Cell × List (List ℕ)) → registers_from op words ≡ Some p
    → RegistersSaid op words p.0 p.1
registers_sound op words p h =
    let a = some_then (λ (a : ℕ × List (List ℕ)). option_and_then
    (λ (b : ℕ × List (List ℕ)). option_map (λ (c : ℕ × List (List ℕ)).
    (record { op = op; a = a.0; b = b.0; c = c.0; imm = 0 }, c.1))
    (register_from (c_is_source op) b.1)) (register_from (has_b op) a.1)) (register_from (has_a op) words) p h in
    let b = some_then (λ (b : ℕ × List (List ℕ)). option_map
    (λ (c : ℕ × List (List ℕ)). (record { op = op; a = a.0.0; b = b.0; c = c.0; imm = 0 }, c.1))
    (register_from (c_is_source op) b.1)) (register_from (has_b op) a.0.1) p a.2 in
    let c = some_map (λ (c : ℕ × List (List ℕ)). (record { op = op; a = a.0.0; b = b.0.0; c = c.0; imm = 0 }, c.1))
    (register_from (c_is_source op) b.0.1) p b.2 in
    let ta : Taken (has_a op) words a.0.0 a.0.1 = taken_sound (has_a op) words a.0 a.1 in
    let tb : Taken (has_b op) a.0.1 b.0.0 b.0.1 = taken_sound (has_b op) a.0.1 b.0 b.1 in
    let tc : Taken (c_is_source op) b.0.1 c.0.0 c.0.1 = taken_sound (c_is_source op) b.0.1 c.0 c.1 in
    rw c.2 (record {
      a = ta.here;
      b = tb.here;
      c = tc.here;
      all = ta.all ∙ ap (λ ws. ta.here ++ ws) (tb.all ∙ ap (λ ws. tb.here ++ ws) tc.all);
      is_op = refl;
      is_a = ta.is_register;
      is_b = tb.is_register;
      is_c = tc.is_register;
    })

-- the whole instruction

said_final : (labels : Labels) (at : ℕ) (op : Op) (words rest : List (List ℕ)) (cell final : Cell)
    → RegistersSaid op words cell rest
    → LastSaid labels at (last_of op) rest cell final → InstructionText labels at (mnemonic op ∷ words) final
said_final labels at op words rest cell final r l =
    let is_op : final.op ≡ op = ap (λ (c : Cell). c.op) l.same ∙ r.is_op in
    let same_a : final.a ≡ cell.a = ap (λ (c : Cell). c.a) l.same in
    let same_b : final.b ≡ cell.b = ap (λ (c : Cell). c.b) l.same in
    let same_c : final.c ≡ cell.c = ap (λ (c : Cell). c.c) l.same in
    record {
      a = r.a;
      b = r.b;
      c = r.c;
      last = rest;
      written = rw is_op (ap (λ ws. mnemonic op ∷ ws) r.all);
      is_a = rw (is_op, same_a) r.is_a;
      is_b = rw (is_op, same_b) r.is_b;
      is_c = rw (is_op, same_c) r.is_c;
      is_last = rw is_op l.said;
    }

pub instruction_sound : (labels : Labels) (at : ℕ) (op : Op) (words : List (List ℕ)) (given : Given) (final : Cell)
    → given_from op words ≡ Some given → resolved_cell labels at given ≡ Some final
    → InstructionText labels at (mnemonic op ∷ words) final
instruction_sound labels at op words given final h g =
    let r = some_then (λ (registers : Cell × List (List ℕ)). option_map (with_operand registers.0)
    (operand_from (last_of op) registers.1)) (registers_from op words) given h in
    let o = some_map (with_operand r.0.0) (operand_from (last_of op) r.0.1) given r.2 in
    said_final labels at op words r.0.1 r.0.0 final (registers_sound op words r.0 r.1)
    (last_sound labels at (last_of op) r.0.1 o.0 r.0.0 final o.1 (rw o.2 at g))

-- the instruction that is read of such words
pub record InstructionRead (labels : Labels) (at : ℕ) (words : List (List ℕ)) (cell : Cell) : Type 0 where
  pub behind : List (List ℕ)
  pub given : Given
  pub all : words ≡ mnemonic cell.op ∷ behind
  pub read : given_from cell.op behind ≡ Some given
  pub resolves : resolved_cell labels at given ≡ Some cell

pub instruction_complete : (labels : Labels) (at : ℕ) (words : List (List ℕ)) (cell : Cell)
    → InstructionText labels at words cell → InstructionRead labels at words cell
instruction_complete labels at words cell t =
    let base : Cell = record { op = cell.op; a = cell.a; b = cell.b; c = cell.c; imm = 0 } in
    let o : LastRead labels at (last_of cell.op) t.last base cell.imm =
    last_complete labels at (last_of cell.op) t.last base cell.imm t.is_last in
    let registers : registers_from cell.op (t.a ++ (t.b ++ (t.c ++ t.last))) ≡ Some (base, t.last) =
    rw (
      taken_complete (has_a cell.op) t.a (t.b ++ (t.c ++ t.last)) cell.a t.is_a,
      taken_complete (has_b cell.op) t.b (t.c ++ t.last) cell.b t.is_b,
      taken_complete (c_is_source cell.op) t.c t.last cell.c t.is_c,
    ) refl in
    record {
      behind = t.a ++ (t.b ++ (t.c ++ t.last));
      given = with_operand base o.operand;
      all = t.written;
      read = rw (registers, o.read) refl;
      resolves = o.resolves;
    }
