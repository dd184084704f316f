-- The table of instructions, row by row.
use Rattle.std.specs.Prelude.{ℕ, ◌-◌, ◌^◌, ◌<◌, Bool, true, false, not, ◌&&◌, nat_eq, if◌then◌else◌}
use Rattle.std.specs.Prelude.{bit_and, bit_or, bit_xor, IsTrue}
use Rattle.rpp_words.specs.Words.{sum_of, difference_of, negated, is_less, shifted_left}
use Rattle.rpp_words.specs.Words.{shifted_right, shifted_right_signed, turned_left, turned_right}
use Rattle.pisa_isa.specs.declared.cell.Op.{Op}
use Rattle.pisa_isa.specs.declared.cell.Op.TheVariants.{Add, Sub, Xor, Neg, Addi, Xori, Rl, Rr, Rlv}
use Rattle.pisa_isa.specs.declared.cell.Op.TheVariants.{Rrv, Andx, Orx, Norx, Sltx, Andix, Orix}
use Rattle.pisa_isa.specs.declared.cell.Op.TheVariants.{Sllx, Srlx, Srax, Sllvx, Srlvx, Sravx, Exch}
use Rattle.pisa_isa.specs.declared.cell.Op.TheVariants.{Bra, Rbra, Beq, Bne, Bgez, Bgtz, Blez, Bltz}
use Rattle.pisa_isa.specs.declared.cell.Op.TheVariants.{Start, Finish, DataWord}
use Rattle.pisa_isa.specs.declared.cell.Cell.{Cell}

-- the complement of a word
abbrev pub complement : ℕ → ℕ
complement a = 2 ^ 32 - 1 - a

-- 1 if a test holds
abbrev pub word_of : Bool → ℕ
word_of b = if b then 1 else 0

-- rows 1 to 22: what becomes of the target x, if the sources hold y and z, and the cell has the
-- word i
abbrev pub new_value : Op → (x y z i : ℕ) → ℕ
new_value Add x y z i = sum_of x y
new_value Sub x y z i = difference_of x y
new_value Xor x y z i = bit_xor x y
new_value Neg x y z i = negated x
new_value Addi x y z i = sum_of x i
new_value Xori x y z i = bit_xor x i
new_value Rl x y z i = turned_left x i
new_value Rr x y z i = turned_right x i
new_value Rlv x y z i = turned_left x y
new_value Rrv x y z i = turned_right x y
new_value Andx x y z i = bit_xor x (bit_and y z)
new_value Orx x y z i = bit_xor x (bit_or y z)
new_value Norx x y z i = bit_xor x (complement (bit_or y z))
new_value Sltx x y z i = bit_xor x (word_of (is_less y z))
new_value Andix x y z i = bit_xor x (bit_and y i)
new_value Orix x y z i = bit_xor x (bit_or y i)
new_value Sllx x y z i = bit_xor x (shifted_left y i)
new_value Srlx x y z i = bit_xor x (shifted_right y i)
new_value Srax x y z i = bit_xor x (shifted_right_signed y i)
new_value Sllvx x y z i = bit_xor x (shifted_left y z)
new_value Srlvx x y z i = bit_xor x (shifted_right y z)
new_value Sravx x y z i = bit_xor x (shifted_right_signed y z)
new_value _ x y z i = x

-- the column of inverses
abbrev pub inverse_op : Op → Op
inverse_op Add = Sub
inverse_op Sub = Add
inverse_op Rl = Rr
inverse_op Rr = Rl
inverse_op Rlv = Rrv
inverse_op Rrv = Rlv
inverse_op Start = Finish
inverse_op Finish = Start
inverse_op op = op

-- the word of the inverse: negated for ADDI, for the branches and for RBRA
abbrev pub inverse_word : Op → ℕ → ℕ
inverse_word Addi i = negated i
inverse_word Bra i = negated i
inverse_word Rbra i = negated i
inverse_word Beq i = negated i
inverse_word Bne i = negated i
inverse_word Bgez i = negated i
inverse_word Bgtz i = negated i
inverse_word Blez i = negated i
inverse_word Bltz i = negated i
inverse_word _ i = i

abbrev pub inverse_of : Cell → Cell
inverse_of c = record c { op = inverse_op c.op; imm = inverse_word c.op c.imm }

-- whether c is a source other than the target a
abbrev pub c_is_source : Op → Bool
c_is_source Andx = true
c_is_source Orx = true
c_is_source Norx = true
c_is_source Sltx = true
c_is_source Sllvx = true
c_is_source Srlvx = true
c_is_source Sravx = true
c_is_source _ = false

-- whether b is one: if c is, and in some other rows
abbrev pub b_is_source : Op → Bool
b_is_source Add = true
b_is_source Sub = true
b_is_source Xor = true
b_is_source Rlv = true
b_is_source Rrv = true
b_is_source Andix = true
b_is_source Orix = true
b_is_source Sllx = true
b_is_source Srlx = true
b_is_source Srax = true
b_is_source Exch = true
b_is_source op = c_is_source op

-- no source is the target
abbrev pub is_one_to_one : Cell → Bool
is_one_to_one c =
    (if b_is_source c.op then not (nat_eq c.a c.b) else true)
    && (if c_is_source c.op then not (nat_eq c.a c.c) else true)

-- whether a row names a register in a
abbrev pub has_a : Op → Bool
has_a Bra = false
has_a Rbra = false
has_a Start = false
has_a Finish = false
has_a DataWord = false
has_a _ = true

-- whether a row names a register in b
abbrev pub has_b : Op → Bool
has_b Beq = true
has_b Bne = true
has_b op = b_is_source op

-- the end of the range of a register: 1 if the row names none
abbrev pub register_end : Bool → ℕ
register_end true = 32
register_end false = 1

-- the end of the range of imm: an amount is below 32, a word below 2 ^ 32, and a row without either
-- has 0
abbrev pub imm_end : Op → ℕ
imm_end Addi = 2 ^ 32
imm_end Xori = 2 ^ 32
imm_end Rl = 32
imm_end Rr = 32
imm_end Andix = 2 ^ 32
imm_end Orix = 2 ^ 32
imm_end Sllx = 32
imm_end Srlx = 32
imm_end Srax = 32
imm_end Bra = 2 ^ 32
imm_end Rbra = 2 ^ 32
imm_end Beq = 2 ^ 32
imm_end Bne = 2 ^ 32
imm_end Bgez = 2 ^ 32
imm_end Bgtz = 2 ^ 32
imm_end Blez = 2 ^ 32
imm_end Bltz = 2 ^ 32
imm_end DataWord = 2 ^ 32
imm_end _ = 1

-- the fields of a cell are in the ranges of its row, and those that the row does not use are 0
pub record IsInRange (c : Cell) : Type 0 where
  pub a_in : c.a < register_end (has_a c.op)
  pub b_in : c.b < register_end (has_b c.op)
  pub c_in : c.c < register_end (c_is_source c.op)
  pub imm_in : c.imm < imm_end c.op

-- a cell that an image may hold
pub record IsCell (c : Cell) : Type 0 where
  pub in_range : IsInRange c
  pub one_to_one : IsTrue (is_one_to_one c)
