-- The instructions that all code is made of.
use Rattle.std.specs.Prelude.{ℕ}
use Rattle.pisa_isa.specs.declared.cell.Op.{Op}
use Rattle.pisa_isa.specs.declared.cell.Op.TheVariants.{Add, Sub, Xor, Exch, Addi, Xori, Sltx, Neg}
use Rattle.pisa_isa.specs.declared.cell.Op.TheVariants.{Bra}
use Rattle.pisa_isa.specs.declared.cell.Cell.{Cell}

-- an instruction on two registers
abbrev pub two : Op → ℕ → ℕ → Cell
two op d s = record { op = op; a = d; b = s; c = 0; imm = 0 }

-- an instruction on a register and a word
abbrev pub with_word : Op → ℕ → ℕ → Cell
with_word op d word = record { op = op; a = d; b = 0; c = 0; imm = word }

abbrev pub add : ℕ → ℕ → Cell
add = two Add

abbrev pub sub : ℕ → ℕ → Cell
sub = two Sub

abbrev pub xor : ℕ → ℕ → Cell
xor = two Xor

-- a register and the cell whose address the other register has change their words
abbrev pub exch : ℕ → ℕ → Cell
exch = two Exch

abbrev pub addi : ℕ → ℕ → Cell
addi = with_word Addi

abbrev pub xori : ℕ → ℕ → Cell
xori = with_word Xori

-- one more in a register if one word is less than another
abbrev pub sltx : ℕ → ℕ → ℕ → Cell
sltx d s t = record { op = Sltx; a = d; b = s; c = t; imm = 0 }

abbrev pub neg : ℕ → Cell
neg d = record { op = Neg; a = d; b = 0; c = 0; imm = 0 }

abbrev pub bra : ℕ → Cell
bra offset = record { op = Bra; a = 0; b = 0; c = 0; imm = offset }
