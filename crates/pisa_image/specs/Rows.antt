-- The numbers of the rows of the instruction table.
use Rattle.std.specs.Prelude.{ℕ, ◌-◌, List, Option, None, nat_eq, slice_get, if◌then◌else◌}
use Rattle.pisa_isa.specs.declared.cell.Op.{Op}
use Rattle.pisa_isa.specs.declared.cell.Op.TheVariants.{Add, Sub, Xor, Neg, Addi, Xori, Rl, Rr, Rlv}
use Rattle.pisa_isa.specs.declared.cell.Op.TheVariants.{Rrv, Andx, Orx, Norx, Sltx, Andix, Orix}
use Rattle.pisa_isa.specs.declared.cell.Op.TheVariants.{Sllx, Srlx, Srax, Sllvx, Srlvx, Sravx, Exch}
use Rattle.pisa_isa.specs.declared.cell.Op.TheVariants.{Swapbr, Bra, Rbra, Beq, Bne, Bgez, Bgtz}
use Rattle.pisa_isa.specs.declared.cell.Op.TheVariants.{Blez, Bltz, Start, Finish, DataWord}
use Rattle.pisa_isa.specs.declared.cell.TheConstants.{ROWS}

-- the number by which a file names a row
abbrev pub row_number : Op → ℕ
row_number Add = 1
row_number Sub = 2
row_number Xor = 3
row_number Neg = 4
row_number Addi = 5
row_number Xori = 6
row_number Rl = 7
row_number Rr = 8
row_number Rlv = 9
row_number Rrv = 10
row_number Andx = 11
row_number Orx = 12
row_number Norx = 13
row_number Sltx = 14
row_number Andix = 15
row_number Orix = 16
row_number Sllx = 17
row_number Srlx = 18
row_number Srax = 19
row_number Sllvx = 20
row_number Srlvx = 21
row_number Sravx = 22
row_number Exch = 23
row_number Swapbr = 24
row_number Bra = 25
row_number Rbra = 26
row_number Beq = 27
row_number Bne = 28
row_number Bgez = 29
row_number Bgtz = 30
row_number Blez = 31
row_number Bltz = 32
row_number Start = 33
row_number Finish = 34
row_number DataWord = 35

-- the row with a number, if the rows are numbered from 1 on
abbrev pub row_in : List Op → ℕ → Option Op
row_in rows number = if nat_eq number 0 then None else slice_get rows (number - 1)

abbrev pub row_with : ℕ → Option Op
row_with number = row_in ROWS number
