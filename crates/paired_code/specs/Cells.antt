-- The instructions of which fragments are made, in addition to those that all code is made of.
use Rattle.std.specs.Prelude.{ℕ}
use Rattle.code_conventions.specs.pisa_isa.declared.cell.Op.TheVariants.{Swapbr, Rbra, Beq, Bne, Bgtz, Bltz, Start}
use Rattle.code_conventions.specs.pisa_isa.declared.cell.Op.TheVariants.{Finish, DataWord}
use Rattle.code_conventions.specs.pisa_isa.declared.cell.Cell.{Cell}
use Rattle.code_conventions.specs.Cells.{with_word}

abbrev pub swapbr : ℕ → Cell
swapbr d = with_word Swapbr d 0

abbrev pub rbra : ℕ → Cell
rbra o = with_word Rbra 0 o

abbrev pub bgtz : ℕ → ℕ → Cell
bgtz d o = with_word Bgtz d o

abbrev pub bltz : ℕ → ℕ → Cell
bltz d o = with_word Bltz d o

abbrev pub beq : ℕ → ℕ → ℕ → Cell
beq d s o = record { op = Beq; a = d; b = s; c = 0; imm = o }

abbrev pub bne : ℕ → ℕ → ℕ → Cell
bne d s o = record { op = Bne; a = d; b = s; c = 0; imm = o }

abbrev pub start_cell : Cell
start_cell = with_word Start 0 0

abbrev pub finish : Cell
finish = with_word Finish 0 0

abbrev pub data_word : ℕ → Cell
data_word w = with_word DataWord 0 w
