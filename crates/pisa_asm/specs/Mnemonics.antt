-- The mnemonics.
use Rattle.std.specs.Prelude.{ℕ, List, [], ◌∷◌, Option, Some, None, codes, if◌then◌else◌}
use Rattle.std.specs.Str.{bytes_eq}
use Rattle.pisa_isa.specs.declared.cell.Op.{Op}
use Rattle.pisa_isa.specs.declared.cell.TheConstants.{ROWS}
use Rattle.pisa_isa.specs.declared.cell.Op.TheVariants.{Add, Sub, Xor, Neg, Addi, Xori, Rl, Rr, Rlv}
use Rattle.pisa_isa.specs.declared.cell.Op.TheVariants.{Rrv, Andx, Orx, Norx, Sltx, Andix, Orix}
use Rattle.pisa_isa.specs.declared.cell.Op.TheVariants.{Sllx, Srlx, Srax, Sllvx, Srlvx, Sravx, Exch}
use Rattle.pisa_isa.specs.declared.cell.Op.TheVariants.{Swapbr, Bra, Rbra, Beq, Bne, Bgez, Bgtz}
use Rattle.pisa_isa.specs.declared.cell.Op.TheVariants.{Blez, Bltz, Start, Finish, DataWord}

-- the mnemonic of a row
unfoldable pub mnemonic : Op → List ℕ
mnemonic Add = codes "ADD"
mnemonic Sub = codes "SUB"
mnemonic Xor = codes "XOR"
mnemonic Neg = codes "NEG"
mnemonic Addi = codes "ADDI"
mnemonic Xori = codes "XORI"
mnemonic Rl = codes "RL"
mnemonic Rr = codes "RR"
mnemonic Rlv = codes "RLV"
mnemonic Rrv = codes "RRV"
mnemonic Andx = codes "ANDX"
mnemonic Orx = codes "ORX"
mnemonic Norx = codes "NORX"
mnemonic Sltx = codes "SLTX"
mnemonic Andix = codes "ANDIX"
mnemonic Orix = codes "ORIX"
mnemonic Sllx = codes "SLLX"
mnemonic Srlx = codes "SRLX"
mnemonic Srax = codes "SRAX"
mnemonic Sllvx = codes "SLLVX"
mnemonic Srlvx = codes "SRLVX"
mnemonic Sravx = codes "SRAVX"
mnemonic Exch = codes "EXCH"
mnemonic Swapbr = codes "SWAPBR"
mnemonic Bra = codes "BRA"
mnemonic Rbra = codes "RBRA"
mnemonic Beq = codes "BEQ"
mnemonic Bne = codes "BNE"
mnemonic Bgez = codes "BGEZ"
mnemonic Bgtz = codes "BGTZ"
mnemonic Blez = codes "BLEZ"
mnemonic Bltz = codes "BLTZ"
mnemonic Start = codes "START"
mnemonic Finish = codes "FINISH"
mnemonic DataWord = codes "DATA"

-- the rows of the table of instructions
unfoldable pub rows : List Op
rows = ROWS

-- the first of these rows with this mnemonic
abbrev pub row_among : List Op → List ℕ → Option Op
row_among [] word = None
row_among (op ∷ ops) word = if bytes_eq word (mnemonic op) then Some op else row_among ops word

-- the row of a mnemonic
abbrev pub row_named : List ℕ → Option Op
row_named word = row_among rows word

-- the word that begins a static word's line
abbrev pub static_mnemonic : List ℕ
static_mnemonic = codes "STATIC"

-- the word that begins a mark's line
abbrev pub mark_word : List ℕ
mark_word = codes "MARK"

-- the word that begins a name's line
abbrev pub name_word : List ℕ
name_word = codes "NAME"
