-- The machine as fragments see it: its memory, what one cell does, and which routines are open.
use Rattle.std.specs.Prelude.{ℕ, suc, ◌^◌, Bool, true, false, List, [], ◌∷◌, nat_eq, nat_lt}
use Rattle.std.specs.Prelude.{if◌then◌else◌, slice_index, slice_set, ℤ, pos, negsuc}
use Rattle.code_conventions.specs.pisa_isa.declared.cell.Op.{Op}
use Rattle.code_conventions.specs.pisa_isa.declared.cell.Op.TheVariants.{Swapbr, Bra, Rbra, Beq, Bne, Bgez, Bgtz}
use Rattle.code_conventions.specs.pisa_isa.declared.cell.Op.TheVariants.{Blez, Bltz, Start, Finish, DataWord}
use Rattle.code_conventions.specs.pisa_isa.declared.cell.Cell.{Cell}
use Rattle.code_conventions.specs.pisa_isa.Table.{inverse_op, inverse_word}
use Rattle.code_conventions.specs.pisa_isa.Machine.{State, row_of, faced, effect, moved, is_zero_word, Memory, memory_of}

abbrev pub memory_reg : Memory → ℕ → ℕ
memory_reg m d = slice_index m.regs d

abbrev pub memory_with_reg : Memory → ℕ → ℕ → Memory
memory_with_reg m d w = record m { regs = slice_set m.regs d w }

-- the state at a place with this branch register and direction
abbrev pub state : ℤ → ℕ → Bool → Memory → State
state pc br back m = record { pc = pc; br = br; back = back; regs = m.regs; cells = m.cells }

-- the word of the inverse; a number that is no word stays, so that this undoes itself on every
-- number
abbrev pub reversed_word : Op → ℕ → ℕ
reversed_word op i = if nat_lt i (2 ^ 32) then inverse_word op i else i

-- the inverse of a cell
abbrev pub reversed : Cell → Cell
reversed c = record c { op = inverse_op c.op; imm = reversed_word c.op c.imm }

-- what a cell does to the memory in a direction
abbrev pub effect_along : Bool → Cell → Memory → Memory
effect_along d c m = memory_of (row_of (faced d c) (state (pos 0) 0 false m))

-- a step at a cell that is no stop
abbrev pub act : Cell → State → State
act c s = moved (effect c s)

-- a row that neither branches nor stops, nor changes the branch register
abbrev pub is_single_op : Op → Bool
is_single_op Swapbr = false
is_single_op Bra = false
is_single_op Rbra = false
is_single_op Beq = false
is_single_op Bne = false
is_single_op Bgez = false
is_single_op Bgtz = false
is_single_op Blez = false
is_single_op Bltz = false
is_single_op Start = false
is_single_op Finish = false
is_single_op DataWord = false
is_single_op _ = true

abbrev pub is_single : Cell → Bool
is_single c = is_single_op c.op

-- where an image begins or ends
abbrev pub is_end_op : Op → Bool
is_end_op Start = true
is_end_op Finish = true
is_end_op _ = false

abbrev pub is_end : Cell → Bool
is_end c = is_end_op c.op

-- the code, and the places of the SWAPBR cells of its routines
pub record Image : Type 0 where
  pub code : List Cell
  pub routines : List ℕ

abbrev pub is_one_of : List ℕ → ℕ → Bool
is_one_of [] p = false
is_one_of (r ∷ rs) p = if nat_eq r p then true else is_one_of rs p

abbrev pub is_routine : List ℕ → ℤ → Bool
is_routine rs (pos p) = is_one_of rs p
is_routine rs (negsuc p) = false

-- how an instruction changes the number of open routines
pub data Change : Type 0 where
  Same : Change
  Enters : Change
  Leaves : Change

-- a routine is entered if its SWAPBR leaves the branch register 0, and else left
abbrev pub swap_change : List ℕ → ℕ → State → Change
swap_change rs d s = if is_routine rs s.pc
    then (if is_zero_word (slice_index s.regs d) then Enters else Leaves) else Same

abbrev pub change_by : Op → List ℕ → ℕ → State → Change
change_by Swapbr rs d s = swap_change rs d s
change_by _ rs d s = Same

abbrev pub change : List ℕ → Cell → State → Change
change rs c s = change_by c.op rs c.a s

-- the number of open routines before and after an instruction
pub data Level : Change → ℕ → ℕ → Type 0 where
  same : {e : ℕ} → Level Same e e
  enters : {e : ℕ} → Level Enters e (suc e)
  leaves : {e : ℕ} → Level Leaves (suc e) e
