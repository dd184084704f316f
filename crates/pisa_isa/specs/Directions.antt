-- Rows in a direction, with no cell faced: if the registers a and b hold x and y.
use Rattle.std.specs.Prelude.{ℕ, Bool, not, ◌&&◌, true, nat_lt, if◌then◌else◌, length, Option, Some}
use Rattle.std.specs.Prelude.{None, slice_set}
use Rattle.rpp_words.specs.Words.{sum_of, difference_of, negated, turned_left, turned_right}
use Rattle.pisa_isa.specs.declared.cell.Op.{Op}
use Rattle.pisa_isa.specs.declared.cell.Op.TheVariants.{Add, Sub, Addi, Rl, Rr, Rlv, Rrv, Exch}
use Rattle.pisa_isa.specs.declared.cell.Op.TheVariants.{Swapbr, Bra, Rbra, Beq, Bne, Bgez, Bgtz}
use Rattle.pisa_isa.specs.declared.cell.Op.TheVariants.{Blez, Bltz, Start, Finish, DataWord}
use Rattle.pisa_isa.specs.declared.machine.Stop.{Stop}
use Rattle.pisa_isa.specs.declared.machine.Stop.TheVariants.{Finished, Returned, Trap, BadAddress}
use Rattle.pisa_isa.specs.Table.{new_value}
use Rattle.pisa_isa.specs.Machine.{State, reg, with_reg, exchanged_at, branched, is_taken, is_zero_word}

abbrev pub sum_by : Bool → (x y : ℕ) → ℕ
sum_by back x y = if back then difference_of x y else sum_of x y

abbrev pub turned_by : Bool → (x n : ℕ) → ℕ
turned_by back x n = if back then turned_right x n else turned_left x n

abbrev pub offset_by : Bool → ℕ → ℕ
offset_by back i = if back then negated i else i

abbrev pub value_in_direction : Op → Bool → (x y z i : ℕ) → ℕ
value_in_direction Add back x y z i = sum_by back x y
value_in_direction Sub back x y z i = sum_by (not back) x y
value_in_direction Addi back x y z i = sum_of x (offset_by back i)
value_in_direction Rl back x y z i = turned_by back x i
value_in_direction Rr back x y z i = turned_by (not back) x i
value_in_direction Rlv back x y z i = turned_by back x y
value_in_direction Rrv back x y z i = turned_by (not back) x y
value_in_direction op back x y z i = new_value op x y z i

abbrev pub row_by : Op → Bool → (a x y c i : ℕ) → State → State
row_by Exch back a x y c i m = exchanged_at m a y
row_by Swapbr back a x y c i m = record m { br = x; regs = slice_set m.regs a m.br }
row_by Rbra back a x y c o m =
    record m { br = negated (sum_of m.br (offset_by back o)); back = not m.back }
row_by Bra back a x y c o m = branched (is_taken Bra x y) (offset_by back o) m
row_by Beq back a x y c o m = branched (is_taken Beq x y) (offset_by back o) m
row_by Bne back a x y c o m = branched (is_taken Bne x y) (offset_by back o) m
row_by Bgez back a x y c o m = branched (is_taken Bgez x y) (offset_by back o) m
row_by Bgtz back a x y c o m = branched (is_taken Bgtz x y) (offset_by back o) m
row_by Blez back a x y c o m = branched (is_taken Blez x y) (offset_by back o) m
row_by Bltz back a x y c o m = branched (is_taken Bltz x y) (offset_by back o) m
row_by Start back a x y c i m = m
row_by Finish back a x y c i m = m
row_by DataWord back a x y c i m = m
row_by op back a x y c i m = with_reg m a (value_in_direction op back x y (reg m c) i)

-- whether there is the data cell that an EXCH asks for, at an address
abbrev pub has_cell_at : Op → ℕ → State → Bool
has_cell_at Exch y m = nat_lt y (length m.cells)
has_cell_at _ y m = true

-- why the machine stops at a row
abbrev pub stop_by : Op → Bool → (y i : ℕ) → State → Option Stop
stop_by Finish back y i m = if not back && is_zero_word m.br then Some Finished else None
stop_by Start back y i m = if back && is_zero_word m.br then Some Returned else None
stop_by DataWord back y i m = Some (Trap i)
stop_by Exch back y i m = if has_cell_at Exch y m then None else Some (BadAddress y)
stop_by _ back y i m = None
