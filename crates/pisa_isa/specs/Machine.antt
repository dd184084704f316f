-- States, stops and steps.
use Rattle.std.specs.Prelude.{◌≡◌, ◌≤◌, ◌<◌, ◌^◌, ℕ, ℤ, pos, negsuc, ◌+ℤ◌, ◌-ℤ◌, Bool, true, false}
use Rattle.std.specs.Prelude.{not, ◌&&◌, ◌||◌, nat_eq, nat_lt, nat_le, if◌then◌else◌, List, length}
use Rattle.std.specs.Prelude.{Option, Some, None, slice_get, slice_index, slice_set}
use Rattle.std.specs.List.{All}
use Rattle.std.specs.Option.{unwrap_or}
use Rattle.rpp_words.specs.Words.{IsWord, sum_of, negated, signed}
use Rattle.pisa_isa.specs.declared.cell.Op.{Op}
use Rattle.pisa_isa.specs.declared.cell.Op.TheVariants.{Exch, Swapbr, Bra, Rbra, Beq, Bne, Bgez}
use Rattle.pisa_isa.specs.declared.cell.Op.TheVariants.{Bgtz, Blez, Bltz, Start, Finish, DataWord}
use Rattle.pisa_isa.specs.declared.cell.Cell.{Cell}
use Rattle.pisa_isa.specs.declared.image.TheConstants.{MOST_CELLS}
use Rattle.pisa_isa.specs.declared.machine.Core.{Core}
use Rattle.pisa_isa.specs.declared.machine.Stop.{Stop}
use Rattle.pisa_isa.specs.declared.machine.Stop.TheVariants.{Finished, Returned, Trap, BadAddress}
use Rattle.pisa_isa.specs.declared.machine.Stop.TheVariants.{OffCode}
use Rattle.pisa_isa.specs.Table.{new_value, inverse_of, IsCell}

-- `back` says that the direction is -1
pub record State : Type 0 where
  pub pc : ℤ
  pub br : ℕ
  pub back : Bool
  pub regs : List ℕ
  pub cells : List ℕ

-- the memory of a state: the registers and the data cells
pub record Memory : Type 0 where
  pub regs : List ℕ
  pub cells : List ℕ

abbrev pub memory_of : State → Memory
memory_of m = record { regs = m.regs; cells = m.cells }

abbrev pub reg : State → ℕ → ℕ
reg m r = slice_index m.regs r

abbrev pub with_reg : State → ℕ → ℕ → State
with_reg m r w = record m { regs = slice_set m.regs r w }

-- the word in a data cell, and 0 after the memory
abbrev pub word_at : (cells : List ℕ) → (at : ℕ) → ℕ
word_at cells at = unwrap_or (slice_get cells at) 0

-- register d and the data cell at an address are swapped
abbrev pub exchanged_at : State → (d at : ℕ) → State
exchanged_at m d at = record m {
  regs = slice_set m.regs d (slice_index m.cells at);
  cells = slice_set m.cells at (reg m d);
}

-- the address is in register s
abbrev pub exchanged : State → ℕ → ℕ → State
exchanged m d s = exchanged_at m d (reg m s)

abbrev pub branched : Bool → ℕ → State → State
branched taken o m = record m { br = if taken then sum_of m.br o else m.br }

-- the other direction
abbrev pub turned_state : State → State
turned_state m = record m { back = not m.back }

abbrev pub below_zero : ℕ → Bool
below_zero x = nat_le (2 ^ 31) x

abbrev pub is_zero_word : ℕ → Bool
is_zero_word x = nat_eq x 0

-- rows 25 and 27 to 32: whether the branch is taken, if its registers hold x and y
abbrev pub is_taken : Op → (x y : ℕ) → Bool
is_taken Bra x y = true
is_taken Beq x y = nat_eq x y
is_taken Bne x y = not (nat_eq x y)
is_taken Bgez x y = not (below_zero x)
is_taken Bgtz x y = not (below_zero x || is_zero_word x)
is_taken Blez x y = below_zero x || is_zero_word x
is_taken Bltz x y = below_zero x
is_taken _ x y = false

-- the effect of a row for direction 1, with the registers a, b and c and the word i
abbrev pub row : Op → (a b c i : ℕ) → State → State
row Exch a b c i m = exchanged m a b
row Swapbr a b c i m = record m { br = reg m a; regs = slice_set m.regs a m.br }
row Rbra a b c o m = record m { br = negated (sum_of m.br o); back = not m.back }
row Bra a b c o m = branched (is_taken Bra (reg m a) (reg m b)) o m
row Beq a b c o m = branched (is_taken Beq (reg m a) (reg m b)) o m
row Bne a b c o m = branched (is_taken Bne (reg m a) (reg m b)) o m
row Bgez a b c o m = branched (is_taken Bgez (reg m a) (reg m b)) o m
row Bgtz a b c o m = branched (is_taken Bgtz (reg m a) (reg m b)) o m
row Blez a b c o m = branched (is_taken Blez (reg m a) (reg m b)) o m
row Bltz a b c o m = branched (is_taken Bltz (reg m a) (reg m b)) o m
row Start a b c i m = m
row Finish a b c i m = m
row DataWord a b c i m = m
row op a b c i m = with_reg m a (new_value op (reg m a) (reg m b) (reg m c) i)

abbrev pub row_of : Cell → State → State
row_of c m = row c.op c.a c.b c.c c.imm m

-- a cell as it acts in a direction: for direction -1 the effect is the inverse row's
abbrev pub faced : Bool → Cell → Cell
faced true c = inverse_of c
faced false c = c

abbrev pub effect : Cell → State → State
effect c m = row_of (faced m.back c) m

-- the length of a move
abbrev pub stride : ℕ → ℤ
stride br = if is_zero_word br then pos 1 else signed br

-- the move by the direction
abbrev pub place_moved : Bool → ℤ → ℕ → ℤ
place_moved true pc br = pc -ℤ stride br
place_moved false pc br = pc +ℤ stride br

abbrev pub moved : State → State
moved m = record m { pc = place_moved m.back m.pc m.br }

-- the cell at a place
abbrev pub fetch : List Cell → ℤ → Option Cell
fetch code (pos n) = slice_get code n
fetch code (negsuc n) = None

-- whether there is the data cell that an EXCH asks for
abbrev pub has_cell : Op → ℕ → State → Bool
has_cell Exch s m = nat_lt (reg m s) (length m.cells)
has_cell _ s m = true

-- why the machine stops at a cell, if it does
abbrev pub stop_in : Op → Cell → State → Option Stop
stop_in Finish c m = if not m.back && is_zero_word m.br then Some Finished else None
stop_in Start c m = if m.back && is_zero_word m.br then Some Returned else None
stop_in DataWord c m = Some (Trap c.imm)
stop_in Exch c m = if has_cell Exch c.b m then None else Some (BadAddress (reg m c.b))
stop_in _ c m = None

abbrev pub stop_at : Option Cell → State → Option Stop
stop_at None m = Some (OffCode m.pc)
stop_at (Some c) m = stop_in c.op c m

abbrev pub stop : List Cell → State → Option Stop
stop code m = stop_at (fetch code m.pc) m

abbrev pub effect_at : Option Cell → State → State
effect_at None m = m
effect_at (Some c) m = effect c m

-- the state after a step that is no stop
abbrev pub next : List Cell → State → State
next code m = moved (effect_at (fetch code m.pc) m)

-- the state before: the last move and then the effect, each for the other direction
abbrev pub back : List Cell → State → State
back code m = let u = moved (turned_state m) in turned_state (effect_at (fetch code u.pc) u)

-- what the code's registers and cells are as a state
abbrev pub core_state : Core → List ℕ → State
core_state core cells = record {
  pc = core.pc;
  br = core.br;
  back = core.back;
  regs = core.regs;
  cells = cells;
}

pub record IsCode (code : List Cell) : Type 0 where
  pub in_limit : length code ≤ MOST_CELLS
  pub cells : All IsCell code

pub record IsState (m : State) : Type 0 where
  pub br_word : m.br < 2 ^ 32
  pub count : length m.regs ≡ 32
  pub words : All IsWord m.regs
  pub cell_words : All IsWord m.cells

-- a state to which a step leads that is no stop: by the law, a step from what stepping back gives
pub record IsNext (code : List Cell) (m : State) : Type 0 where
  pub is_state : IsState (back code m)
  pub goes : stop code (back code m) ≡ None
  pub comes : m ≡ next code (back code m)
