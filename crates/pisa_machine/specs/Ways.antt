-- A step on the parts of a state, with the direction kept apart.
use Rattle.std.specs.Prelude.{ℕ, ℤ, Bool, not, Option, Some, None, List}
use Rattle.pisa_isa.specs.declared.machine.Stop.{Stop}
use Rattle.pisa_isa.specs.Machine.{State}
use Rattle.pisa_machine.specs.declared.rows.Outcome.{Outcome}
use Rattle.pisa_machine.specs.declared.rows.Outcome.TheVariants.{Goes, Turns, Stops}

abbrev pub state_with : (pc : ℤ) (br : ℕ) (back : Bool) (regs cells : List ℕ) → State
state_with pc br back regs cells = record {
  pc = pc;
  br = br;
  back = back;
  regs = regs;
  cells = cells;
}

-- why a row stops the machine, if it does
abbrev pub stop_of : Outcome → Option Stop
stop_of Goes = None
stop_of Turns = None
stop_of (Stops why) = Some why

-- the direction after an instruction
abbrev pub back_behind : Outcome → Bool → Bool
back_behind Goes back = back
back_behind Turns back = not back
back_behind (Stops why) back = back
