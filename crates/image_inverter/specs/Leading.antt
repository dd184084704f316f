-- Runs that lead from one memory to another, and runs that lead back.
use Rattle.std.specs.Prelude.{◌≡◌, ℕ, List}
use Rattle.pisa_isa.specs.declared.cell.Cell.{Cell}
use Rattle.pisa_isa.specs.Machine.{State, IsState, Memory, memory_of}
use Rattle.pisa_isa.specs.Runs.{run, started}
use Rattle.pisa_isa.specs.Ends.{IsCleanFinish}

-- where a run of code begins with this memory: at START
abbrev pub begun : List Cell → Memory → State
begun code memory = started code memory.regs memory.cells

-- the run from START with the first memory finishes cleanly after n steps with the second
pub record Leads (code : List Cell) (n : ℕ) (from to : Memory) : Type 0 where
  pub clean : IsCleanFinish code n (begun code from)
  pub steps : (run code n (begun code from)).spent ≡ n
  pub ends : memory_of (run code n (begun code from)).last ≡ to

-- wherever a run of the code leads, a run of the other code leads back, in as many steps
abbrev pub LeadsBack : (code other : List Cell) → Type 0
LeadsBack code other = (n : ℕ) (from to : Memory) → IsState (begun code from) → Leads code n from to
    → Leads other n to from
