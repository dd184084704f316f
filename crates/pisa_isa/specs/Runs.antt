-- Many steps.
use Rattle.std.specs.Prelude.{◌≡◌, ◌+◌, ◌-◌, ℕ, zero, suc, ℤ, pos, false, List, [], ◌∷◌, Option}
use Rattle.std.specs.Prelude.{Some, None, replicate}
use Rattle.pisa_isa.specs.declared.cell.Cell.{Cell}
use Rattle.pisa_isa.specs.declared.machine.Stop.{Stop}
use Rattle.pisa_isa.specs.declared.machine.Stop.TheVariants.{OffCode, Bound}
use Rattle.pisa_isa.specs.Machine.{State, IsState, stop, next, back, fetch}
use Rattle.pisa_isa.specs.Image.{start_of}

-- where a run of an image begins: at its START cell, with `br` 0 and direction 1
abbrev pub started : List Cell → (regs cells : List ℕ) → State
started code regs cells =
    record { pc = pos (start_of code); br = 0; back = false; regs = regs; cells = cells }

-- the registers of a run that begins with none of its own
abbrev pub zero_registers : List ℕ
zero_registers = replicate 32 0

-- goes on if there is no stop
abbrev pub unless_stop : Option Stop → Option State → Option State
unless_stop None o = o
unless_stop (Some e) o = None

-- n steps, none of which is a stop
abbrev pub steps : List Cell → ℕ → State → Option State
steps code zero m = Some m
steps code (suc n) m = unless_stop (stop code m) (steps code n (next code m))

abbrev pub then_state : Option State → (State → Option State) → Option State
then_state None f = None
then_state (Some m) f = f m

-- n steps back
abbrev pub back_by : List Cell → ℕ → State → State
back_by code zero m = m
back_by code (suc n) m = back_by code n (back code m)

-- how a run ends: why, after how many counted steps, and in which state
pub record End : Type 0 where
  pub why : Stop
  pub spent : ℕ
  pub last : State

-- whether a stop counts as a step
abbrev pub counted : Stop → ℕ
counted (OffCode p) = 0
counted Bound = 0
counted _ = 1

-- what one step counts for, if it may be a stop
abbrev pub counted_by : Option Stop → ℕ
counted_by None = 1
counted_by (Some e) = counted e

-- where the allowed steps were made, at a place with this cell
abbrev pub stop_at_bound : Option Cell → ℤ → Stop
stop_at_bound None pc = OffCode pc
stop_at_bound (Some c) pc = Bound

abbrev pub at_bound : Option Cell → State → End
at_bound o m = record { why = stop_at_bound o m.pc; spent = 0; last = m }

-- the end of a run whose first step may be a stop
abbrev pub after_step : Option Stop → State → End → End
after_step (Some e) m rest = record { why = e; spent = counted e; last = m }
after_step None m rest = record rest { spent = suc rest.spent }

-- at most n steps
abbrev pub run : List Cell → ℕ → State → End
run code zero m = at_bound (fetch code m.pc) m
run code (suc n) m = after_step (stop code m) m (run code n (next code m))

-- how many steps of a run were no stops
abbrev pub made_in : End → ℕ
made_in e = e.spent - counted e.why

-- an end after n steps more
abbrev pub later : ℕ → End → End
later n e = record e { spent = n + e.spent }

-- the state before a step, before the states before the later steps
abbrev pub before_step : Option Stop → State → List State → List State
before_step (Some e) m rest = replicate (counted e) m
before_step None m rest = m ∷ rest

-- the states before each counted step of at most n, in order
abbrev pub visited : List Cell → ℕ → State → List State
visited code zero m = []
visited code (suc n) m = before_step (stop code m) m (visited code n (next code m))

-- the state after n steps that are no stops, from a state of words
pub record IsReached (code : List Cell) (n : ℕ) (m : State) : Type 0 where
  pub is_state : IsState (back_by code n m)
  pub reaches : steps code n (back_by code n m) ≡ Some m
