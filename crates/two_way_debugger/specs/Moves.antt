-- Moves along the positions of a machine.
use Rattle.std.specs.Prelude.{ℕ, zero, suc, ◌+◌, ◌-◌, ℤ, Bool, true, false, nat_eq, nat_lt}
use Rattle.std.specs.Prelude.{if◌then◌else◌, Option, Some, None, option_map}
use Rattle.std.specs.Ordering.{int_eq}
use Rattle.pisa_scripts.specs.pisa_isa.Machine.{stop, next, back}
use Rattle.pisa_scripts.specs.pisa_isa.Runs.{counted}
use Rattle.pisa_machine.specs.Position.{Position}
use Rattle.two_way_debugger.specs.declared.moves.TheConstants.{LAST_POSITION}
use Rattle.two_way_debugger.specs.declared.moves.Ending.{Ending}
use Rattle.two_way_debugger.specs.declared.moves.Ending.TheVariants.{Made, Last, Start, Stopped}

-- the next position, or the one before
abbrev pub moved_position : (backward : Bool) → Position → Position
moved_position false p = record p { state = next p.image.code p.state; made = suc p.made }
moved_position true p = record p { state = back p.image.code p.state; made = p.made - 1 }

-- why no move is made from a position, if none is: at a stop, at the last position and at position
-- 0
abbrev pub barrier : (backward : Bool) → Position → Option Ending
barrier false p = if nat_lt p.made LAST_POSITION then option_map Stopped (stop p.image.code p.state)
    else Some Last
barrier true p = if nat_eq p.made 0 then Some Start else None

-- whether the machine is at a code address, if there is one to go to
abbrev pub is_at : Option ℤ → Position → Bool
is_at None p = false
is_at (Some place) p = int_eq p.state.pc place

-- how moves end: where, why, and after how many steps of the machine, its stop included
pub record MachineWalk : Type 0 where
  pub position : Position
  pub ending : Ending
  pub spent : ℕ

-- the steps of the machine in which no move was made
abbrev pub spent_on : Ending → ℕ
spent_on (Stopped e) = counted e
spent_on _ = 0

-- the steps of the machine in one requested move
abbrev pub spent_by : Option Ending → ℕ
spent_by None = 1
spent_by (Some ending) = spent_on ending

abbrev pub machine_walk_ends : Position → Ending → MachineWalk
machine_walk_ends p ending = record { position = p; ending = ending; spent = spent_on ending }

-- moves after others
abbrev pub later_walk : ℕ → MachineWalk → MachineWalk
later_walk n w = record w { spent = n + w.spent }

abbrev pub unless_ended : Option Ending → Position → MachineWalk → MachineWalk
unless_ended (Some ending) p rest = machine_walk_ends p ending
unless_ended None p rest = record rest { spent = suc rest.spent }

-- at most n moves, up to the first after which the machine is at the code address
abbrev pub machine_walk : (backward : Bool) → (place : Option ℤ) → ℕ → Position → MachineWalk
machine_walk backward place zero p = machine_walk_ends p Made
machine_walk backward place (suc n) p =
    unless_ended (barrier backward p) p (if is_at place (moved_position backward p)
    then machine_walk_ends (moved_position backward p) Made else machine_walk backward place n (moved_position backward p))
