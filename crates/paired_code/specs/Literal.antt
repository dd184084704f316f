-- What a fragment does, only in terms of the machine.
use Rattle.std.specs.Prelude.{◌≡◌, ℕ, zero, suc, ◌+◌, ◌-◌, ◌^◌, ◌<◌, Bool, List, length, Option}
use Rattle.std.specs.Prelude.{Some, None, ℤ}
use Rattle.code_conventions.specs.pisa_isa.declared.cell.Cell.{Cell}
use Rattle.paired_code.specs.declared.part.Symbol.{Symbol}
use Rattle.code_conventions.specs.pisa_isa.Machine.{State, stop, next, fetch, Memory, memory_of}
use Rattle.code_conventions.specs.pisa_isa.declared.machine.Stop.{Stop}
use Rattle.code_conventions.specs.pisa_isa.declared.machine.Stop.TheVariants.{Trap, BadAddress}
use Rattle.paired_code.specs.Machine.{Image, change, Change, Same, Enters, Leaves}
use Rattle.paired_code.specs.Layout.{at, code_line, Stands}
use Rattle.paired_code.specs.Pieces.{Outcome, Done, Trapped, Bad, Still, Runs, near_end, far_end}

abbrev pub change_opened : Change → ℕ → ℕ
change_opened Same e = e
change_opened Enters e = e + 1
change_opened Leaves e = e - 1

abbrev pub change_at : List ℕ → Option Cell → State → Change
change_at rs None s = Same
change_at rs (Some c) s = change rs c s

-- no routine is open, and the state is at the place far, in the direction back, with br 0
pub record Coming (far : ℤ) (back : Bool) (e : ℕ) (s : State) : Type 0 where
  pub closed : e ≡ 0
  pub place : s.pc ≡ far
  pub direction : s.back ≡ back
  pub free : s.br ≡ 0

-- the run comes there first after k steps, with this memory
abbrev pub Comes : Image → ℤ → Bool → ℕ → ℕ → State → Memory → Type 0
Comes im far back zero e s m = Coming far back e s × (memory_of s ≡ m)
Comes im far back (suc k) e s m = (¬ Coming far back e s) × (stop im.code s ≡ None)
    × Comes im far back k (change_opened (change_at im.routines (fetch im.code s.pc) s) e) (next im.code s)
    m

-- the run stops so after k steps, and has not come there before
abbrev pub LiteralStops : Image → ℤ → Bool → Stop → ℕ → ℕ → State → Type 0
LiteralStops im far back why zero e s = (¬ Coming far back e s) × (stop im.code s ≡ Some why)
LiteralStops im far back why (suc k) e s = (¬ Coming far back e s) × (stop im.code s ≡ None)
    × LiteralStops im far back why k (change_opened (change_at im.routines (fetch im.code s.pc) s) e)
    (next im.code s)

-- neither has it come there nor stopped, up to and with the k-th step
abbrev pub LiteralStays : Image → ℤ → Bool → ℕ → ℕ → State → Type 0
LiteralStays im far back zero e s = Unit {0}
LiteralStays im far back (suc k) e s = (¬ Coming far back e s) × (stop im.code s ≡ None)
    × LiteralStays im far back k (change_opened (change_at im.routines (fetch im.code s.pc) s) e) (next im.code s)

-- the fragment, from code cell a on, goes from memory m to m' in the direction d in k steps
abbrev pub LiteralGoes : Image → ℕ → List Symbol → Bool → Memory → Memory → ℕ → Type 0
LiteralGoes im a p d m m' k = Comes im (at code_line d (far_end d a (a + length p)) m).pc d k 0
    (at code_line d (near_end d a (a + length p)) m) m'

abbrev pub Traps : Image → ℕ → List Symbol → Bool → Memory → ℕ → ℕ → Type 0
Traps im a p d m w k = LiteralStops im (at code_line d (far_end d a (a + length p)) m).pc d (Trap w) k 0
    (at code_line d (near_end d a (a + length p)) m)

abbrev pub LiteralFails : Image → ℕ → List Symbol → Bool → Memory → ℕ → ℕ → Type 0
LiteralFails im a p d m w k = LiteralStops im (at code_line d (far_end d a (a + length p)) m).pc d (BadAddress w)
    k 0 (at code_line d (near_end d a (a + length p)) m)

abbrev pub Goes_on_for : Image → ℕ → List Symbol → Bool → Memory → ℕ → Type 0
Goes_on_for im a p d m k = LiteralStays im (at code_line d (far_end d a (a + length p)) m).pc d k 0
    (at code_line d (near_end d a (a + length p)) m)

-- an outcome of the fragment from code cell a on, in these terms
abbrev pub Said : Image → ℕ → List Symbol → Bool → Memory → Outcome → Type 0
Said im a p d m (Done m' k) = LiteralGoes im a p d m m' k
Said im a p d m (Trapped w k) = Traps im a p d m w k
Said im a p d m (Bad w k) = LiteralFails im a p d m w k
Said im a p d m (Still k) = Goes_on_for im a p d m k

-- what the laws say of a fragment's run holds in terms of the machine, wherever the fragment is in
-- the code
abbrev pub InWords : Image → Type 0
InWords im = (p : List Symbol) (a : ℕ) (d : Bool) (m : Memory) (o : Outcome)
    → Stands im code_line a p → a + length p < 2 ^ 30 → Runs im p d m o → Said im a p d m o
