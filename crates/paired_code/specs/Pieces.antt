-- What a fragment does.
use Rattle.std.specs.Prelude.{◌≡◌, ℕ, suc, ◌+◌, ◌^◌, ◌<◌, ◌≤◌, Bool, true, false, List, length}
use Rattle.std.specs.Prelude.{Some, None, ℤ}
use Rattle.code_conventions.specs.pisa_isa.declared.cell.Cell.{Cell}
use Rattle.paired_code.specs.declared.part.Symbol.{Symbol}
use Rattle.code_conventions.specs.pisa_isa.Machine.{State, fetch, stop_at, stop, Memory}
use Rattle.code_conventions.specs.pisa_isa.declared.machine.Stop.{Stop}
use Rattle.code_conventions.specs.pisa_isa.declared.machine.Stop.TheVariants.{Trap, BadAddress}
use Rattle.paired_code.specs.Machine.{Image, act, change, is_end, Level}
use Rattle.paired_code.specs.Layout.{Frame, frame_address, at, Stands}

-- the place is that of a cell from a to b, or a routine is open, or a jump is under way
pub data Inside (f : Frame) (a b : ℕ) : ℕ → ℤ → ℕ → Type 0 where
  cell : {e br : ℕ} (i : ℕ) → a ≤ i → i < b → Inside f a b e (frame_address f i) br
  open_call : {e br : ℕ} {p : ℤ} → Inside f a b (suc e) p br
  in_flight : {e br : ℕ} {p : ℤ} → 0 < br → Inside f a b e p br

-- so many steps lead from a state to another, each made inside; e counts the open routines
pub data Path (im : Image) (f : Frame) (a b : ℕ) : ℕ → ℕ → State → ℕ → State → Type 0 where
  stay : {e : ℕ} {s : State} → Path im f a b 0 e s e s
  step : {k e e1 e' : ℕ} {s s' : State} (c : Cell) → Inside f a b e s.pc s.br
      → fetch im.code s.pc ≡ Some c → stop_at (Some c) s ≡ None → is_end c ≡ false
      → Level (change im.routines c s) e e1 → Path im f a b k e1 (act c s) e' s'
      → Path im f a b (suc k) e s e' s'

-- how a run of a fragment goes, with its number of steps
pub data Outcome : Type 0 where
  Done : (m : Memory) (k : ℕ) → Outcome
  Trapped : (w k : ℕ) → Outcome
  Bad : (a k : ℕ) → Outcome
  Still : (k : ℕ) → Outcome

abbrev pub near_end : Bool → ℕ → ℕ → ℕ
near_end false a b = a
near_end true a b = b

abbrev pub far_end : Bool → ℕ → ℕ → ℕ
far_end false a b = b
far_end true a b = a

-- from gap i to gap j in the direction d, in k steps, each inside the cells from a to b
pub record Way (im : Image) (f : Frame) (d : Bool) (a b k i : ℕ) (m : Memory) (j : ℕ)
    (m' : Memory) : Type 0 where
  pub path : Path im f a b k 0 (at f d i m) 0 (at f d j m')

-- from gap i the run makes k steps inside, and stops
pub record Halts (im : Image) (f : Frame) (d : Bool) (a b k i : ℕ) (m : Memory)
    (why : Stop) : Type 0 where
  pub last : State
  pub depth : ℕ
  pub path : Path im f a b k 0 (at f d i m) depth last
  pub stops : stop im.code last ≡ Some why
  pub inside : Inside f a b depth last.pc last.br

-- from gap i the run makes k steps inside, and may go on
pub record Goes_on (im : Image) (f : Frame) (d : Bool) (a b k i : ℕ) (m : Memory) : Type 0 where
  pub last : State
  pub depth : ℕ
  pub path : Path im f a b k 0 (at f d i m) depth last

-- from gap i, a run inside the cells from a to b goes so, and if it leaves, it leaves at gap j
pub data Ends (im : Image) (f : Frame) (d : Bool) (a b i : ℕ) (m : Memory) (j : ℕ) : Outcome
    → Type 0 where
  finishes : {m' : Memory} {k : ℕ} → Way im f d a b k i m j m' → Ends im f d a b i m j (Done m' k)
  traps : {w k : ℕ} → Halts im f d a b k i m (Trap w) → Ends im f d a b i m j (Trapped w k)
  bad : {w k : ℕ} → Halts im f d a b k i m (BadAddress w) → Ends im f d a b i m j (Bad w k)
  still : {k : ℕ} → Goes_on im f d a b k i m → Ends im f d a b i m j (Still k)

-- the fragment, at any code address, run forward or backward from this memory, has this outcome
pub record Runs (im : Image) (p : List Symbol) (d : Bool) (m : Memory) (o : Outcome) : Type 0 where
  pub run : (f : Frame) (i : ℕ) → i + length p < 2 ^ 30 → Stands im f i p
      → Ends im f d i (i + length p) (near_end d i (i + length p)) m (far_end d i (i + length p)) o

-- the fragment, at any code address, run forward or backward from this memory, has one of these
-- outcomes
pub record Will (im : Image) (p : List Symbol) (d : Bool) (m : Memory)
    (Q : Outcome → Type 0) : Type 0 where
  pub will : (f : Frame) (i : ℕ) → i + length p < 2 ^ 30 → Stands im f i p → (o : Outcome)
      × Ends im f d i (i + length p) (near_end d i (i + length p)) m (far_end d i (i + length p)) o
      × Q o

-- the steps of an outcome, and more before or after
abbrev pub outcome_after : ℕ → Outcome → Outcome
outcome_after n (Done m k) = Done m (n + k)
outcome_after n (Trapped w k) = Trapped w (n + k)
outcome_after n (Bad w k) = Bad w (n + k)
outcome_after n (Still k) = Still (n + k)

-- one run and, where it leaves, the next
abbrev pub then_do : Outcome → (Memory → Outcome) → Outcome
then_do (Done m k) g = outcome_after k (g m)
then_do (Trapped w k) g = Trapped w k
then_do (Bad w k) g = Bad w k
then_do (Still k) g = Still k

-- so many steps before, and so many after where it leaves
abbrev pub outcome_around : ℕ → ℕ → Outcome → Outcome
outcome_around x y o = outcome_after x (then_do o (λ m. Done m y))

-- a run that does not leave
abbrev pub IsOutcomeOver : Outcome → Type 0
IsOutcomeOver (Done m k) = ⊥
IsOutcomeOver (Trapped w k) = Unit {0}
IsOutcomeOver (Bad w k) = Unit {0}
IsOutcomeOver (Still k) = Unit {0}

-- the steps between head and tail, and between tail and head
abbrev pub to_tail : Bool → ℕ
to_tail false = 4
to_tail true = 2

abbrev pub to_head : Bool → ℕ
to_head false = 2
to_head true = 4

-- how many steps come before and after the part that is run if the register is 0
abbrev pub around_no : Bool → Outcome → Outcome
around_no false o = outcome_around 2 4 o
around_no true o = outcome_around 4 2 o
