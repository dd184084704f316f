-- Laws of the machine.
use Rattle.std.specs.Prelude.{◌≡◌, ◌≤◌, ℕ, List}
use Rattle.meaning_points.specs.rpp_tree.Tree.{Statements, End, Then}
use Rattle.meaning_points.specs.roopl_semantics.Run.{Run, Done, Fault, More}
use Rattle.meaning_points.specs.roopl_semantics.Store.{State}
use Rattle.meaning_points.specs.roopl_semantics.Execution.{Setting, exec}
use Rattle.meaning_points.specs.Points.{Point, points}
use Rattle.meaning_machine.specs.Machine.{Config, Open, walk, seen}

-- the statements of a block after those that are past, the last one first
abbrev pub gone_past : Statements → Statements → Statements
gone_past End past = past
gone_past (Then s rest) past = gone_past rest (Then s past)

-- where a block begins, after statements of its own block
abbrev pub config_before : Statements → Statements → ℕ → List Open → State → Config
config_before past body params around st =
    record { past = past; rest = body; params = params; state = st; around = around }

-- where it is past
abbrev pub config_after : Statements → Statements → ℕ → List Open → State → Config
config_after past body params around st =
    record { past = gone_past body past; rest = End; params = params; state = st; around = around }

-- some number of steps leads past the block, at the same cost, and along the same trace points
pub record Arrives (setting : Setting) (x y : Config) (cost : ℕ) (ps : List Point) : Type 0 where
  pub steps : ℕ
  pub walks : walk setting steps x ≡ Done y cost
  pub points : seen setting steps x ≡ ps

-- some number of steps leads to the same fault, at the same cost, and along the same trace points
pub record Breaks (setting : Setting) (x : Config) (code cost : ℕ) (ps : List Point) : Type 0 where
  pub steps : ℕ
  pub walks : walk setting steps x ≡ Fault code cost
  pub points : seen setting steps x ≡ ps

-- some number of steps costs at least the bound, and goes along these trace points
pub record GoesOn (setting : Setting) (x : Config) (bound : ℕ) (ps : List Point) : Type 0 where
  pub to : Config
  pub steps : ℕ
  pub cost : ℕ
  pub walks : walk setting steps x ≡ Done to cost
  pub enough : bound ≤ cost
  pub points : seen setting steps x ≡ ps

-- what the machine does from a configuration, by what a run gives: its end state is that of a later
-- configuration
abbrev pub MachineFollows : Setting → ℕ → Config → (State → Config) → Run State → List Point → Type 0
MachineFollows setting bound x y (Done end cost) ps = Arrives setting x (y end) cost ps
MachineFollows setting bound x y (Fault code cost) ps = Breaks setting x code cost ps
MachineFollows setting bound x y More ps = GoesOn setting x bound ps

-- The machine does what the semantics says of a block, whatever encloses it. It passes the block
-- with the same state, or stops with the same fault, at the same cost. If the bound does not
-- suffice, its steps cost at least the bound. It passes the trace points of the block, in their
-- order.
abbrev pub MachineIsMeaning : Type 0
MachineIsMeaning =
    (setting : Setting) (bound params : ℕ) (past body : Statements) (around : List Open)
    (st : State)
    → MachineFollows setting bound (config_before past body params around st) (config_after past body params around)
    (exec setting bound body st) (points setting bound params body st)
