-- The form of a law of a code fragment of a program: what it does at any code address of an image,
-- in both directions. Each crate proves its own fragments against this form, from the laws of their
-- parts, and knows no other crate's fragments.
use Rattle.std.specs.Prelude.{◌≡◌, ℕ, suc, bit_xor, ◌<◌, ◌^◌, Bool, true, false, List, [], ◌∷◌}
use Rattle.refine_frame.specs.rpp_tree.declared.tree.Ident.{Ident}
use Rattle.refine_frame.specs.rpp_tree.declared.tree.Var.{Var}
use Rattle.refine_frame.specs.rpp_tree.Tree.{Expression, Statement, Statements, Procedure}
use Rattle.refine_frame.specs.inverse_rules.Inverse.{inverse_statement}
use Rattle.refine_frame.specs.pisa_isa.Machine.{Memory}
use Rattle.paired_code.specs.declared.part.Symbol.{Symbol}
use Rattle.paired_code.specs.Machine.{Image}
use Rattle.paired_code.specs.Layout.{bool_xor}
use Rattle.paired_code.specs.Pieces.{Will}
use Rattle.paired_code.specs.Does.{Rates, RunResult, Fine, Fault, More, Meets, Does}
use Rattle.refine_frame.specs.roopl_semantics.Value.{evaluated}
use Rattle.refine_frame.specs.roopl_semantics.Run.{Run, Done, Fault as FaultRun, More as MoreRun, after_cost}
use Rattle.refine_frame.specs.roopl_semantics.Run.{◌>>=◌, give}
use Rattle.refine_frame.specs.roopl_semantics.Store.{Value, State}
use Rattle.refine_frame.specs.roopl_semantics.Execution.{Setting, exec, statement, in_direction, holds}

-- ---- what the source says

-- a run of the source, as an outcome of fragments
abbrev pub run_result : {A : Type 0} → Run A → RunResult A
run_result (Done a c) = Fine a c
run_result (FaultRun w c) = Fault w c
run_result MoreRun = More

-- a statement with the count of 1 that it makes in a block; its blocks run with fuel n
abbrev pub one : Setting → ℕ → Statement → State → Run State
one setting n s st = after_cost 1 (statement setting n (exec setting n) s st)

-- the statement, or its inverse if the fragment is run backward
abbrev pub turned_statement : Bool → Statement → Statement
turned_statement false s = s
turned_statement true s = inverse_statement s

-- whether an expression is true, with its faults and what it costs
abbrev pub tested : Setting → Expression → State → Run Bool
tested setting e st = evaluated setting.program e st >>= λ v. give (holds v)

-- ---- where fragments run

-- what holds for a method when its code is made: its class, and the variables in scope, innermost
-- first
pub record Scope : Type 0 where
  pub class : ℕ
  pub vars : List Var

-- with one more variable, the innermost
abbrev pub with_var : Scope → Var → Scope
with_var s var = record s { vars = var ∷ s.vars }

-- the routines of an image that run methods; other routines may be next to them
pub record MethodRoutines : Type 0 where
  pub count : ℕ
  -- its number among all routines of the image
  pub number : ℕ → ℕ
  pub scope : ℕ → Scope
  pub method : ℕ → Procedure
  pub body : ℕ → List Symbol
  -- where it begins in the code; its place is the next one
  pub top : ℕ → ℕ

-- a value that has moved from a variable into the frame above
pub record Moved : Type 0 where
  pub from : Ident
  pub value : Value

-- the variables with their values
abbrev pub pairs : List Ident → List Value → List Moved
pairs [] values = []
pairs (name ∷ names) [] = []
pairs (name ∷ names) (v ∷ values) = record { from = name; value = v } ∷ pairs names values

-- The program with its limits, the image, the rates of steps and cost units, and how cells
-- represent a current frame.
pub record World : Type 1 where
  pub setting : Setting
  pub im : Image
  pub rates : Rates
  pub routines : MethodRoutines
  -- what stays while a frame is open: the frames below, its object with its class, its address,
  -- what is saved in it
  pub Under : Type 0
  pub object_of : Under → ℕ
  pub frame_of : Under → ℕ
  -- nothing is saved in the frame yet
  pub IsFresh : Under → Type 0
  -- the cells are those of this current frame; these values, moved there from it, are in the frame
  -- above
  pub opens : Scope → Under → List Moved → State → List ℕ → Type 0
  -- the same except for reference counts, which may be off: expressions can be read
  pub reads : Scope → Under → State → List ℕ → Type 0
  pub are_read : (s : Scope) (u : Under) (st : State) (cells : List ℕ) → opens s u [] st cells
      → reads s u st cells
  -- the word that represents a value
  pub word_of : Under → State → Value → ℕ

-- The 32 registers: the link of a call in register 2, the addresses of the current object and of
-- the current frame in 3 and 4, and two more addresses in 5 and 6. A word is in 8, a flag in 11, a
-- routine's code address in 12. The rest is 0.
abbrev pub registers : (link object frame at at' word flag place : ℕ) → List ℕ
registers link object frame at at' word flag place =
    0 ∷ 0 ∷ link ∷ object ∷ frame ∷ at ∷ at' ∷ 0 ∷ word ∷ 0 ∷ 0 ∷ flag ∷ place ∷ 0 ∷ 0 ∷ 0
    ∷ 0 ∷ 0 ∷ 0 ∷ 0 ∷ 0 ∷ 0 ∷ 0 ∷ 0 ∷ 0 ∷ 0 ∷ 0 ∷ 0 ∷ 0 ∷ 0 ∷ 0 ∷ 0 ∷ []

-- between statements: the two addresses are in their registers, all others are 0
pub record HasOpenFrame (w : World) (s : Scope) (u : w.Under) (st : State) (m : Memory) : Type 0 where
  pub regs_are : m.regs ≡ registers 0 (w.object_of u) (w.frame_of u) 0 0 0 0 0
  pub open_frame : w.opens s u [] st m.cells

-- at the ends of a routine's body: the link, and the place by which it was called
pub record Entered (w : World) (s : Scope) (u : w.Under) (link place : ℕ) (st : State)
    (m : Memory) : Type 0 where
  pub regs_are : m.regs ≡ registers link (w.object_of u) (w.frame_of u) 0 0 0 0 place
  pub open_frame : w.opens s u [] st m.cells

-- ---- statements, blocks, methods

-- the steps that a body may make in addition to those of its statements
abbrev pub body_slack : ℕ
body_slack = 40

-- a routine's body with fuel k, in both directions, wherever it was called
abbrev pub RunsBody : World → Scope → Procedure → List Symbol → ℕ → Type 0
RunsBody w s method p k =
    (d : Bool) (u : w.Under) (link place : ℕ) → w.IsFresh u → 0 < link → link < 2 ^ 32
    → place < 2 ^ 32
    → Does w.im p d (Entered w s u link place) (Entered w s u link place) w.rates k body_slack
    (λ st. run_result (exec w.setting k (in_direction d method.body) st))

-- what is assumed about the routines of the image for less fuel than n
abbrev pub Owes : World → ℕ → Type 0
Owes w n =
    (k : ℕ) → k < n → (r : ℕ) → r < w.routines.count
    → RunsBody w (w.routines.scope r) (w.routines.method r) (w.routines.body r) k

-- The code of a statement. Run forward it does what the source says of the statement, run backward
-- what the source says of its inverse. It leaves at the far end with the state's memory, stops at
-- the fault, or goes on.
abbrev pub StmtLaw : World → Scope → Statement → List Symbol → Type 0
StmtLaw w s stmt p =
    (n : ℕ) → Owes w (suc n) → (d : Bool) (u : w.Under)
    → Does w.im p d (HasOpenFrame w s u) (HasOpenFrame w s u)
    w.rates (suc n) 0 (λ st. run_result (one w.setting n (turned_statement d stmt) st))

-- the code of a block
abbrev pub BlockLaw : World → Scope → Statements → List Symbol → Type 0
BlockLaw w s body p =
    (n : ℕ) → Owes w n → (d : Bool) (u : w.Under)
    → Does w.im p d (HasOpenFrame w s u) (HasOpenFrame w s u) w.rates n 0
    (λ st. run_result (exec w.setting n (in_direction d body) st))

-- the code of a method
abbrev pub MethodLaw : World → Scope → Procedure → List Symbol → Type 0
MethodLaw w s method p = (n : ℕ) → Owes w n → RunsBody w s method p n

-- each routine's body has the law of its method
abbrev pub AllMethods : World → Type 0
AllMethods w =
    (r : ℕ) → r < w.routines.count → MethodLaw w (w.routines.scope r) (w.routines.method r)
    (w.routines.body r)

-- ---- conditions and values

-- conditions and values make at most 400 steps for a count, and 50 more
abbrev pub test_rates : World → Rates
test_rates w = record { counts = w.rates.counts; steps = 400 }

abbrev pub test_slack : ℕ
test_slack = 50

abbrev pub bit : Bool → ℕ
bit false = 0
bit true = 1

-- the memory of a current frame with a flag in register 11
abbrev pub flagged : (w : World) → w.Under → Bool → List ℕ → Memory
flagged w u v cells = record {
  regs = registers 0 (w.object_of u) (w.frame_of u) 0 0 0 (bit v) 0;
  cells = cells;
}

-- the code of a condition xors the truth value of an expression into the flag, in both directions,
-- and changes nothing else
abbrev pub TestLaw : World → Scope → Expression → List Symbol → Type 0
TestLaw w s e p =
    (n : ℕ) (d : Bool) (u : w.Under) (v : Bool) (st : State) (cells : List ℕ) → w.reads s u st cells
    → Will w.im p d (flagged w u v cells)
    (Meets (λ t m. m ≡ flagged w u (bool_xor v t) cells) (test_rates w) n test_slack
    (run_result (tested w.setting e st)))

-- the memory of a current frame with a word in register 12, the one of places, which is free there
abbrev pub holding : (w : World) → w.Under → ℕ → List ℕ → Memory
holding w u x cells = record {
  regs = registers 0 (w.object_of u) (w.frame_of u) 0 0 0 0 x;
  cells = cells;
}

-- the code of a value xors its word into that register, in both directions, and changes nothing
-- else
abbrev pub ValueLaw : World → Scope → Expression → List Symbol → Type 0
ValueLaw w s e p =
    (n : ℕ) (d : Bool) (u : w.Under) (x : ℕ) (st : State) (cells : List ℕ) → w.reads s u st cells
    → Will w.im p d (holding w u x cells)
    (Meets (λ v m. m ≡ holding w u (bit_xor x (w.word_of u st v)) cells) (test_rates w) n test_slack
    (run_result (evaluated w.setting.program e st)))
