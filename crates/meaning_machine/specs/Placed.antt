-- The valid configurations of a run: each block is the one that its enclosing statement has.
use Rattle.std.specs.Prelude.{◌≡◌, ℕ, Bool, List, [], ◌∷◌, Option, Some, if◌then◌else◌}
use Rattle.meaning_points.specs.rpp_tree.declared.tree.Ident.{Ident}
use Rattle.meaning_points.specs.rpp_tree.declared.tree.Var.{Var}
use Rattle.meaning_points.specs.rpp_tree.Tree.{Expression, Null, Lvalue, Item, Statement, Statements, If, From}
use Rattle.meaning_points.specs.rpp_tree.Tree.{Construct, Local, Call, End, Then}
use Rattle.meaning_points.specs.roopl_semantics.Run.{Done}
use Rattle.meaning_points.specs.roopl_semantics.Store.{Value, State}
use Rattle.meaning_points.specs.roopl_semantics.Value.{Cell}
use Rattle.meaning_points.specs.roopl_semantics.Execution.{Setting, constructed, element_name, element_call}
use Rattle.meaning_machine.specs.Machine.{Caller, OpenPart, Chosen, First, Again, Holding, Calling}
use Rattle.meaning_machine.specs.Machine.{Open}
use Rattle.meaning_machine.specs.Machine.{Config, next}
use Rattle.meaning_machine.specs.MachineLaws.{config_before}
use Rattle.meaning_machine.specs.Turned.{turn, unwound, StepsBack}

-- the block that runs in a part of an open statement; that of a call is a method's
pub data RunsIn : Statement → OpenPart → Statements → Type 0 where
  side : (at : ℕ) (test : Expression) (taken other : Statements) (after : Expression) (b : Bool)
      → RunsIn (If at test taken other after) (Chosen b test after) (if b then taken else other)
  first : (at : ℕ) (entry : Expression) (one two : Statements) (exit : Expression)
      → RunsIn (From at entry one two exit) (First entry one two exit) one
  again : (at : ℕ) (entry : Expression) (one two : Statements) (exit : Expression)
      → RunsIn (From at entry one two exit) (Again entry one two exit) two
  object : (at : ℕ) (class name : Ident) (body : Statements) (end : Ident)
      → RunsIn (Construct at class name body end) (Holding name.text (Null at) (Null at))
      (constructed at class name body)
  local : (at : ℕ) (var : Var) (value : Expression) (body : Statements) (end_var : Var)
      (end_value : Expression) (name : List ℕ)
      → RunsIn (Local at var value body end_var end_value) (Holding name value end_value) body
  element : (at : ℕ) (back : Bool) (name : Ident) (index : Expression) (method : Ident)
      (args : List Ident)
      → RunsIn (Call at back (Some (Item name index)) method args)
      (Holding (element_name at).text (Null at) (Null at))
      (element_call at back name index method args)
  body : (at : ℕ) (back : Bool) (receiver : Option Lvalue) (method : Ident) (args : List Ident)
      (caller : Caller) (cells others : List Cell) (held : List Value) (block : Statements)
      → RunsIn (Call at back receiver method args) (Calling caller cells others held) block

-- a block is inside of these enclosing statements, the innermost first
abbrev pub IsBodyPlaced : Statements → List Open → Type 0
IsBodyPlaced block [] = Unit {0}
IsBodyPlaced block (o ∷ around) = RunsIn o.here o.part block
    × IsBodyPlaced (unwound o.past (Then o.here o.rest)) around

-- the valid configurations of a run
pub record IsConfigPlaced (x : Config) : Type 0 where
  pub stands : IsBodyPlaced (unwound x.past x.rest) x.around

-- this holds at the start; a step keeps it, and so does reversing
pub record StaysPlaced : Type 0 where
  pub start : (body : Statements) (params : ℕ) (st : State)
      → IsConfigPlaced (config_before End body params [] st)
  pub step : (setting : Setting) (x y : Config) (cost : ℕ)
      → IsConfigPlaced x → next setting x ≡ Done y cost → IsConfigPlaced y
  pub turned : (x : Config) → IsConfigPlaced x → IsConfigPlaced (turn x)

-- what is reversed twice is as it was
abbrev pub TurnsTwice : Type 0
TurnsTwice = (x : Config) → turn (turn x) ≡ x

-- whether a statement is a choice or a loop
abbrev pub IsBranch : Statement → Type 0
IsBranch (If at test taken other after) = Unit {0}
IsBranch (From at entry one two exit) = Unit {0}
IsBranch _ = ⊥

abbrev pub IsBranchPart : OpenPart → Type 0
IsBranchPart (Chosen b test after) = Unit {0}
IsBranchPart (First entry one two exit) = Unit {0}
IsBranchPart (Again entry one two exit) = Unit {0}
IsBranchPart _ = ⊥

-- whether the next step is one of a choice or a loop: into it, out of it, or to another part of it
abbrev pub Branches : Statements → List Open → Type 0
Branches (Then s rest) around = IsBranch s
Branches End [] = ⊥
Branches End (o ∷ around) = IsBranchPart o.part

-- in each valid configuration, a step of the reversed machine undoes a step of a choice or a loop
abbrev pub BranchesStepBack : Type 0
BranchesStepBack =
    (setting : Setting) (x y : Config) (cost : ℕ)
    → IsConfigPlaced x → next setting x ≡ Done y cost → Branches x.rest x.around
    → StepsBack setting x y
