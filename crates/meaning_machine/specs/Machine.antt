-- A machine for the source: a list holds what is active, and one step does one part of a statement.
use Rattle.std.specs.Prelude.{ℕ, zero, suc, ◌+◌, Bool, true, false, not, List, [], ◌∷◌, ◌++◌}
use Rattle.std.specs.Prelude.{length, map, Option, Some, None, if◌then◌else◌}
use Rattle.meaning_points.specs.rpp_tree.declared.tree.Ident.{Ident}
use Rattle.meaning_points.specs.rpp_tree.Tree.{Expression, Null, Lvalue, Whole, Item, Statement, Statements}
use Rattle.meaning_points.specs.rpp_tree.Tree.{Update, Swap, If, From, Construct, Local, New, Delete, Copy, Uncopy}
use Rattle.meaning_points.specs.rpp_tree.Tree.{Call, Skip, End, Then, Procedure}
use Rattle.meaning_points.specs.class_rules.Classes.{method_named}
use Rattle.meaning_points.specs.roopl_semantics.Run.{Run, More, ◌>>=◌, give, spend, fault_if}
use Rattle.meaning_points.specs.roopl_semantics.Store.{Value, Binding, State, is_nil, number_of, same_value}
use Rattle.meaning_points.specs.roopl_semantics.Value.{Cell, Slot, NIL, cell_named, own_class, read}
use Rattle.meaning_points.specs.roopl_semantics.Value.{evaluated}
use Rattle.meaning_points.specs.roopl_semantics.Execution.{Setting, FI, LOOP, DELOCAL}
use Rattle.meaning_points.specs.roopl_semantics.Execution.{TOO_DEEP, holds, bound, opened, closed, moved_out}
use Rattle.meaning_points.specs.roopl_semantics.Execution.{moved_back, in_direction, cells_named, class_of}
use Rattle.meaning_points.specs.roopl_semantics.Execution.{is_too_deep, constructed, element_name, element_call}
use Rattle.meaning_points.specs.roopl_semantics.Execution.{statement}
use Rattle.meaning_points.specs.Points.{Point, points_behind, begin_points}

-- the caller of an active call, except for the store: its variables, its object, the number of its
-- calls, and its number of parameters
pub record Caller : Type 0 where
  pub frame : List Binding
  pub self : ℕ
  pub depth : ℕ
  pub params : ℕ

-- which part of an open statement runs
pub data OpenPart : Type 0 where
  Chosen : (side : Bool) (test after : Expression) → OpenPart
  First : (entry : Expression) (first again : Statements) (exit : Expression) → OpenPart
  Again : (entry : Expression) (first again : Statements) (exit : Expression) → OpenPart
  Holding : (name : List ℕ) (value end_value : Expression) → OpenPart
  Calling : (caller : Caller) (receiver args : List Cell) (held : List Value) → OpenPart

-- an open statement, between those of its block: those that are past, the last one first, and the
-- rest
pub record Open : Type 0 where
  pub past : Statements
  pub here : Statement
  pub rest : Statements
  pub part : OpenPart

-- the state of a run: a block, a method with so many parameters, a state, and the enclosing
-- statements, the innermost first
pub record Config : Type 0 where
  pub past : Statements
  pub rest : Statements
  pub params : ℕ
  pub state : State
  pub around : List Open

-- after a statement of the block
abbrev pub past_it : Config → Statement → Statements → State → Config
past_it x s rest st = record x { past = Then s x.past; rest = rest; state = st }

-- at the beginning of a block in a statement of the block
abbrev pub inside : Config → Statement → Statements → OpenPart → Statements → State → Config
inside x s rest part body st = record {
  past = End;
  rest = body;
  params = x.params;
  state = st;
  around = record { past = x.past; here = s; rest = rest; part = part } ∷ x.around;
}

-- at the beginning of a block in the innermost open statement
abbrev pub turned_to : Config → Open → List Open → OpenPart → Statements → Config
turned_to x o around part body = record x {
  past = End;
  rest = body;
  around = record o { part = part } ∷ around;
}

-- after the innermost enclosing statement
abbrev pub left : Open → List Open → ℕ → State → Config
left o around params st = record {
  past = Then o.here o.past;
  rest = o.rest;
  params = params;
  state = st;
  around = around;
}

module _ (setting : Setting) where
  -- a statement that holds no block, and is no call
  abbrev pub simply : Config → Statement → Statements → Run Config
  simply x s rest = do
    st ← statement setting 0 (λ body st. More) s x.state
    give (past_it x s rest st)

  -- a local variable appears
  abbrev pub held_local : Config → Statement → Statements → List ℕ → Expression → Statements
      → Expression → Run Config
  held_local x s rest name value body end_value = do
    v ← evaluated setting.program value x.state
    give (inside x s rest (Holding name value end_value) body (opened name v x.state))

  -- a method begins on an object
  abbrev pub entered : Config → Statement → Statements → Bool → Procedure → ℕ → List Cell
      → List Cell → Config
  entered x s rest back method self receiver args =
      let st = x.state in
      let caller = moved_out (receiver ++ args) st in
      let frame = bound method.params (map (read st) args) in
      record {
        past = End;
        rest = in_direction back method.body;
        params = length frame;
        state = record {
          frame = frame;
          self = self;
          depth = 1 + st.depth;
          store = caller.store;
          log = caller.log;
        };
        around = record {
          past = x.past;
          here = s;
          rest = rest;
          part = Calling (record {
            frame = caller.frame;
            self = caller.self;
            depth = caller.depth;
            params = x.params;
          }) receiver args (map (read st) receiver);
        } ∷ x.around;
      }

  -- a call begins
  abbrev pub called : Config → Statement → Statements → ℕ → Bool → Option Lvalue → Ident
      → List Ident → Run Config
  called x s rest at back None method args = do
    _ ← spend (length args)
    _ ← fault_if TOO_DEEP (is_too_deep setting x.state)
    give (entered x s rest back (method_named setting.program (own_class x.state) method.text)
        x.state.self [] (cells_named setting x.state args))
  called x s rest at back (Some (Whole name)) method args = do
    _ ← spend (length args)
    let cell = cell_named setting.program x.state name.text
    let self = number_of (read x.state cell)
    _ ← fault_if NIL (is_nil (read x.state cell))
    _ ← fault_if TOO_DEEP (is_too_deep setting x.state)
    give (entered x s rest back
        (method_named setting.program (class_of setting x.state self) method.text) self (cell ∷ [])
        (cells_named setting x.state args))
  called x s rest at back (Some (Item name index)) method args =
      held_local x s rest (element_name at).text (Null at)
      (element_call at back name index method args) (Null at)

  -- a statement of the block begins
  abbrev pub begun : Config → Statement → Statements → Run Config
  begun x (Update at op target value) rest = simply x (Update at op target value) rest
  begun x (Swap at l r) rest = simply x (Swap at l r) rest
  begun x (If at test taken other after) rest = do
    v ← evaluated setting.program test x.state
    give (inside x (If at test taken other after) rest (Chosen (holds v) test after)
        (if holds v then taken else other) x.state)
  begun x (From at entry first again exit) rest = do
    v ← evaluated setting.program entry x.state
    _ ← fault_if LOOP (not (holds v))
    give (inside x (From at entry first again exit) rest (First entry first again exit) first
        x.state)
  begun x (Construct at class name body end) rest =
      held_local x (Construct at class name body end) rest name.text (Null at)
      (constructed at class name body) (Null at)
  begun x (Local at var value body end_var end_value) rest =
      held_local x (Local at var value body end_var end_value) rest var.name.text value body
      end_value
  begun x (New at made target) rest = simply x (New at made target) rest
  begun x (Delete at made target) rest = simply x (Delete at made target) rest
  begun x (Copy at kind source target) rest = simply x (Copy at kind source target) rest
  begun x (Uncopy at kind source target) rest = simply x (Uncopy at kind source target) rest
  begun x (Call at back receiver method args) rest =
      called x (Call at back receiver method args) rest at back receiver method args
  begun x (Skip at) rest = simply x (Skip at) rest

  -- after the first block of a loop: the loop is left if the exit condition holds
  abbrev pub turned_first : Config → Open → List Open → OpenPart → Statements → Bool → Config
  turned_first x o around part again true = left o around x.params x.state
  turned_first x o around part again false = turned_to x o around part again

  -- the last statement of a block in the innermost open statement is past
  abbrev pub ended : Config → Open → List Open → OpenPart → Run Config
  ended x o around (Chosen side test after) = do
    w ← evaluated setting.program after x.state
    _ ← fault_if FI (if side then not (holds w) else holds w)
    give (left o around x.params x.state)
  ended x o around (First entry first again exit) = do
    v ← evaluated setting.program exit x.state
    give (turned_first x o around (Again entry first again exit) again (holds v))
  ended x o around (Again entry first again exit) = do
    v ← evaluated setting.program entry x.state
    _ ← fault_if LOOP (holds v)
    give (turned_to x o around (First entry first again exit) first)
  ended x o around (Holding name value end_value) = do
    w ← evaluated setting.program end_value x.state
    _ ← fault_if DELOCAL (not (same_value (read x.state (Slot 0)) w))
    give (left o around x.params (closed x.state))
  ended x o around (Calling caller receiver args held) = do
    st ← moved_back (receiver ++ args)
        (held ++ map (λ binding. binding.value) x.state.frame)
        (record {
          frame = caller.frame;
          self = caller.self;
          depth = caller.depth;
          store = x.state.store;
          log = x.state.log;
        })
    give (left o around caller.params st)

  -- the end of a block: nothing is done if no statement is open
  abbrev pub closing : Config → List Open → Run Config
  closing x [] = give x
  closing x (o ∷ around) = ended x o around o.part

  -- a step, by what is left of the block
  abbrev pub stepped : Config → Statements → Run Config
  stepped x End = closing x x.around
  stepped x (Then s rest) = do
    _ ← spend 1
    begun x s rest

  abbrev pub next : Config → Run Config
  next x = stepped x x.rest

  -- so many steps
  abbrev pub walk : ℕ → Config → Run Config
  walk zero x = give x
  walk (suc m) x = next x >>= walk m

  -- the trace point of a run: that of the statement that begins
  abbrev pub point_of : ℕ → State → Statements → List Point
  point_of params st End = []
  point_of params st (Then s rest) = begin_points params s st

  -- the trace points from which so many steps begin
  abbrev pub seen : ℕ → Config → List Point
  seen zero x = []
  seen (suc m) x = point_of x.params x.state x.rest ++ points_behind (next x) (seen m)
