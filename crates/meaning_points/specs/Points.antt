-- The trace points of a run: the statements as they begin, in the order in which they do.
use Rattle.std.specs.Prelude.{ℕ, zero, suc, ◌+◌, Bool, true, false, not, List, [], ◌∷◌, ◌++◌}
use Rattle.std.specs.Prelude.{length, map, Option, Some, None, if◌then◌else◌}
use Rattle.roopl_semantics.specs.rpp_tree.declared.tree.Ident.{Ident}
use Rattle.roopl_semantics.specs.rpp_tree.Tree.{Expression, Null, Lvalue, Whole, Item, Statement, Statements}
use Rattle.roopl_semantics.specs.rpp_tree.Tree.{Update, Swap, If, From, Construct, Local, New, Delete, Copy, Uncopy}
use Rattle.roopl_semantics.specs.rpp_tree.Tree.{Call, Skip, End, Then, Procedure}
use Rattle.roopl_semantics.specs.rpp_tree.Places.{statement_place}
use Rattle.roopl_semantics.specs.class_rules.Classes.{method_named}
use Rattle.roopl_semantics.specs.Run.{Run, Done, Fault, More, fault_if}
use Rattle.roopl_semantics.specs.Store.{State, is_nil, number_of}
use Rattle.roopl_semantics.specs.Value.{Cell, NIL, cell_named, own_class, read, evaluated}
use Rattle.roopl_semantics.specs.Execution.{Setting, Runner, holds, bound, opened, moved_out}
use Rattle.roopl_semantics.specs.Execution.{in_direction, cells_named, class_of, is_too_deep}
use Rattle.roopl_semantics.specs.Execution.{constructed, element_name, element_call, LOOP}
use Rattle.roopl_semantics.specs.Execution.{TOO_DEEP, statement, exec}

-- a statement that begins: its place in the text, how many parameters its method has, and the state
pub record Point : Type 0 where
  pub place : ℕ
  pub params : ℕ
  pub state : State

-- lists the trace points of a block in a method with so many parameters
abbrev pub Lister : Type 0
Lister = ℕ → Statements → State → List Point

-- what comes after a run that is done
abbrev pub points_behind : {A : Type 0} → Run A → (A → List Point) → List Point
points_behind (Done result cost) next = next result
points_behind (Fault code cost) next = []
points_behind More next = []

abbrev pub point_at : ℕ → ℕ → State → List Point
point_at at params st = record { place = at; params = params; state = st } ∷ []

-- the trace point of a statement where it begins: that of the local variable that it means, if it
-- is a `construct` or a call on an element
abbrev pub begin_points : ℕ → Statement → State → List Point
begin_points params s st = point_at (statement_place s) params st

module _ (setting : Setting) where
  -- the trace points of a method that runs on an object: of its body, or of the inverse if it is
  -- uncalled
  abbrev pub called_points : Lister → Bool → Procedure → ℕ → List Cell → List Cell → State
      → List Point
  called_points list back method self receiver args st =
      let caller = moved_out (receiver ++ args) st in
      let frame = bound method.params (map (read st) args) in
      list (length frame) (in_direction back method.body) (record
      { frame = frame; self = self; depth = 1 + st.depth; store = caller.store; log = caller.log })

  -- the trace points of a block with a local variable
  abbrev pub local_points : Lister → ℕ → List ℕ → Expression → Statements → State → List Point
  local_points list params name value body st =
      points_behind (evaluated setting.program value st) (λ v. list params body (opened name v st))

  -- the trace points of a loop's iteration after its first block: none if the exit condition holds
  abbrev pub again_points : Runner → Lister → ℕ → Expression → Statements → (State → List Point)
      → Bool → State → List Point
  again_points run list params entry again next true st = []
  again_points run list params entry again next false st =
      list params again st
      ++ points_behind (run again st) (λ end. points_behind (evaluated setting.program entry end)
      (λ v. points_behind (fault_if LOOP (holds v)) (λ u. next end)))

  -- the trace points of a loop whose entry has passed, of at most so many iterations
  abbrev pub turn_points : ℕ → Runner → Lister → ℕ → Expression → Statements → Statements
      → Expression → State → List Point
  turn_points zero run list params entry first again exit st = []
  turn_points (suc n) run list params entry first again exit st =
      list params first st
      ++ points_behind (run first st) (λ end. points_behind (evaluated setting.program exit end) (λ v.
      again_points run list params entry again
      (turn_points n run list params entry first again exit) (holds v) end))

  -- the trace points of a call, by what is called
  abbrev pub call_points : Lister → ℕ → ℕ → Bool → Option Lvalue → Ident → List Ident → State
      → List Point
  call_points list params at back None method args st =
      points_behind (fault_if TOO_DEEP (is_too_deep setting st)) (λ u.
      called_points list back (method_named setting.program (own_class st) method.text) st.self []
      (cells_named setting st args) st)
  call_points list params at back (Some (Whole name)) method args st =
      let cell = cell_named setting.program st name.text in
      let self = number_of (read st cell) in
      points_behind (fault_if NIL (is_nil (read st cell)))
      (λ u. points_behind (fault_if TOO_DEEP (is_too_deep setting st)) (λ u.
      called_points list back (method_named setting.program (class_of setting st self) method.text)
      self (cell ∷ []) (cells_named setting st args) st))
  call_points list params at back (Some (Item name index)) method args st =
      local_points list params (element_name at).text (Null at)
      (element_call at back name index method args) st

  -- the trace points of the blocks in a statement that run, one clause for each form that has some
  abbrev pub inner_points : ℕ → Runner → Lister → ℕ → Statement → State → List Point
  inner_points n run list params (Update at op target value) st = []
  inner_points n run list params (Swap at left right) st = []
  inner_points n run list params (If at test taken other after) st =
      points_behind (evaluated setting.program test st) (λ v. list params
      (if holds v then taken else other) st)
  inner_points n run list params (From at entry first again exit) st =
      points_behind (evaluated setting.program entry st)
      (λ v. points_behind (fault_if LOOP (not (holds v))) (λ u.
      turn_points n run list params entry first again exit st))
  inner_points n run list params (Construct at class name body end) st =
      local_points list params name.text (Null at) (constructed at class name body) st
  inner_points n run list params (Local at var value body end_var end_value) st =
      local_points list params var.name.text value body st
  inner_points n run list params (New at made target) st = []
  inner_points n run list params (Delete at made target) st = []
  inner_points n run list params (Copy at kind source target) st = []
  inner_points n run list params (Uncopy at kind source target) st = []
  inner_points n run list params (Call at back receiver method args) st =
      call_points list params at back receiver method args st
  inner_points n run list params (Skip at) st = []

  -- the trace points of a block, at most n statements deep and long
  abbrev pub points : ℕ → Lister
  points n params End st = []
  points zero params (Then first rest) st = []
  points (suc n) params (Then first rest) st =
      begin_points params first st ++ inner_points n (exec setting n) (points n) params first st
      ++ points_behind (statement setting n (exec setting n) first st) (points n params rest)
