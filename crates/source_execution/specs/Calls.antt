-- The active calls at a position.
use Rattle.std.specs.Prelude.{ℕ, nat_eq, Bool, true, false, List, [], ◌∷◌, ◌++◌, reverse}
use Rattle.std.specs.Prelude.{if◌then◌else◌, Option, Some, None}
use Rattle.source_statements.specs.rpp_tree.Tree.{Statement, Call}
use Rattle.source_statements.specs.rpp_tree.Places.{statement_place}
use Rattle.source_checks.specs.roopl_semantics.Store.{Binding}
use Rattle.source_checks.specs.meaning_machine.Machine.{Caller, Config, Open, OpenPart, Calling}
use Rattle.source_execution.specs.Standing.{next_place}

-- an active call: the offset of the statement of it that runs, if one does, its object, how many
-- calls are active with it, and whether its text runs backward
pub record Active : Type 0 where
  pub place : Option ℕ
  pub object : ℕ
  pub depth : ℕ
  pub back : Bool

-- whether a statement calls a method backward
abbrev pub is_back : Statement → Bool
is_back (Call at back receiver method args) = back
is_back s = false

-- the call whose statement is open, if it is a call that is active in this direction
abbrev pub caller_in : (here : Statement) → (back : Bool) → OpenPart → List Active
caller_in here back (Calling caller receiver args held) = record {
  place = Some (statement_place here);
  object = caller.self;
  depth = caller.depth;
  back = back;
} ∷ []
caller_in here back part = []

-- the direction inside an open statement that runs in this direction
abbrev pub back_inside : (here : Statement) → (back : Bool) → OpenPart → Bool
back_inside here back (Calling caller receiver args held) = is_back here
back_inside here back part = back

-- the active calls, the outermost first: those of open statements in this order, and the innermost
abbrev pub calls_along : (back : Bool) → List Open → (Bool → Active) → List Active
calls_along back [] inmost = inmost back ∷ []
calls_along back (o ∷ inner) inmost =
    caller_in o.here back o.part ++ calls_along (back_inside o.here back o.part) inner inmost

abbrev pub innermost_call : Config → (back : Bool) → Active
innermost_call x back = record {
  place = next_place x.rest;
  object = x.state.self;
  depth = x.state.depth;
  back = back;
}

abbrev pub active_calls : Config → List Active
active_calls x = calls_along false (reverse x.around) (innermost_call x)

-- ---- the variables of one of them

-- its object, how many parameters its method has, and its variables, the innermost first
pub record CallState : Type 0 where
  pub self : ℕ
  pub params : ℕ
  pub frame : List Binding

abbrev pub inside_caller : Caller → CallState
inside_caller caller = record { self = caller.self; params = caller.params; frame = caller.frame }

abbrev pub inside_innermost : Config → CallState
inside_innermost x = record { self = x.state.self; params = x.params; frame = x.state.frame }

-- that of a call that is active as this many are, if the open statement is such a call
abbrev pub inside_part : ℕ → OpenPart → Option CallState
inside_part depth (Calling caller receiver args held) =
    if nat_eq caller.depth depth then Some (inside_caller caller) else None
inside_part depth part = None

abbrev pub or_inner : Option CallState → Option CallState → Option CallState
or_inner (Some it) other = Some it
or_inner None other = other

abbrev pub inside_along : ℕ → List Open → (inmost : Option CallState) → Option CallState
inside_along depth [] inmost = inmost
inside_along depth (o ∷ inner) inmost =
    or_inner (inside_part depth o.part) (inside_along depth inner inmost)

abbrev pub inside_last : ℕ → Config → Option CallState
inside_last depth x = if nat_eq x.state.depth depth then Some (inside_innermost x) else None

-- that of the call with so many active calls, if there is one
abbrev pub inside_call : ℕ → Config → Option CallState
inside_call depth x = inside_along depth (reverse x.around) (inside_last depth x)
