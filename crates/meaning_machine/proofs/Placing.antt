-- Every step, and every reversal, keeps a valid state of a run valid.
use Rattle.std.proofs.Common.{◌≡◌, ℕ, refl, sym, ap, subst, ◌∙◌, Bool, true, false, not, List, [], ◌∷◌, ◌++◌, length}
use Rattle.std.proofs.Common.{map, Option, Some, None, if◌then◌else◌}
use Rattle.meaning_points.specs.rpp_tree.declared.tree.Ident.{Ident}
use Rattle.meaning_points.specs.rpp_tree.Tree.{Expression, Null, Lvalue, Whole, Item, Object as AnObject, Statement}
use Rattle.meaning_points.specs.rpp_tree.Tree.{Statements, If}
use Rattle.meaning_points.specs.rpp_tree.Tree.{From, Construct, Local, Delete, Call, End, Then, joined, Procedure}
use Rattle.meaning_points.specs.class_rules.Classes.{method_named}
use Rattle.meaning_points.specs.inverse_rules.Inverse.{inverse_statement, inverse}
use Rattle.meaning_points.proofs.inverse_rules_laws.Inverses.{inverse-joined, joined_assoc}
use Rattle.meaning_points.specs.roopl_semantics.Run.{Run, Done, Fault, More, after_cost, ◌>>=◌, give, spend, fault_if}
use Rattle.meaning_points.specs.roopl_semantics.Store.{State, is_nil, number_of, same_value}
use Rattle.meaning_points.specs.roopl_semantics.Value.{Cell, Slot, NIL, cell_named, own_class, read, evaluated}
use Rattle.meaning_points.specs.roopl_semantics.Execution.{Setting, FI, LOOP, DELOCAL, TOO_DEEP, holds, opened}
use Rattle.meaning_points.specs.roopl_semantics.Execution.{moved_back, cells_named, class_of, is_too_deep, constructed}
use Rattle.meaning_points.specs.roopl_semantics.Execution.{element_name, element_call, statement}
use Rattle.meaning_machine.specs.Machine.{OpenPart, Chosen, First, Again, Holding, Calling, Open, Config, inside}
use Rattle.meaning_machine.specs.Machine.{turned_first, simply, held_local, entered, called, begun, ended}
use Rattle.meaning_machine.specs.Machine.{closing, stepped, next}
use Rattle.meaning_machine.specs.MachineLaws.{config_before}
use Rattle.meaning_machine.specs.Turned.{each_undone, turned_part, turned_open, turn, unwound}
use Rattle.meaning_machine.specs.Placed.{RunsIn, side, first, again, object, local, element, body, IsBodyPlaced}
use Rattle.meaning_machine.specs.Placed.{IsConfigPlaced}
use Rattle.meaning_machine.proofs.Back.{undone_from}

-- ---- what holds for the end of a run, if it has one

abbrev pub Ends : {A : Type 0} → (A → Type 0) → Run A → Type 0
Ends P (Done a cost) = P a
Ends P (Fault code cost) = Unit {0}
Ends P More = Unit {0}

pub ends_after : {A : Type 0} (P : A → Type 0) (cost : ℕ) (r : Run A) → Ends P r → Ends P (after_cost cost r)
ends_after P cost (Done a c) h = h
ends_after P cost (Fault code c) h = tt
ends_after P cost More h = tt

ends_then : {A B : Type 0} (P : B → Type 0) (r : Run A) (f : A → Run B) → ((a : A) → Ends P (f a)) → Ends P (r >>= f)
ends_then P (Done a cost) f h = ends_after P cost (f a) (h a)
ends_then P (Fault code cost) f h = tt
ends_then P More f h = tt

pub ends_done : {A : Type 0} (P : A → Type 0) (r : Run A) (a : A) (cost : ℕ) → r ≡ Done a cost → Ends P r → P a
ends_done P r a cost e h = subst (Ends P) e h

-- ---- a step

second_of : (s : Statement) (entry : Expression) (one two block : Statements) (exit : Expression)
    → RunsIn s (First entry one two exit) block → RunsIn s (Again entry one two exit) two
second_of _ _ _ _ _ _ (first at entry one two exit) = again at entry one two exit

first_of_loop : (s : Statement) (entry : Expression) (one two block : Statements) (exit : Expression)
    → RunsIn s (Again entry one two exit) block → RunsIn s (First entry one two exit) one
first_of_loop _ _ _ _ _ _ (again at entry one two exit) = first at entry one two exit

module _ (setting : Setting) where
  -- after a statement of the block, or in a block of it
  abbrev Stands : Config → Statement → Statements → Type 0
  Stands x s rest = IsBodyPlaced (unwound x.past (Then s rest)) x.around

  simple_placed : (x : Config) (s : Statement) (rest : Statements) → Stands x s rest
      → Ends IsConfigPlaced (simply setting x s rest)
  simple_placed x s rest h =
      ends_then IsConfigPlaced (statement setting 0 (λ body st. More) s x.state) _ (λ st. record { stands = h })

  inside_placed : (x : Config) (s : Statement) (rest : Statements) (part : OpenPart) (block : Statements) (st : State)
      → RunsIn s part block → Stands x s rest → IsConfigPlaced (inside x s rest part block st)
  inside_placed x s rest part block st r h = record { stands = (r, h) }

  local_placed : (x : Config) (s : Statement) (rest : Statements) (name : List ℕ) (value : Expression)
      (block : Statements) (end_value : Expression) → RunsIn s (Holding name value end_value) block
      → Stands x s rest → Ends IsConfigPlaced (held_local setting x s rest name value block end_value)
  local_placed x s rest name value block end_value r h =
      ends_then IsConfigPlaced (evaluated setting.program value x.state) _
      (λ v. inside_placed x s rest _ block (opened name v x.state) r h)

  entered_placed : (x : Config) (rest : Statements) (at : ℕ) (back : Bool) (receiver : Option Lvalue)
      (method : Ident) (args : List Ident) (procedure : Procedure) (self : ℕ) (cells others : List Cell)
      → Stands x (Call at back receiver method args) rest
      → IsConfigPlaced (entered setting x (Call at back receiver method args) rest back procedure self cells others)
  entered_placed x rest at back receiver method args procedure self cells others h =
      record { stands = (body at back receiver method args _ _ _ _ _, h) }

  called_placed : (x : Config) (rest : Statements) (at : ℕ) (back : Bool) (receiver : Option Lvalue) (method : Ident)
      (args : List Ident) → Stands x (Call at back receiver method args) rest
      → Ends IsConfigPlaced (called setting x (Call at back receiver method args) rest at back receiver method args)
  called_placed x rest at back None method args h =
      let s = Call at back None method args in
      let procedure = method_named setting.program (own_class x.state) method.text in
      let cells = cells_named setting x.state args in
      ends_then IsConfigPlaced (spend (length args)) _ (λ u.
      ends_then IsConfigPlaced (fault_if TOO_DEEP (is_too_deep setting x.state))
      (λ w. give (entered setting x s rest back procedure x.state.self [] cells))
      (λ u. entered_placed x rest at back None method args procedure x.state.self [] cells h))
  called_placed x rest at back (Some (Whole name)) method args h =
      let s = Call at back (Some (Whole name)) method args in
      let cell = cell_named setting.program x.state name.text in
      let self = number_of (read x.state cell) in
      let procedure = method_named setting.program (class_of setting x.state self) method.text in
      let cells = cells_named setting x.state args in
      ends_then IsConfigPlaced (spend (length args)) _ (λ u.
      ends_then IsConfigPlaced (fault_if NIL (is_nil (read x.state cell))) _ (λ u.
      ends_then IsConfigPlaced (fault_if TOO_DEEP (is_too_deep setting x.state))
      (λ w. give (entered setting x s rest back procedure self (cell ∷ []) cells))
      (λ u. entered_placed x rest at back (Some (Whole name)) method args procedure self (cell ∷ []) cells h)))
  called_placed x rest at back (Some (Item name index)) method args h =
      local_placed x (Call at back (Some (Item name index)) method args) rest (element_name at).text (Null at)
      (element_call at back name index method args) (Null at) (element at back name index method args) h

  begun_placed : (x : Config) (s : Statement) (rest : Statements) → Stands x s rest
      → Ends IsConfigPlaced (begun setting x s rest)
  begun_placed x (If at test taken other after) rest h =
      ends_then IsConfigPlaced (evaluated setting.program test x.state) _
      (λ v. inside_placed x (If at test taken other after) rest _ (if holds v then taken else other) x.state
      (side at test taken other after (holds v)) h)
  begun_placed x (From at entry one two exit) rest h =
      ends_then IsConfigPlaced (evaluated setting.program entry x.state) _
      (λ v. ends_then IsConfigPlaced (fault_if LOOP (not (holds v))) _
      (λ u. inside_placed x (From at entry one two exit) rest _ one x.state (first at entry one two exit) h))
  begun_placed x (Construct at class name block end) rest h =
      local_placed x (Construct at class name block end) rest name.text (Null at) (constructed at class name block)
      (Null at) (object at class name block end) h
  begun_placed x (Local at var value block end_var end_value) rest h =
      local_placed x (Local at var value block end_var end_value) rest var.name.text value block end_value
      (local at var value block end_var end_value var.name.text) h
  begun_placed x (Call at back receiver method args) rest h = called_placed x rest at back receiver method args h
  begun_placed x s rest h = simple_placed x s rest h

  -- after the innermost enclosing statement
  abbrev Around : Open → List Open → Type 0
  Around o around = IsBodyPlaced (unwound o.past (Then o.here o.rest)) around

  loop_placed : (x : Config) (o : Open) (around : List Open) (entry : Expression) (one two block : Statements)
      (exit : Expression) (b : Bool) → RunsIn o.here (First entry one two exit) block → Around o around
      → IsConfigPlaced (turned_first setting x o around (Again entry one two exit) two b)
  loop_placed x o around entry one two block exit true r h = record { stands = h }
  loop_placed x o around entry one two block exit false r h =
      record { stands = (second_of o.here entry one two block exit r, h) }

  ended_placed : (x : Config) (o : Open) (around : List Open) (part : OpenPart) (block : Statements)
      → RunsIn o.here part block → Around o around → Ends IsConfigPlaced (ended setting x o around part)
  ended_placed x o around (Chosen b test after) block r h =
      ends_then IsConfigPlaced (evaluated setting.program after x.state) _
      (λ w. ends_then IsConfigPlaced (fault_if FI (if b then not (holds w) else holds w)) _
      (λ u. record { stands = h }))
  ended_placed x o around (First entry one two exit) block r h =
      ends_then IsConfigPlaced (evaluated setting.program exit x.state) _
      (λ v. loop_placed x o around entry one two block exit (holds v) r h)
  ended_placed x o around (Again entry one two exit) block r h =
      ends_then IsConfigPlaced (evaluated setting.program entry x.state) _
      (λ v. ends_then IsConfigPlaced (fault_if LOOP (holds v)) _
      (λ u. record { stands = (first_of_loop o.here entry one two block exit r, h) }))
  ended_placed x o around (Holding name value end_value) block r h =
      ends_then IsConfigPlaced (evaluated setting.program end_value x.state) _
      (λ w. ends_then IsConfigPlaced (fault_if DELOCAL (not (same_value (read x.state (Slot 0)) w))) _
      (λ u. record { stands = h }))
  ended_placed x o around (Calling caller receiver args held) block r h =
      ends_then IsConfigPlaced (moved_back (receiver ++ args) (held ++ map (λ binding. binding.value) x.state.frame)
      (record {
        frame = caller.frame;
        self = caller.self;
        depth = caller.depth;
        store = x.state.store;
        log = x.state.log;
      })) _
      (λ st. record { stands = h })

  closing_placed : (x : Config) (around : List Open) → x.around ≡ around → IsBodyPlaced (unwound x.past x.rest) around
      → Ends IsConfigPlaced (closing setting x around)
  closing_placed x [] e h = record { stands = subst (IsBodyPlaced (unwound x.past x.rest)) (sym e) h }
  closing_placed x (o ∷ around) e h = ended_placed x o around o.part (unwound x.past x.rest) h.0 h.1

  stepped_placed : (x : Config) (rest : Statements) → x.rest ≡ rest → IsBodyPlaced (unwound x.past x.rest) x.around
      → Ends IsConfigPlaced (stepped setting x rest)
  stepped_placed x End e h = closing_placed x x.around refl h
  stepped_placed x (Then s rest) e h =
      ends_then IsConfigPlaced (spend 1) _
      (λ u. begun_placed x s rest (subst (λ r. IsBodyPlaced (unwound x.past r) x.around) e h))

pub step_placed : (setting : Setting) (x y : Config) (cost : ℕ) → IsConfigPlaced x → next setting x ≡ Done y cost
    → IsConfigPlaced y
step_placed setting x y cost h e =
    ends_done IsConfigPlaced (next setting x) y cost e (stepped_placed setting x x.rest refl h.stands)

-- ---- turning round

unwound_undone : (rest b : Statements) → unwound (each_undone rest) b ≡ joined (inverse rest) b
unwound_undone End b = refl
unwound_undone (Then s rest) b =
    unwound_undone rest (Then (inverse_statement s) b)
    ∙ sym (joined_assoc (inverse rest) (Then (inverse_statement s) End) b)

-- the reversed block is the inverse block
turned_block : (past rest : Statements) → unwound (each_undone rest) (each_undone past) ≡ inverse (unwound past rest)
turned_block past rest = unwound_undone rest (each_undone past) ∙ sym (undone_from past rest)

constructed_undone : (at : ℕ) (class name : Ident) (block : Statements)
    → inverse (constructed at class name block) ≡ constructed at class name (inverse block)
constructed_undone at class name block =
    let gone = Delete at (AnObject class) (Whole name) in
    ap (λ b. joined b (Then gone End)) (inverse-joined true block (Then gone End))

runs_undone : (s : Statement) (part : OpenPart) (block : Statements) → RunsIn s part block
    → RunsIn (inverse_statement s) (turned_part part) (inverse block)
runs_undone _ _ _ (side at test taken other after b) = side_undone b
  where
    side_undone : (b : Bool) → RunsIn (If at after (inverse taken) (inverse other) test) (Chosen b after test)
        (inverse (if b then taken else other))
    side_undone true = side at after (inverse taken) (inverse other) test true
    side_undone false = side at after (inverse taken) (inverse other) test false
runs_undone _ _ _ (first at entry one two exit) = first at exit (inverse one) (inverse two) entry
runs_undone _ _ _ (again at entry one two exit) = again at exit (inverse one) (inverse two) entry
runs_undone _ _ _ (object at class name block end) =
    subst (RunsIn (Construct at class name (inverse block) end) (Holding name.text (Null at) (Null at)))
    (sym (constructed_undone at class name block)) (object at class name (inverse block) end)
runs_undone _ _ _ (local at var value block end_var end_value name) =
    local at end_var end_value (inverse block) var value name
runs_undone _ _ _ (element at back name index method args) = element at (not back) name index method args
runs_undone _ _ _ (body at back receiver method args caller cells others held block) =
    body at (not back) receiver method args caller cells others held (inverse block)

stands_undone : (block : Statements) (around : List Open) → IsBodyPlaced block around
    → IsBodyPlaced (inverse block) (map turned_open around)
stands_undone block [] h = tt
stands_undone block (o ∷ around) h = (
  runs_undone o.here o.part block h.0,
  subst (λ b. IsBodyPlaced b (map turned_open around)) (sym (turned_block o.past (Then o.here o.rest)))
      (stands_undone (unwound o.past (Then o.here o.rest)) around h.1),
)

pub turned_placed : (x : Config) → IsConfigPlaced x → IsConfigPlaced (turn x)
turned_placed x h = record {
  stands = subst (λ b. IsBodyPlaced b (map turned_open x.around)) (sym (turned_block x.past x.rest))
      (stands_undone (unwound x.past x.rest) x.around h.stands);
}

pub start_placed : (block : Statements) (params : ℕ) (st : State)
    → IsConfigPlaced (config_before End block params [] st)
start_placed block params st = record { stands = tt }
