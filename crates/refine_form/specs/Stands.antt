-- How cells represent a current frame, with the types, the reference counts and the live object ids
-- of all frames.
use Rattle.std.specs.Prelude.{◌≡◌, ℕ, ◌+◌, ◌-◌, ◌^◌, ◌<◌, true, nat_eq, if◌then◌else◌, List, []}
use Rattle.std.specs.Prelude.{◌∷◌, length, map, slice_index, position, Option, Some, None}
use Rattle.std.specs.Option.{unwrap_or}
use Rattle.std.specs.Str.{bytes_eq}
use Rattle.refine_frame.specs.rpp_tree.declared.tree.Ident.{Ident}
use Rattle.refine_frame.specs.rpp_tree.declared.tree.Var.{Var}
use Rattle.refine_frame.specs.rpp_tree.Tree.{Source}
use Rattle.refine_frame.specs.class_rules.declared.kind.Kind.{Kind}
use Rattle.refine_frame.specs.class_rules.declared.kind.Kind.TheVariants as kind
use Rattle.refine_frame.specs.class_rules.Classes.{class_fields}
use Rattle.refine_frame.specs.class_rules.Members.{field_of}
use Rattle.refine_frame.specs.class_rules.Inheritance.{kind_of_var}
use Rattle.refine_frame.specs.class_rules.Scope.{Local, Locals}
use Rattle.refine_frame.specs.buddy_book.Place.{count_taken}
use Rattle.refine_frame.specs.roopl_semantics.Store.{Value, Name, Head, OfClass, OfInts, OfObjects, Object}
use Rattle.refine_frame.specs.roopl_semantics.Store.{Store, State, main_name, object_named}
use Rattle.refine_frame.specs.roopl_semantics.Execution.{Setting}
use Rattle.refine_frame.specs.roopl_semantics.Laws.{one_if_name, holders_among}
use Rattle.refine_frame.specs.meaning_sound.Sound.{named_fits, head_named, count_named, is_live, is_of_kind, AllFit}
use Rattle.refine_frame.specs.meaning_sound.Sound.{local_type, cell_kinds, bound_value, held, Descending}
use Rattle.refine_frame.specs.meaning_sound.Sound.{IsPlaced, cell_kind}
use Rattle.refine_frame.specs.Open.{Setup, IsGrounded}
use Rattle.refine_form.specs.Form.{Scope, Moved}
use Rattle.refine_form.specs.Frames.{CallerFrame, Under, cell_in, OpenFrame}
use Rattle.refine_form.specs.declared.spot.Spot.{Spot}
use Rattle.refine_form.specs.declared.spot.Spot.TheVariants.{Field, Frame}
use Rattle.refine_frame.specs.code_conventions.declared.memory.TheConstants.{FIRST_VARIABLE}

-- ---- what holds a name besides the store and the current frame

-- a receiver that moved into an active call: word 1 of its frame is the caller's object
abbrev pub receiver_held : ℕ → ℕ → List ℕ → ℕ
receiver_held name self put_by = if nat_eq (slice_index put_by 1) 0 then 0
    else one_if_name name (Name self)

-- the frames below
abbrev pub below_held : ℕ → List CallerFrame → ℕ
below_held name [] = 0
below_held name (c ∷ callers) =
    holders_among name (map bound_value c.frame) +
    (receiver_held name c.self c.put_by + below_held name callers)

abbrev pub moved_value : Moved → Value
moved_value m = m.value

-- the main object's own count
abbrev pub main_held : ℕ → ℕ
main_held name = if nat_eq name main_name then 1 else 0

-- with the values that have moved into the frame above
abbrev pub extra : Under → List Moved → ℕ → ℕ
extra u moved name = main_held name +
    (receiver_held name u.self u.put_by +
    (below_held name u.callers + holders_among name (map moved_value moved)))

-- the object of each frame below is held by the frames that it is called from, or is the main
-- object
abbrev pub CallersHeld : List CallerFrame → Type 0
CallersHeld [] = Unit {0}
CallersHeld (c ∷ callers) =
    (0 < main_held c.self + (receiver_held c.self c.self c.put_by + below_held c.self callers))
    × CallersHeld callers

-- ---- scopes

abbrev pub local_of : Source → Var → Local
local_of program var = record { name = var.name.text; kind = kind_of_var program var }

abbrev pub shape_of : Source → Scope → Locals
shape_of program s = map (local_of program) s.vars

-- the storage slot of a name
abbrev pub spot_at : Source → Scope → Ident → Option ℕ → Spot
spot_at program s name (Some i) = Frame (FIRST_VARIABLE + (length s.vars - 1 - i))
spot_at program s name None = Field (unwrap_or (field_of (class_fields program s.class) name.text)
    0)

abbrev pub spot_in : Source → Scope → Ident → Spot
spot_in program s name = spot_at program s name
    (position (bytes_eq name.text) (map (λ var. var.name.text) s.vars))

-- an array has an element
abbrev pub HasElements : Head → Type 0
HasElements (OfClass class) = Unit {0}
HasElements (OfInts length) = 0 < length
HasElements (OfObjects class length) = 0 < length

-- ---- the relation

module _ (setting : Setting) (statics : List ℕ) where
  abbrev pub setup : Setup
  setup = record { setting = setting; statics = statics }

  -- the frames below have values of their types, on objects of their classes
  abbrev pub CallersFit : Store → List CallerFrame → Type 0
  CallersFit store [] = Unit {0}
  CallersFit store (c ∷ callers) =
      AllFit setting.program store (map local_type (shape_of setting.program c.scope))
      (map bound_value c.frame)
      × (named_fits setting.program (kind.Class c.scope.class) (head_named store c.self) ≡ true)
      × (head_named store c.self ≡ Some (OfClass c.class))
      × CallersFit store callers

  -- a value that has moved up has the type of the cell that it came from
  pub record MovedFits (store : Store) (s : Scope) (u : Under) (m : Moved) : Type 0 where
    pub kind : Kind
    pub of_cell : cell_kind setting.program (shape_of setting.program s) store
        (cell_in setting statics s u m.from) ≡ Some kind
    pub fit : is_of_kind setting.program store m.value kind ≡ true

  abbrev pub AllMoved : Store → Scope → Under → List Moved → Type 0
  AllMoved store s u [] = Unit {0}
  AllMoved store s u (m ∷ moved) = MovedFits store s u m × AllMoved store s u moved

  -- types and live names
  pub record Kept (s : Scope) (u : Under) (moved : List Moved) (st : State) : Type 0 where
    pub class_inside : s.class < length setting.program.classes
    pub variables : AllFit setting.program st.store (map local_type (shape_of setting.program s))
        (map bound_value st.frame)
    pub objects : (name : ℕ) (object : Object) → object_named st.store name ≡ Some object
        → AllFit setting.program st.store (cell_kinds setting.program object.head) object.cells
    pub arrays : (name : ℕ) (head : Head) → head_named st.store name ≡ Some head → HasElements head
    pub lives : (name : ℕ) → 0 < extra u moved name → is_live st.store name ≡ true
    pub self_is : named_fits setting.program (kind.Class s.class) (head_named st.store u.self)
        ≡ true
    pub own_is : head_named st.store u.self ≡ Some (OfClass u.class)
    pub self_held : 0 < extra u [] u.self
    pub main_extra : extra u moved main_name ≡ 1
    pub main_unheld : held main_name st ≡ 0
    pub fresh : Descending (2 + count_taken st.log) st.store
    pub placed : IsPlaced setting st.store st.log
    pub grounded : IsGrounded setup st.store
    pub callers_fit : CallersFit st.store u.callers
    pub callers_held : CallersHeld u.callers
    pub moved_fit : AllMoved st.store s u moved

  abbrev pub moved_values : List Moved → List Value
  moved_values moved = map moved_value moved

  -- the memory of the current frame, with its types and live names: expressions can be read
  pub record Reads (s : Scope) (u : Under) (moved : List Moved) (st : State)
      (cells : List ℕ) : Type 0 where
    pub frame : OpenFrame setting statics s u (moved_values moved) st cells
    pub keeps : Kept s u moved st
    -- every cell is a word
    pub words : (a : ℕ) → slice_index cells a < 2 ^ 32

  -- with the counts: each is the number of cells that hold the name, of receivers that moved into
  -- active calls too
  pub record Stands (s : Scope) (u : Under) (moved : List Moved) (st : State)
      (cells : List ℕ) : Type 0 where
    pub frame : OpenFrame setting statics s u (moved_values moved) st cells
    pub keeps : Kept s u moved st
    pub words : (a : ℕ) → slice_index cells a < 2 ^ 32
    pub counts : (name count : ℕ) → count_named st.store name ≡ Some count
        → count ≡ held name st + extra u moved name
