-- How the cells of a memory represent a current frame and all frames below it.
use Rattle.std.specs.Prelude.{◌≡◌, ℕ, ◌+◌, ◌-◌, ◌*◌, ◌^◌, ◌≤◌, nat_eq, if◌then◌else◌, List, [], ◌∷◌}
use Rattle.std.specs.Prelude.{◌++◌, length, map, replicate, position, Option, Some, None}
use Rattle.std.specs.Option.{unwrap_or}
use Rattle.std.specs.Str.{bytes_eq}
use Rattle.refine_frame.specs.rpp_tree.declared.tree.Ident.{Ident}
use Rattle.refine_frame.specs.class_rules.Classes.{class_fields}
use Rattle.refine_frame.specs.class_rules.Members.{field_of}
use Rattle.refine_frame.specs.buddy_book.Place.{Placing, block_of, place}
use Rattle.refine_frame.specs.pisa_isa.Loaded.{statics_at, heap_base, fixed_cells}
use Rattle.refine_frame.specs.code_conventions.declared.memory.TheConstants.{MOST_VARIABLES, FIRST_VARIABLE, PLACE_WORD}
use Rattle.refine_frame.specs.rpp_words.declared.input.TheConstants.{FRAME_WORDS}
use Rattle.refine_frame.specs.roopl_semantics.Store.{Value, Binding, Store, State, main_name, object_at}
use Rattle.refine_frame.specs.roopl_semantics.Store.{class_of_head}
use Rattle.refine_frame.specs.roopl_semantics.Value.{Cell, Slot, Part}
use Rattle.refine_frame.specs.roopl_semantics.Layout.{word_of_value, first_address, static_words, heap_words}
use Rattle.refine_frame.specs.roopl_semantics.Execution.{Setting}
use Rattle.refine_form.specs.Form.{Scope}

-- as many values may move into the frame above as a method may have parameters
abbrev pub most_moved : ℕ
most_moved = 32

-- the words of a frame between its place and its first variable
abbrev pub spare_words : List ℕ
spare_words = replicate (FIRST_VARIABLE - (PLACE_WORD + 1)) 0

-- an active call below: its frame as the source has it, with its object, the object's class and
-- address, and what is saved in it
pub record CallerFrame : Type 0 where
  pub scope : Scope
  pub frame : List Binding
  pub self : ℕ
  pub class : ℕ
  pub object : ℕ
  pub put_by : List ℕ

-- what stays while a frame is open; the callers innermost first
pub record Under : Type 0 where
  pub callers : List CallerFrame
  pub self : ℕ
  pub class : ℕ
  pub object : ℕ
  pub put_by : List ℕ

module _ (setting : Setting) (statics : List ℕ) where
  abbrev pub base : ℕ
  base = heap_base setting.limits.heap (length statics)

  abbrev pub stack_base : ℕ
  stack_base = base + 2 ^ setting.limits.heap

  -- the main object is before the heap, any other one at its block
  abbrev pub address_of : Placing → ℕ → ℕ
  address_of at name = if nat_eq name main_name then statics_at else base + block_of at.blocks name

  abbrev pub value_word : Placing → Value → ℕ
  value_word at v = word_of_value base at.blocks v

  -- the words of values, the outermost first
  abbrev pub value_words : Placing → List Value → List ℕ
  value_words at [] = []
  value_words at (v ∷ vs) = value_words at vs ++ (value_word at v ∷ [])

  abbrev pub values_of : List Binding → List Value
  values_of frame = map (λ binding. binding.value) frame

  -- words, and zeros up to a number
  abbrev pub filled_to : ℕ → List ℕ → List ℕ
  filled_to n words = words ++ replicate (n - length words) 0

  -- the words of a frame: what is saved, the variables, and zeros
  abbrev pub frame_words : Placing → List ℕ → List Value → List ℕ
  frame_words at put_by vs = filled_to FRAME_WORDS (put_by ++ value_words at vs)

  -- the frames below, the outermost first
  abbrev pub callers_words : Placing → List CallerFrame → List ℕ
  callers_words at [] = []
  callers_words at (c ∷ callers) = callers_words at callers
      ++ frame_words at c.put_by (values_of c.frame)

  -- the values that have moved into the frame above
  abbrev pub above_words : Placing → List Value → List ℕ
  above_words at [] = []
  above_words at (v ∷ vs) = replicate FIRST_VARIABLE 0 ++ value_words at (v ∷ vs)

  abbrev pub stack_words : Placing → Under → List Binding → List Value → List ℕ
  stack_words at u frame vals = callers_words at u.callers
      ++ (frame_words at u.put_by (values_of frame) ++ above_words at vals)

  -- the cells before the stack are those of the layout
  abbrev pub before_stack : Placing → Store → List ℕ
  before_stack at store =
      fixed_cells setting.limits.heap setting.limits.deep base (map (first_address base) at.book)
      ++ static_words setting.program base at.blocks statics store
      ++ replicate (base - statics_at - length statics) 0
      ++ heap_words setting.program (2 ^ setting.limits.heap) base store at

  abbrev pub memory : Placing → Store → List ℕ → List ℕ
  memory at store stack = before_stack at store
      ++ filled_to (FRAME_WORDS * setting.limits.deep) stack

  -- the objects of active calls are there, of the same class and at the same address
  abbrev pub StandsAt : Placing → Store → (self class object : ℕ) → Type 0
  StandsAt at store self class object = (class_of_head (object_at store self).head ≡ class)
      × (address_of at self ≡ object)

  abbrev pub CallersStand : Placing → Store → List CallerFrame → Type 0
  CallersStand at store [] = Unit {0}
  CallersStand at store (c ∷ callers) =
      StandsAt at store c.self c.class c.object × (length c.put_by ≡ FIRST_VARIABLE)
      × (length c.frame ≤ MOST_VARIABLES) × CallersStand at store callers

  -- the storage slot of a name in a scope, or else the field of the object
  abbrev pub cell_at : Under → Ident → Option ℕ → Cell
  cell_at u name (Some i) = Slot i
  cell_at u name None =
      Part u.self (unwrap_or (field_of (class_fields setting.program u.class) name.text) 0)

  abbrev pub cell_in : Scope → Under → Ident → Cell
  cell_in s u name = cell_at u name (position (bytes_eq name.text)
      (map (λ var. var.name.text) s.vars))

  -- if values have moved up, there is a frame above
  abbrev pub AboveFits : List Value → ℕ → Type 0
  AboveFits [] depth = Unit {0}
  AboveFits (v ∷ vals) depth = 1 + depth ≤ setting.limits.deep

  -- the memory of a current frame, and of the values that have moved from it into the frame above
  pub record OpenFrame (s : Scope) (u : Under) (vals : List Value) (st : State)
      (cells : List ℕ) : Type 0 where
    pub at : Placing
    pub placed : place setting.limits.heap st.log ≡ Some at
    pub cells_are : cells ≡ memory at st.store (stack_words at u st.frame vals)
    pub names_are : map (λ binding. binding.name) st.frame ≡ map (λ var. var.name.text) s.vars
    pub self_is : st.self ≡ u.self
    pub stands : StandsAt at st.store u.self u.class u.object
    pub callers_stand : CallersStand at st.store u.callers
    pub depth_is : st.depth ≡ 1 + length u.callers
    pub in_depth : st.depth ≤ setting.limits.deep
    pub put_long : length u.put_by ≡ FIRST_VARIABLE
    pub few : length st.frame ≤ MOST_VARIABLES
    pub few_vals : length vals ≤ most_moved
    pub above_fits : AboveFits vals st.depth
