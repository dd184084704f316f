-- What every state of a run of an accepted program keeps: types of values, counts, names and
-- blocks.
use Rattle.std.specs.Prelude.{◌≡◌, ◌≢◌, ◌<◌, ◌^◌, ℕ, ◌+◌, Bool, true, false, not, ◌&&◌, nat_eq}
use Rattle.std.specs.Prelude.{nat_lt, is_some, if◌then◌else◌, List, [], ◌∷◌, ◌++◌, map, length}
use Rattle.std.specs.Prelude.{replicate, slice_get, Option, Some, None}
use Rattle.std.specs.Option.{option_map}
use Rattle.roopl_semantics.specs.rpp_tree.Tree.{Source}
use Rattle.roopl_semantics.specs.class_rules.declared.kind.Kind.{Kind}
use Rattle.roopl_semantics.specs.class_rules.declared.kind.Kind.TheVariants as kind
use Rattle.roopl_semantics.specs.class_rules.Classes.{class_fields}
use Rattle.roopl_semantics.specs.class_rules.Inheritance.{is_or_inherits, kind_of_var}
use Rattle.roopl_semantics.specs.class_rules.Scope.{Local, Locals}
use Rattle.roopl_semantics.specs.class_rules.Expressions.{is_int}
use Rattle.roopl_semantics.specs.buddy_book.Place.{Log, Placing, count_taken, block_of, place}
use Rattle.roopl_semantics.specs.buddy_book.Shown.{TakenBlocks, order_in, IsKept}
use Rattle.roopl_semantics.specs.Store.{Value, Word, Nil, Name, Head, OfClass, OfInts, OfObjects}
use Rattle.roopl_semantics.specs.Store.{Object, Store, Binding, State, main_name, object_named}
use Rattle.roopl_semantics.specs.Value.{Cell, Slot, Part}
use Rattle.roopl_semantics.specs.Execution.{Setting, order_of_cells}
use Rattle.roopl_semantics.specs.Laws.{holders, holders_among, block_in}

-- whether an object or array with this head is of a type
abbrev pub head_fits : Source → Kind → Head → Bool
head_fits program (kind.Class class) (OfClass own) = is_or_inherits program own class
head_fits program kind.IntArray (OfInts length) = true
head_fits program (kind.ClassArray class) (OfObjects own length) = nat_eq own class
head_fits program _ _ = false

abbrev pub named_fits : Source → Kind → Option Head → Bool
named_fits program kind (Some head) = head_fits program kind head
named_fits program kind None = false

abbrev pub head_of : Object → Head
head_of object = object.head

-- the head of what a name names, if it is live
abbrev pub head_named : Store → ℕ → Option Head
head_named store name = option_map head_of (object_named store name)

-- the count of what a name names, if it is live
abbrev pub count_of : Object → ℕ
count_of object = object.count

abbrev pub count_named : Store → ℕ → Option ℕ
count_named store name = option_map count_of (object_named store name)

abbrev pub is_live : Store → ℕ → Bool
is_live store name = is_some (head_named store name)

-- whether a value is of a type: a word, nil, or the name of a live object or array of the type
abbrev pub is_of_kind : Source → Store → Value → Kind → Bool
is_of_kind program store (Word w) type = is_int type && nat_lt w (2 ^ 32)
is_of_kind program store Nil type = not (is_int type)
is_of_kind program store (Name n) type = named_fits program type (head_named store n)

-- the types of the cells after a head
abbrev pub cell_kinds : Source → Head → List Kind
cell_kinds program (OfClass class) = map (kind_of_var program) (class_fields program class)
cell_kinds program (OfInts length) = replicate length kind.Int
cell_kinds program (OfObjects class length) = replicate length (kind.Class class)

-- each value is of its type
abbrev pub AllFit : Source → Store → List Kind → List Value → Type 0
AllFit program store [] [] = Unit {0}
AllFit program store [] (v ∷ vs) = ⊥
AllFit program store (k ∷ ks) [] = ⊥
AllFit program store (k ∷ ks) (v ∷ vs) = (is_of_kind program store v k ≡ true)
    × AllFit program store ks vs

abbrev pub bound_value : Binding → Value
bound_value binding = binding.value

abbrev pub binding_name : Binding → List ℕ
binding_name binding = binding.name

abbrev pub local_name : Local → List ℕ
local_name local = local.name

abbrev pub local_type : Local → Kind
local_type local = local.kind

-- how many cells of the store and of the current frame hold a name
abbrev pub held : ℕ → State → ℕ
held name st = holders name st.store + holders_among name (map bound_value st.frame)

-- the names descend from a bound
abbrev pub Descending : ℕ → Store → Type 0
Descending bound [] = Unit {0}
Descending bound ((name, object) ∷ store) = (name < bound) × Descending name store

abbrev pub entry_name : {A : Type 0} → ℕ × A → ℕ
entry_name entry = entry.0

-- where the blocks are: the free lists are in order, and each live object or array except the main
-- object has a block of its own, of the order that it needs
pub record IsPlaced (setting : Setting) (store : Store) (log : Log) : Type 0 where
  pub at : Placing
  pub placed : place setting.limits.heap log ≡ Some at
  pub names : map entry_name store ≡ map entry_name at.blocks ++ main_name ∷ []
  pub taken : TakenBlocks
  pub kept : IsKept (record { h = setting.limits.heap; base = 0; free = at.book; taken = taken })
  pub orders : (name : ℕ) (head : Head) → head_named store name ≡ Some head → name ≢ main_name
      → order_in taken (block_of at.blocks name)
      ≡ Some (order_of_cells (length (cell_kinds setting.program head)))
  pub apart : (name other : ℕ) → is_live store name ≡ true → is_live store other ≡ true
      → name ≢ main_name → other ≢ main_name → name ≢ other
      → block_of at.blocks name ≢ block_of at.blocks other

-- everything of a sound state but its counts: so are the states between the writes of one statement
-- too
pub record Typed (setting : Setting) (extra : ℕ → ℕ) (shape : Locals) (class : ℕ)
    (st : State) : Type 0 where
  pub names : map binding_name st.frame ≡ map local_name shape
  pub variables : AllFit setting.program st.store (map local_type shape) (map bound_value st.frame)
  pub objects : (name : ℕ) (object : Object) → object_named st.store name ≡ Some object
      → AllFit setting.program st.store (cell_kinds setting.program object.head) object.cells
  pub lives : (name : ℕ) → 0 < extra name → is_live st.store name ≡ true
  pub self_is : named_fits setting.program (kind.Class class) (head_named st.store st.self) ≡ true
  pub self_held : 0 < extra st.self
  pub main_extra : extra main_name ≡ 1
  pub fresh : Descending (2 + count_taken st.log) st.store
  pub placed : IsPlaced setting st.store st.log

-- What holds for a state inside a method of a class, with variables of these types, the innermost
-- first. `extra` says how many further references an object id has: from the frames of the calls
-- below, and as a receiver that moved into an active call.
pub record Sound (setting : Setting) (extra : ℕ → ℕ) (shape : Locals) (class : ℕ)
    (st : State) : Type 0 where
  pub names : map binding_name st.frame ≡ map local_name shape
  pub variables : AllFit setting.program st.store (map local_type shape) (map bound_value st.frame)
  pub objects : (name : ℕ) (object : Object) → object_named st.store name ≡ Some object
      → AllFit setting.program st.store (cell_kinds setting.program object.head) object.cells
  pub counts : (name count : ℕ)
      → count_named st.store name ≡ Some count → count ≡ held name st + extra name
  pub lives : (name : ℕ) → 0 < extra name → is_live st.store name ≡ true
  pub self_is : named_fits setting.program (kind.Class class) (head_named st.store st.self) ≡ true
  pub self_held : 0 < extra st.self
  pub main_extra : extra main_name ≡ 1
  pub main_unheld : held main_name st ≡ 0
  pub fresh : Descending (2 + count_taken st.log) st.store
  pub placed : IsPlaced setting st.store st.log

-- what stays between two states: the object, the depth, and what is held besides, which lives on as
-- it was, at its block
pub record Stays (setting : Setting) (extra : ℕ → ℕ) (st end : State) : Type 0 where
  pub self_same : end.self ≡ st.self
  pub depth_same : end.depth ≡ st.depth
  pub heads_same : (name : ℕ) → 0 < extra name → head_named end.store name
      ≡ head_named st.store name
  pub blocks_same : (name : ℕ) → 0 < extra name
      → block_in (place setting.limits.heap end.log) name
      ≡ block_in (place setting.limits.heap st.log) name

-- a run leads to a state that is sound too
pub record Keeps (setting : Setting) (extra : ℕ → ℕ) (shape : Locals) (class : ℕ)
    (st end : State) : Type 0 where
  pub sound : Sound setting extra shape class end
  pub stays : Stays setting extra st end

-- the type of a cell that is there
abbrev pub part_kind : Source → Option Head → ℕ → Option Kind
part_kind program None index = None
part_kind program (Some head) index = slice_get (cell_kinds program head) index

abbrev pub cell_kind : Source → Locals → Store → Cell → Option Kind
cell_kind program shape store (Slot index) = slice_get (map local_type shape) index
cell_kind program shape store (Part name index) = part_kind program (head_named store name) index

-- at the beginning and at the end of a run only the main object is referenced from elsewhere, once
abbrev pub main_alone : ℕ → ℕ
main_alone name = if nat_eq name main_name then 1 else 0
