-- What contracts see of the state of a run.
use Rattle.std.specs.Prelude.{◌≡◌, ℕ, ◌+◌, nat_lt, if◌then◌else◌, List, [], ◌∷◌, ◌++◌, map, length}
use Rattle.std.specs.Prelude.{Result, Ok, Err}
use Rattle.class_table.specs.rpp_tree.declared.tree.Var.{Var}
use Rattle.class_table.specs.rpp_tree.Views.{source_of}
use Rattle.source_store.specs.roopl_semantics.Store.{Value, Name, object_at, Store, Binding, State}
use Rattle.source_store.specs.roopl_semantics.Execution.{Setting, bound}
use Rattle.source_store.specs.roopl_semantics.Value.{Cell, Part, NIL, INDEX}
use Rattle.source_store.specs.declared.value.Value.{Value as Held}
use Rattle.source_store.specs.ValueView.{values_of}
use Rattle.source_store.specs.HeapView.{Kept}
use Rattle.source_steps.specs.declared.scope.Scope.{Scope as Chain}
use Rattle.source_steps.specs.Marks.{AreMarked}
use Rattle.source_steps.specs.declared.expressions.Setting.{Setting as Here}

-- the names of the variables, the innermost first
abbrev pub names_of : Chain → List (List ℕ)
names_of scope = map (λ own. own.now) scope.locals.now
    ++ map (λ var. var.name.text) scope.params.now

abbrev pub bindings : List (List ℕ) → List Value → List Binding
bindings [] values = []
bindings (name ∷ names) [] = []
bindings (name ∷ names) (v ∷ values) = record { name = name; value = v } ∷ bindings names values

abbrev pub frame_of : Chain → List Held → List Binding
frame_of scope values = bindings (names_of scope) (values_of values)

-- each variable has a value, and its name a mark, and the heap is of the order that the limits say
pub record IsFramed (here : Here) (scope : Chain) (heap : Kept) (values : List Held) : Type 0 where
  pub each : length values ≡ length (names_of scope)
  pub order : heap.order ≡ here.limits.heap
  pub marked : AreMarked scope.marks (names_of scope)

abbrev pub setting_of : Here → Setting
setting_of here = record { program = source_of here.checked.now; limits = here.limits }

abbrev pub state_of : Here → Chain → Kept → List Held → State
state_of here scope heap values =
    record {
      frame = frame_of scope values;
      self = here.object;
      depth = here.depth;
      store = heap.store;
      log = heap.log;
    }

-- what a computation gave, or its fault
abbrev pub seen_result : {A B : Type 0} → (A → B) → Result A ℕ → Result B ℕ
seen_result f (Ok a) = Ok (f a)
seen_result f (Err fault) = Err fault

-- the element of an array at an index
abbrev pub element_in : Store → Value → ℕ → Result Cell ℕ
element_in store (Name array) index = if nat_lt index (length (object_at store array).cells)
    then Ok (Part array index) else Err INDEX
element_in store _ index = Err NIL

-- the state in which a method begins on an object, with these values of its variables
abbrev pub entered : Here → List Var → ℕ → Kept → List Held → State
entered here params object heap values =
    record {
      frame = bound params (values_of values);
      self = object;
      depth = 1 + here.depth;
      store = heap.store;
      log = heap.log;
    }
