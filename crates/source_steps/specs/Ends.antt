-- How a statement ends.
use Rattle.std.specs.Prelude.{ℕ, suc, ◌+◌, List, Bool, true, false, not, ◌||◌, nat_eq, length}
use Rattle.std.specs.Prelude.{replicate, Option, Some, None, Result}
use Rattle.std.specs.Option.{unwrap_or}
use Rattle.source_store.specs.rpp_words.Words.{is_less}
use Rattle.class_table.specs.rpp_tree.Tree.{Expression, Lvalue, Statement, Source}
use Rattle.source_store.specs.class_rules.Classes.{class_number, class_fields, method_slot}
use Rattle.source_store.specs.inverse_rules.Inverse.{inverse_statement}
use Rattle.source_store.specs.roopl_semantics.Run.{Run, More, ◌>>=◌, give, spend, fault_if}
use Rattle.source_store.specs.roopl_semantics.Store.{State, Value, Word, Nil, Head, OfClass, OfInts, OfObjects}
use Rattle.source_store.specs.roopl_semantics.Store.{is_nil, number_of, same_value, object_at, zero_values}
use Rattle.source_store.specs.roopl_semantics.Execution.{Setting, statement, count_changed, one_less}
use Rattle.source_store.specs.roopl_semantics.Execution.{same_cell, is_of_class, all_zero, allocated, freed}
use Rattle.source_store.specs.roopl_semantics.Execution.{NOT_NIL}
use Rattle.source_store.specs.roopl_semantics.Execution.{NOT_SAME, CLASS_DIFFERS}
use Rattle.source_store.specs.roopl_semantics.Execution.{LENGTH_DIFFERS, LENGTH, COUNT}
use Rattle.source_store.specs.roopl_semantics.Execution.{NOT_EMPTY}
use Rattle.source_store.specs.roopl_semantics.Value.{Cell, read, written, evaluated, found, NIL}
use Rattle.source_store.specs.meaning_machine.Reversed.{ungiven}
use Rattle.source_store.specs.declared.value.Value.{Value as Held}
use Rattle.source_store.specs.HeapView.{Kept as Heap}
use Rattle.source_steps.specs.declared.stop.Stop.{Stop}
use Rattle.source_steps.specs.declared.scope.Scope.{Scope as Chain}
use Rattle.source_steps.specs.declared.expressions.Setting.{Setting as Here}
use Rattle.source_steps.specs.Metered.{Metered, metered, MeteredGives}
use Rattle.source_steps.specs.StateView.{state_of, setting_of}

-- a statement as it stands, or undone
abbrev pub turned : Bool → Statement → Statement
turned true s = inverse_statement s
turned false s = s

-- a call ends in the state and with the fuel that the run gives
abbrev pub EndsAs : {E : Type 0} → Here → Chain → Result E Stop → Heap → List Held → ℕ → Metered State
    → Type 0
EndsAs here scope result heap values left run =
    MeteredGives (λ u. state_of here scope heap values) result left run

-- what a statement that holds no block comes to
abbrev pub does_simply : Here → ℕ → Statement → State → Metered State
does_simply here fuel s st = metered fuel (statement (setting_of here) 0 (λ body st. More) s st)

-- after the places and the check of an `uncopy`
abbrev pub uncopied : Cell → Cell → State → Run State
uncopied a b st = do
  _ ← fault_if NIL (is_nil (read st a))
  _ ← fault_if NOT_SAME (not (same_value (read st a) (read st b)) || same_cell a b)
  give (count_changed one_less (written st b Nil) (number_of (read st a)))

-- after the places and the check of a `copy`
abbrev pub copied : Cell → Cell → State → Run State
copied a b st = do
  _ ← fault_if NIL (is_nil (read st a))
  _ ← fault_if NOT_NIL (not (is_nil (read st b)))
  give (count_changed suc (written st b (read st a)) (number_of (read st a)))

-- after the place and the check of a `new` of an object
abbrev pub object_made : Setting → List ℕ → Cell → State → Run State
object_made setting class cell st = do
  _ ← fault_if NOT_NIL (not (is_nil (read st cell)))
  _ ← spend (setting.limits.heap + 1)
  let number = unwrap_or (class_number setting.program class) 0
  let cells = zero_values (class_fields setting.program number)
  allocated setting (length cells) cell (OfClass number) cells st

-- a new object of a class
abbrev pub new_of : Setting → List ℕ → Cell → State → Run State
new_of setting class cell st =
    let number = unwrap_or (class_number setting.program class) 0 in
    let cells = zero_values (class_fields setting.program number) in
    allocated setting (length cells) cell (OfClass number) cells st

-- a new array of so many elements, with its cost
abbrev pub filled : Setting → Cell → (ℕ → Head) → Value → ℕ → State → Run State
filled setting cell head element n st = do
  _ ← spend (setting.limits.heap + 1)
  st' ← allocated setting n cell (head n) (replicate n element) st
  _ ← spend n
  give st'

-- after the place and the length of a `new` of an array
abbrev pub made_array : Setting → Cell → (ℕ → Head) → Value → Value → State → Run State
made_array setting cell head element v st = do
  let n = number_of v
  _ ← fault_if NOT_NIL (not (is_nil (read st cell)))
  _ ← fault_if LENGTH (is_less n 1)
  _ ← spend (setting.limits.heap + 1)
  st' ← allocated setting n cell (head n) (replicate n element) st
  _ ← spend n
  give st'

-- after the other checks of a `delete`
abbrev pub emptied : Setting → ℕ → Cell → ℕ → State → Run State
emptied setting cost cell name st = do
  _ ← spend cost
  _ ← fault_if NOT_EMPTY (not (all_zero (object_at st.store name).cells))
  give (freed setting cell name st)

-- after the place and the check of a `delete` of an object
abbrev pub gone : Setting → List ℕ → Cell → State → Run State
gone setting class cell st = do
  let name = number_of (read st cell)
  let object = object_at st.store name
  _ ← fault_if NIL (is_nil (read st cell))
  _ ← fault_if CLASS_DIFFERS (not (is_of_class object.head
      (class_number setting.program class)))
  _ ← fault_if COUNT (not (nat_eq object.count 1))
  _ ← spend (setting.limits.heap + 1)
  _ ← fault_if NOT_EMPTY (not (all_zero object.cells))
  give (freed setting cell name st)

-- after the place and the length of a `delete` of an array
abbrev pub gone_array : Setting → Cell → Value → State → Run State
gone_array setting cell v st = do
  let name = number_of (read st cell)
  let array = object_at st.store name
  _ ← fault_if NIL (is_nil (read st cell))
  _ ← fault_if LENGTH_DIFFERS (not (nat_eq (length array.cells) (number_of v)))
  _ ← fault_if COUNT (not (nat_eq array.count 1))
  _ ← spend (setting.limits.heap + 1 + length array.cells)
  _ ← fault_if NOT_EMPTY (not (all_zero array.cells))
  give (freed setting cell name st)

-- the head of an array of words, or of references to objects of a class
abbrev pub array_head : Option ℕ → ℕ → Head
array_head None length = OfInts length
array_head (Some class) length = OfObjects class length

-- what its elements begin with
abbrev pub first_element : Option ℕ → Value
first_element None = Word 0
first_element (Some class) = Nil

-- after the place of a `delete` of an object that is undone
abbrev pub there_again : Setting → List ℕ → Cell → State → Run State
there_again setting class cell st =
    let number = unwrap_or (class_number setting.program class) 0 in
    ungiven st.log cell (OfClass number) (zero_values (class_fields setting.program number)) st

-- after the place and the length of a `delete` of an array that is undone
abbrev pub array_again : Cell → (ℕ → Head) → Value → Value → State → Run State
array_again cell head element v st =
    ungiven st.log cell (head (number_of v)) (replicate (number_of v) element) st

-- a `delete` of an array that is undone
abbrev pub array_undeleted : Setting → Lvalue → Expression → (ℕ → Head) → Value → State → Run State
array_undeleted setting target size head element st = do
  cell ← found setting.program target st
  v ← evaluated setting.program size st
  array_again cell head element v st

-- the slot of a name, or 0
abbrev pub slot_or_first : Source → ℕ → List ℕ → ℕ
slot_or_first program class name = unwrap_or (method_slot program class name) 0
