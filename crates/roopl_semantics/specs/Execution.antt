-- What statements do, with their faults and costs.
use Rattle.std.specs.Prelude.{ℕ, zero, suc, ◌+◌, ◌-◌, Bool, true, false, not, ◌&&◌, ◌||◌, nat_eq}
use Rattle.std.specs.Prelude.{nat_lt, List, [], ◌∷◌, ◌++◌, length, map, replicate, Option, Some}
use Rattle.std.specs.Prelude.{None, is_none, if◌then◌else◌}
use Rattle.std.specs.Option.{unwrap_or}
use Rattle.buddy_book.specs.rpp_words.Words.{is_less}
use Rattle.buddy_book.specs.rpp_words.declared.input.Limits.{Limits}
use Rattle.inverse_rules.specs.rpp_tree.declared.tree.Ident.{Ident}
use Rattle.inverse_rules.specs.rpp_tree.declared.tree.Var.{Var}
use Rattle.inverse_rules.specs.rpp_tree.Tree.{Expression, Null, Lvalue, Whole, Item, Object as AnObject, Ints}
use Rattle.inverse_rules.specs.rpp_tree.Tree.{Objects, Statement, Statements, Update, Swap, If, From, Construct}
use Rattle.inverse_rules.specs.rpp_tree.Tree.{Local, New, Delete, Copy, Uncopy, Call, Skip, End, Then, joined}
use Rattle.inverse_rules.specs.rpp_tree.Tree.{Procedure, Source}
use Rattle.class_rules.specs.Classes.{class_number, class_fields, method_named}
use Rattle.inverse_rules.specs.Inverse.{inverse}
use Rattle.buddy_book.specs.Book.{order_for}
use Rattle.buddy_book.specs.Place.{Taken, Given, count_taken, place}
use Rattle.code_conventions.specs.declared.memory.TheConstants.{HEADER_WORDS}
pub use Rattle.code_conventions.specs.declared.faults.TheConstants.{FI, LOOP, DELOCAL, NOT_NIL, COUNT}
pub use Rattle.code_conventions.specs.declared.faults.TheConstants.{NOT_EMPTY, HEAP_FULL, NOT_SAME}
pub use Rattle.code_conventions.specs.declared.faults.TheConstants.{CLASS_DIFFERS, LENGTH_DIFFERS}
pub use Rattle.code_conventions.specs.declared.faults.TheConstants.{LENGTH, TOO_DEEP, TOUCHED}
use Rattle.roopl_semantics.specs.Operators.{is_true, updated}
use Rattle.roopl_semantics.specs.Run.{Run, More, ◌>>=◌, give, spend, fault_if}
use Rattle.roopl_semantics.specs.Store.{Value, Word, Nil, Name, Head, OfClass, OfInts, OfObjects}
use Rattle.roopl_semantics.specs.Store.{Object, Binding, State, number_of, is_zero, is_nil, cleared}
use Rattle.roopl_semantics.specs.Store.{same_value, zero_values, object_at, changed_at, without}
use Rattle.roopl_semantics.specs.Value.{Cell, Slot, Part, NIL, cell_named, own_class, read}
use Rattle.roopl_semantics.specs.Value.{written, evaluated, found}
use Rattle.roopl_semantics.specs.Elements.{elements, index_elements, own_element, kept_apart}

-- the setting of a run: the program, and the sizes of heap and stack
pub record Setting : Type 0 where
  pub program : Source
  pub limits : Limits

-- runs a block
abbrev pub Runner : Type 0
Runner = Statements → State → Run State

-- whether a condition's value is true
abbrev pub holds : Value → Bool
holds v = is_true (number_of v)

abbrev pub same_cell : Cell → Cell → Bool
same_cell (Slot i) (Slot j) = nat_eq i j
same_cell (Part name i) (Part name' j) = nat_eq name name' && nat_eq i j
same_cell _ _ = false

-- whether this is an object of the class
abbrev pub is_of_class : Head → Option ℕ → Bool
is_of_class (OfClass class) (Some named) = nat_eq class named
is_of_class _ _ = false

abbrev pub all_zero : List Value → Bool
all_zero [] = true
all_zero (v ∷ vs) = is_zero v && all_zero vs

-- the variables that a method begins with
abbrev pub bound : List Var → List Value → List Binding
bound [] values = []
bound (var ∷ vars) [] = []
bound (var ∷ vars) (v ∷ values) = record { name = var.name.text; value = v } ∷ bound vars values

-- a variable appears, the innermost
abbrev pub opened : List ℕ → Value → State → State
opened name v st = record st { frame = record { name = name; value = v } ∷ st.frame }

abbrev pub rest_of : List Binding → List Binding
rest_of [] = []
rest_of (binding ∷ frame) = frame

-- the innermost variable goes
abbrev pub closed : State → State
closed st = record st { frame = rest_of st.frame }

-- the values of these cells move away: each cell reads 0 or nil
abbrev pub moved_out : List Cell → State → State
moved_out [] st = st
moved_out (cell ∷ cells) st = moved_out cells (written st cell (cleared (read st cell)))

-- the values move back, each into a cell that still reads 0 or nil
abbrev pub moved_back : List Cell → List Value → State → Run State
moved_back [] values st = give st
moved_back (cell ∷ cells) [] st = give st
moved_back (cell ∷ cells) (v ∷ values) st = do
  _ ← fault_if TOUCHED (not (is_zero (read st cell)))
  moved_back cells values (written st cell v)

-- the body of a method that is called, or its inverse if it is uncalled
abbrev pub in_direction : Bool → Statements → Statements
in_direction true body = inverse body
in_direction false body = body

-- a new object or array has one variable
abbrev pub new_object : Head → List Value → Object
new_object head cells = record { head = head; count = 1; cells = cells }

-- the order of a block for an object or array: its head, its count and so many cells
abbrev pub order_of_cells : ℕ → ℕ
order_of_cells cells = order_for (HEADER_WORDS + cells)

-- the count of an object changes
abbrev pub count_changed : (ℕ → ℕ) → State → ℕ → State
count_changed change st name =
    record st {
      store = changed_at st.store name
          (λ object. record object { count = change object.count });
    }

abbrev pub one_less : ℕ → ℕ
one_less count = count - 1

-- the variable that holds an element during a call on it: no name of a program is empty
abbrev pub element_name : ℕ → Ident
element_name at = record { at = at; text = [] }

-- what `construct` means inside its local variable
abbrev pub constructed : ℕ → Ident → Ident → Statements → Statements
constructed at class name body =
    Then (New at (AnObject class) (Whole name))
    (joined body (Then (Delete at (AnObject class) (Whole name)) End))

-- what a call on an element means inside the local variable that holds the element
abbrev pub element_call : ℕ → Bool → Ident → Expression → Ident → List Ident → Statements
element_call at back name index method args =
    let exchange = Swap at (Whole (element_name at)) (Item name index) in
    Then exchange (Then (Call at back (Some (Whole (element_name at))) method args)
    (Then exchange End))

module _ (setting : Setting) where
  abbrev pub cells_named : State → List Ident → List Cell
  cells_named st names = map (λ name. cell_named setting.program st name.text) names

  -- the class of the object of a name
  abbrev pub class_of : State → ℕ → ℕ
  class_of st name = own_class (record st { self = name })

  -- whether as many calls are active as there may be
  abbrev pub is_too_deep : State → Bool
  is_too_deep st = not (nat_lt st.depth setting.limits.deep)

  -- runs a method on an object; the values of the receiver and the arguments move in and back
  abbrev pub invoked : Runner → Bool → Procedure → ℕ → List Cell → List Cell → State → Run State
  invoked run back method self receiver args st =
      let caller = moved_out (receiver ++ args) st in
      do
        end ← run (in_direction back method.body)
            (record {
              frame = bound method.params (map (read st) args);
              self = self;
              depth = 1 + st.depth;
              store = caller.store;
              log = caller.log;
            })
        moved_back (receiver ++ args) (map (read st) receiver
            ++ map (λ binding. binding.value) end.frame)
            (record caller { store = end.store; log = end.log })

  -- a new object or array of so many cells in the place, if the heap has a block for it
  abbrev pub allocated : ℕ → Cell → Head → List Value → State → Run State
  allocated size cell head cells st =
      let name = 2 + count_taken st.log in
      let log = Taken name (order_of_cells size) ∷ st.log in
      do
        _ ← fault_if HEAP_FULL (nat_lt setting.limits.heap (order_of_cells size)
            || is_none (place setting.limits.heap log))
        give (written (record st { store = (name, new_object head cells) ∷ st.store; log = log })
            cell (Name name))

  -- the block of what the place names goes back to the heap
  abbrev pub freed : Cell → ℕ → State → State
  freed cell name st =
      let log = Given name (order_of_cells (length (object_at st.store name).cells)) ∷ st.log in
      written (record st { store = without st.store name; log = log }) cell Nil

  -- `new` of an array
  abbrev pub new_array : Lvalue → Expression → (ℕ → Head) → Value → State → Run State
  new_array target size head element st = do
    cell ← found setting.program target st
    v ← evaluated setting.program size st
    let n = number_of v
    _ ← fault_if NOT_NIL (not (is_nil (read st cell)))
    _ ← fault_if LENGTH (is_less n 1)
    _ ← spend (setting.limits.heap + 1)
    st' ← allocated n cell (head n) (replicate n element) st
    _ ← spend n
    give st'

  -- `delete` of an array
  abbrev pub delete_array : Lvalue → Expression → State → Run State
  delete_array target size st = do
    cell ← found setting.program target st
    v ← evaluated setting.program size st
    let name = number_of (read st cell)
    let array = object_at st.store name
    _ ← fault_if NIL (is_nil (read st cell))
    _ ← fault_if LENGTH_DIFFERS (not (nat_eq (length array.cells) (number_of v)))
    _ ← fault_if COUNT (not (nat_eq array.count 1))
    _ ← spend (setting.limits.heap + 1 + length array.cells)
    _ ← fault_if NOT_EMPTY (not (all_zero array.cells))
    give (freed cell name st)

  -- a block with a local variable; `construct` and calls on elements mean one too
  abbrev pub with_local : Runner → List ℕ → Expression → Statements → Expression → State → Run State
  with_local run name value body end_value st = do
    v ← evaluated setting.program value st
    end ← run body (opened name v st)
    w ← evaluated setting.program end_value end
    _ ← fault_if DELOCAL (not (same_value (read end (Slot 0)) w))
    give (closed end)

  -- after the first part of a loop's iteration: the end if the exit holds, else the second part and
  -- the next iteration
  abbrev pub turn_end : Runner → Expression → Statements → (State → Run State) → Bool → State
      → Run State
  turn_end run entry again next true st = give st
  turn_end run entry again next false st = do
    end ← run again st
    v ← evaluated setting.program entry end
    _ ← fault_if LOOP (holds v)
    next end

  -- the iterations of a loop whose entry has passed, at most so many
  abbrev pub turns : ℕ → Runner → Expression → Statements → Statements → Expression → State
      → Run State
  turns zero run entry first again exit st = More
  turns (suc n) run entry first again exit st = do
    end ← run first st
    v ← evaluated setting.program exit end
    turn_end run entry again (turns n run entry first again exit) (holds v) end

  -- a statement, one clause for each form; blocks inside it go by `run`, and a loop makes at most n
  -- turns
  abbrev pub statement : ℕ → Runner → Statement → State → Run State
  statement n run (Update at op target value) st = do
    cell ← found setting.program target st
    v ← evaluated setting.program value st
    _ ← kept_apart setting.program (own_element target) (index_elements target ++ elements value) st
    give (written st cell (Word (updated op (number_of (read st cell)) (number_of v))))
  statement n run (Swap at left right) st = do
    a ← found setting.program left st
    b ← found setting.program right st
    _ ← kept_apart setting.program (own_element left ++ own_element right)
        (index_elements left ++ index_elements right) st
    give (written (written st a (read st b)) b (read st a))
  statement n run (If at test taken other after) st = do
    v ← evaluated setting.program test st
    end ← run (if holds v then taken else other) st
    w ← evaluated setting.program after end
    _ ← fault_if FI (if holds v then not (holds w) else holds w)
    give end
  statement n run (From at entry first again exit) st = do
    v ← evaluated setting.program entry st
    _ ← fault_if LOOP (not (holds v))
    turns n run entry first again exit st
  statement n run (Construct at class name body end) st =
      with_local run name.text (Null at) (constructed at class name body) (Null at) st
  statement n run (Local at var value body end_var end_value) st =
      with_local run var.name.text value body end_value st
  statement n run (New at (AnObject class) target) st = do
    cell ← found setting.program target st
    _ ← kept_apart setting.program (own_element target) (index_elements target) st
    _ ← fault_if NOT_NIL (not (is_nil (read st cell)))
    _ ← spend (setting.limits.heap + 1)
    let number = unwrap_or (class_number setting.program class.text) 0
    let cells = zero_values (class_fields setting.program number)
    allocated (length cells) cell (OfClass number) cells st
  statement n run (New at (Ints size) target) st = new_array target size OfInts (Word 0) st
  statement n run (New at (Objects class size) target) st =
      new_array target size (OfObjects (unwrap_or (class_number setting.program class.text) 0)) Nil
      st
  statement n run (Delete at (AnObject class) target) st = do
    cell ← found setting.program target st
    let name = number_of (read st cell)
    let object = object_at st.store name
    _ ← kept_apart setting.program (own_element target) (index_elements target) st
    _ ← fault_if NIL (is_nil (read st cell))
    _ ← fault_if CLASS_DIFFERS
        (not (is_of_class object.head (class_number setting.program class.text)))
    _ ← fault_if COUNT (not (nat_eq object.count 1))
    _ ← spend (setting.limits.heap + 1)
    _ ← fault_if NOT_EMPTY (not (all_zero object.cells))
    give (freed cell name st)
  statement n run (Delete at (Ints size) target) st = delete_array target size st
  statement n run (Delete at (Objects class size) target) st = delete_array target size st
  statement n run (Copy at kind source target) st = do
    a ← found setting.program source st
    b ← found setting.program target st
    _ ← kept_apart setting.program (own_element target)
        (index_elements source ++ index_elements target) st
    _ ← fault_if NIL (is_nil (read st a))
    _ ← fault_if NOT_NIL (not (is_nil (read st b)))
    give (count_changed suc (written st b (read st a)) (number_of (read st a)))
  statement n run (Uncopy at kind source target) st = do
    a ← found setting.program source st
    b ← found setting.program target st
    _ ← kept_apart setting.program (own_element target)
        (index_elements source ++ index_elements target) st
    _ ← fault_if NIL (is_nil (read st a))
    _ ← fault_if NOT_SAME (not (same_value (read st a) (read st b)) || same_cell a b)
    give (count_changed one_less (written st b Nil) (number_of (read st a)))
  statement n run (Call at back None method args) st = do
    _ ← spend (length args)
    _ ← fault_if TOO_DEEP (is_too_deep st)
    invoked run back (method_named setting.program (own_class st) method.text) st.self []
        (cells_named st args) st
  statement n run (Call at back (Some (Whole name)) method args) st = do
    _ ← spend (length args)
    let cell = cell_named setting.program st name.text
    let self = number_of (read st cell)
    _ ← fault_if NIL (is_nil (read st cell))
    _ ← fault_if TOO_DEEP (is_too_deep st)
    invoked run back (method_named setting.program (class_of st self) method.text) self (cell ∷ [])
        (cells_named st args) st
  statement n run (Call at back (Some (Item name index)) method args) st =
      with_local run (element_name at).text (Null at) (element_call at back name index method args)
      (Null at) st
  statement n run (Skip at) st = give st

  -- a block, at most n statements deep and long; each statement counts 1
  abbrev pub exec : ℕ → Statements → State → Run State
  exec n End st = give st
  exec zero (Then first rest) st = More
  exec (suc n) (Then first rest) st = do
    _ ← spend 1
    st' ← statement n (exec n) first st
    exec n rest st'
