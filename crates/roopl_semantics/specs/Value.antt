-- Places and values.
use Rattle.std.specs.Prelude.{ℕ, zero, suc, nat_lt, List, [], ◌∷◌, map, length, position, Option}
use Rattle.std.specs.Prelude.{Some, None, Result, Ok, Err, slice_get, slice_set, if◌then◌else◌}
use Rattle.std.specs.Option.{unwrap_or}
use Rattle.std.specs.Str.{bytes_eq}
use Rattle.inverse_rules.specs.rpp_tree.declared.tree.Var.{Var}
use Rattle.inverse_rules.specs.rpp_tree.declared.tree.BinOp.{BinOp}
use Rattle.inverse_rules.specs.rpp_tree.Tree.{Expression, Number, Null, Variable, Element, Binary, Lvalue, Whole}
use Rattle.inverse_rules.specs.rpp_tree.Tree.{Item, Source, nodes, index_nodes}
use Rattle.class_rules.specs.Members.{field_of}
use Rattle.class_rules.specs.Classes.{class_fields}
pub use Rattle.code_conventions.specs.declared.faults.TheConstants.{NIL, INDEX}
use Rattle.roopl_semantics.specs.Operators.{operated}
use Rattle.roopl_semantics.specs.Run.{Run, after_cost, given}
use Rattle.roopl_semantics.specs.Store.{Value, Word, Nil, Name, Binding, State, number_of}
use Rattle.roopl_semantics.specs.Store.{object_at, changed_at, class_of_head}

-- a cell that can be read and changed: a variable of the frame, or a field or element of an object
-- or array
pub data Cell : Type 0 where
  Slot : (index : ℕ) → Cell
  Part : (name index : ℕ) → Cell

-- the index of the innermost variable of a name in the frame
abbrev pub slot_of : List Binding → List ℕ → Option ℕ
slot_of frame name = position (bytes_eq name) (map (λ binding. binding.name) frame)

-- the class of the current object
abbrev pub own_class : State → ℕ
own_class st = class_of_head (object_at st.store st.self).head

-- the variable at this place of the frame, or else the field
abbrev pub slot_or_field : Source → State → List ℕ → Option ℕ → Cell
slot_or_field program st name (Some index) = Slot index
slot_or_field program st name None =
    Part st.self (unwrap_or (field_of (class_fields program (own_class st)) name) 0)

-- what a name means: the innermost variable of that name, else a field
abbrev pub cell_named : Source → State → List ℕ → Cell
cell_named program st name = slot_or_field program st name (slot_of st.frame name)

abbrev pub binding_value : Option Binding → Value
binding_value (Some binding) = binding.value
binding_value None = Nil

abbrev pub value_at : List Binding → ℕ → Value
value_at frame index = binding_value (slice_get frame index)

-- the frame with another value of the variable at a place
abbrev pub with_value : List Binding → ℕ → Value → List Binding
with_value [] index value = []
with_value (binding ∷ frame) zero value = record binding { value = value } ∷ frame
with_value (binding ∷ frame) (suc index) value = binding ∷ with_value frame index value

-- what a cell holds
abbrev pub read : State → Cell → Value
read st (Slot index) = value_at st.frame index
read st (Part name index) = unwrap_or (slice_get (object_at st.store name).cells index) Nil

-- the state in which a cell holds a value
abbrev pub written : State → Cell → Value → State
written st (Slot index) value = record st { frame = with_value st.frame index value }
written st (Part name index) value =
    record st {
      store = changed_at st.store name
          (λ object. record object { cells = slice_set object.cells index value });
    }

abbrev pub variable_value : Source → State → List ℕ → Value
variable_value program st name = read st (cell_named program st name)

-- the element of an array at an index, a word without sign
abbrev pub element_cell : State → Value → ℕ → Result Cell ℕ
element_cell st (Name array) index =
    if nat_lt index (length (object_at st.store array).cells) then Ok (Part array index)
    else Err INDEX
element_cell st _ index = Err NIL

-- the element of the array of a name, once the index has its value
abbrev pub element_of : Source → State → List ℕ → Result Value ℕ → Result Cell ℕ
element_of program st name (Ok index) = element_cell st (variable_value program st name)
    (number_of index)
element_of program st name (Err fault) = Err fault

abbrev pub read_cell : State → Result Cell ℕ → Result Value ℕ
read_cell st (Ok cell) = Ok (read st cell)
read_cell st (Err fault) = Err fault

-- an operator on two values: `=` and `!=` compare any two of one type, the others take words
abbrev pub combined : BinOp → Result Value ℕ → Result Value ℕ → Result Value ℕ
combined op (Err fault) right = Err fault
combined op (Ok left) (Err fault) = Err fault
combined op (Ok left) (Ok right) = Ok (Word (operated op (number_of left) (number_of right)))

-- the value of an expression, or the fault that its evaluation meets first
abbrev pub value : Source → State → Expression → Result Value ℕ
value program st (Number at word) = Ok (Word word)
value program st (Null at) = Ok Nil
value program st (Variable name) = Ok (variable_value program st name.text)
value program st (Element name index) =
    read_cell st (element_of program st name.text (value program st index))
value program st (Binary at op left right) = combined op (value program st left)
    (value program st right)

-- the cell that a place means, or the fault that is met
abbrev pub cell_of : Source → State → Lvalue → Result Cell ℕ
cell_of program st (Whole name) = Ok (cell_named program st name.text)
cell_of program st (Item name index) = element_of program st name.text (value program st index)

-- an evaluation counts the expression's nodes first
abbrev pub evaluated : Source → Expression → State → Run Value
evaluated program e st = after_cost (nodes e) (given (value program st e))

-- finding a place counts its index's nodes first
abbrev pub found : Source → Lvalue → State → Run Cell
found program target st = after_cost (index_nodes target) (given (cell_of program st target))
