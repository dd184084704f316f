-- The assumptions of the inverse law: what holds for good states and for typed statements.
use Rattle.std.proofs.Common.{◌≡◌, ◌≢◌, ℕ, suc, ◌+◌, ◌<◌, ◌≤◌, true, false, Bool, List, [], ◌∷◌, ◌++◌, length, map}
use Rattle.std.proofs.Common.{Some, None, Ok, slice_get, replicate}
use Rattle.std.specs.Prelude.{◌%◌, ◌^◌}
use Rattle.std.specs.Option.{unwrap_or}
use Rattle.meaning_reached.specs.rpp_words.Words.{IsWord, is_less}
use Rattle.meaning_reached.specs.buddy_book.Shown.{is_sound}
use Rattle.meaning_reached.specs.buddy_book.Place.{Taken, count_taken, Placing, block_of, place}
use Rattle.meaning_reached.specs.rpp_tree.declared.tree.Var.{Var}
use Rattle.meaning_reached.specs.rpp_tree.declared.tree.VarType.{VarType}
use Rattle.meaning_reached.specs.rpp_tree.declared.tree.Ident.{Ident}
use Rattle.meaning_reached.specs.rpp_tree.declared.tree.UpdateOp.{UpdateOp}
use Rattle.meaning_reached.specs.rpp_tree.Tree.{Expression, Lvalue, Whole, Item, Creation, Object as AnObject, Ints, Objects, Statement}
use Rattle.meaning_reached.specs.rpp_tree.Tree.{Statements, Update, Swap, If, From, Construct, Local, New, Delete, Copy, Uncopy, Call}
use Rattle.meaning_reached.specs.rpp_tree.Tree.{End, Then, Procedure, Source, TreePart, Operand, Target, Typed as TypedTarget}
use Rattle.meaning_reached.specs.rpp_tree.Tree.{Creates, Invokes, each_part, own_parts}
use Rattle.meaning_reached.specs.class_rules.Expressions.{occurs}
use Rattle.meaning_reached.specs.roopl_semantics.Run.{Done}
use Rattle.meaning_reached.specs.class_rules.Classes.{class_number, class_fields, method_named}
use Rattle.meaning_reached.specs.roopl_semantics.Store.{Value, Word, Nil, Name, Head, OfClass, OfInts, OfObjects, Object, Store, State}
use Rattle.meaning_reached.specs.roopl_semantics.Store.{main_name, is_nil, number_of, zero_values, object_named}
use Rattle.meaning_reached.specs.roopl_semantics.Value.{Cell, value_at, read, written, value as value_in, cell_of, cell_named}
use Rattle.meaning_reached.specs.roopl_semantics.Value.{own_class}
use Rattle.meaning_reached.specs.roopl_semantics.Elements.{elements, index_elements, own_element, share_array}
use Rattle.meaning_reached.specs.roopl_semantics.Execution.{Setting, order_of_cells, new_object as new_thing, freed, all_zero, count_changed}
use Rattle.meaning_reached.specs.roopl_semantics.Execution.{one_less, same_cell, bound, opened, moved_out, moved_back, in_direction}
use Rattle.meaning_reached.specs.roopl_semantics.Execution.{constructed, element_call, element_name, cells_named, class_of, is_too_deep}
use Rattle.meaning_reached.specs.roopl_semantics.Execution.{exec}
use Rattle.meaning_inverse.proofs.Later.{IsSound, Later}
use Rattle.meaning_inverse.proofs.Cells.{IsCell}
use Rattle.meaning_inverse.proofs.Seen.{Clean, CleanPlace}

-- a name of a live object
pub record IsLive (store : Store) (name : ℕ) : Type 0 where
  pub object : Object
  pub there : object_named store name ≡ Some object

-- all that the frame and the objects hold is live
pub record AreLive (st : State) : Type 0 where
  pub self : IsLive st.store st.self
  pub frame : (i name : ℕ) → value_at st.frame i ≡ Name name → IsLive st.store name
  pub cells : (n : ℕ) (object : Object) → object_named st.store n ≡ Some object → (i name : ℕ)
      → slice_get object.cells i ≡ Some (Name name) → IsLive st.store name

abbrev pub CleanMade : Source → State → Creation → Type 0
CleanMade program st (AnObject class) = Unit {0}
CleanMade program st (Ints size) = Clean program st size
CleanMade program st (Objects class size) = Clean program st size

abbrev pub CleanPart : Source → State → TreePart → Type 0
CleanPart program st (Operand value) = Clean program st value
CleanPart program st (Target place) = CleanPlace program st place
CleanPart program st (TypedTarget kind place) = CleanPlace program st place
CleanPart program st (Creates made) = CleanMade program st made
CleanPart program st (Invokes receiver method args) = Unit {0}

-- the expressions and places of a statement meet values of their kinds
abbrev pub CleanIn : Source → State → Statement → Type 0
CleanIn program st s = each_part (λ (A B : Type 0). A × B) (CleanPart program st) (Unit {0}) (own_parts s)

-- an update of a word by a word; neither the place nor the value depends on what it writes
pub record UpdateFacts (program : Source) (st : State) (target : Lvalue) (value : Expression) (cell : Cell) (v : Value)
    : Type 0 where
  pub there : IsCell st cell
  pub old : ℕ
  pub is_word : IsWord old
  pub reads : read st cell ≡ Word old
  pub by : ℕ
  pub by_word : IsWord by
  pub adds : v ≡ Word by
  pub place_stays : (x : ℕ) → cell_of program (written st cell (Word x)) target ≡ Ok cell
  pub value_stays : (x : ℕ) → value_in program (written st cell (Word x)) value ≡ Ok v
  pub apart_stays : (x : ℕ) → share_array program (written st cell (Word x)) (own_element target)
      (index_elements target ++ elements value) ≡ false

-- the state after a swap
abbrev pub swapped : State → Cell → Cell → State
swapped st a b = written (written st a (read st b)) b (read st a)

-- a swap of cells that are there and are found again
pub record SwapFacts (program : Source) (st : State) (left right : Lvalue) (a b : Cell) : Type 0 where
  pub left_there : IsCell st a
  pub right_there : IsCell st b
  pub left_stays : cell_of program (swapped st a b) left ≡ Ok a
  pub right_stays : cell_of program (swapped st a b) right ≡ Ok b
  pub apart_stays : share_array program (swapped st a b) (own_element left ++ own_element right)
      (index_elements left ++ index_elements right) ≡ false

-- the states after `new` and after `delete`
abbrev pub made_state : State → Cell → ℕ → Head → List Value → State
made_state st cell size head cells =
    written (record st {
      store = (2 + count_taken st.log, new_thing head cells) ∷ st.store;
      log = Taken (2 + count_taken st.log) (order_of_cells size) ∷ st.log;
    }) cell (Name (2 + count_taken st.log))

-- the number of a class that is known, and the cells of a new object of it
abbrev pub number_named : Source → Ident → ℕ
number_named program class = unwrap_or (class_number program class.text) 0

abbrev pub new_cells : Source → Ident → List Value
new_cells program class = zero_values (class_fields program (number_named program class))

-- `new` of an object: its cell, found again after it
pub record NewFacts (program : Source) (st : State) (class : Ident) (target : Lvalue) (cell : Cell) : Type 0 where
  pub known : class_number program class.text ≡ Some (number_named program class)
  pub there : IsCell st cell
  pub stays : cell_of program (made_state st cell (length (new_cells program class))
      (OfClass (number_named program class)) (new_cells program class)) target ≡ Ok cell
  pub apart_stays : share_array program (made_state st cell (length (new_cells program class))
      (OfClass (number_named program class)) (new_cells program class)) (own_element target) (index_elements target)
      ≡ false

-- `new` of an array: its length too is found again
pub record NewArrayFacts (program : Source) (st : State) (target : Lvalue) (size : Expression) (head : ℕ → Head)
    (element : Value) (cell : Cell) (v : Value) : Type 0 where
  pub count : ℕ
  pub is_count : v ≡ Word count
  pub there : IsCell st cell
  pub stays : cell_of program (made_state st cell count (head count) (replicate count element)) target ≡ Ok cell
  pub size_stays : value_in program (made_state st cell count (head count) (replicate count element)) size ≡ Ok v

-- `delete` of an object: its cells are of their class's types, so they are zeros as a new object has them
pub record DeleteFacts (setting : Setting) (st : State) (class : Ident) (target : Lvalue) (cell : Cell) : Type 0 where
  pub name : ℕ
  pub is_name : read st cell ≡ Name name
  pub not_main : name ≢ main_name
  pub there : IsCell st cell
  pub known : class_number setting.program class.text ≡ Some (number_named setting.program class)
  pub zeros : (object : Object) → object_named st.store name ≡ Some object
      → object.head ≡ OfClass (number_named setting.program class) → all_zero object.cells ≡ true
      → object.cells ≡ new_cells setting.program class
  pub stays : cell_of setting.program (freed setting cell name st) target ≡ Ok cell
  pub apart_stays : share_array setting.program (freed setting cell name st) (own_element target)
      (index_elements target) ≡ false

pub record DeleteArrayFacts (setting : Setting) (st : State) (target : Lvalue) (size : Expression) (head : ℕ → Head)
    (element : Value) (cell : Cell) (v : Value) : Type 0 where
  pub name : ℕ
  pub is_name : read st cell ≡ Name name
  pub not_main : name ≢ main_name
  pub there : IsCell st cell
  pub count : ℕ
  pub is_count : v ≡ Word count
  pub heads : (object : Object) → object_named st.store name ≡ Some object → object.head ≡ head (length object.cells)
  pub zeros : (object : Object) → object_named st.store name ≡ Some object → all_zero object.cells ≡ true
      → object.cells ≡ replicate (length object.cells) element
  pub long : (object : Object) → object_named st.store name ≡ Some object → is_less (length object.cells) 1 ≡ false
  pub stays : cell_of setting.program (freed setting cell name st) target ≡ Ok cell
  pub size_stays : value_in setting.program (freed setting cell name st) size ≡ Ok v

-- where a block of an order is in the heap
pub record Stands (h block order : ℕ) : Type 0 where
  pub to : order ≤ h
  pub aligned : block % 2 ^ order ≡ 0
  pub fits : block + 2 ^ order ≤ 2 ^ h

-- the blocks of the live objects are in the heap, and the free lists are in order
pub record Placed (h : ℕ) (st : State) : Type 0 where
  pub at : Placing
  pub is : place h st.log ≡ Some at
  pub sound : is_sound (2 ^ h) 2 at.book ≡ true
  pub lists : length at.book ≡ h
  pub stands : (name : ℕ) (object : Object) → object_named st.store name ≡ Some object → name ≢ main_name
      → Stands h (block_of at.blocks name) (order_of_cells (length object.cells))

-- a copy: its cells, found again after it, and the name that they hold
pub record CopyFacts (program : Source) (st after : State) (source target : Lvalue) (a b : Cell) : Type 0 where
  pub there : IsCell st b
  pub name : ℕ
  pub is_name : read st a ≡ Name name
  pub source_stays : cell_of program after source ≡ Ok a
  pub target_stays : cell_of program after target ≡ Ok b
  pub apart_stays : share_array program after (own_element target) (index_elements source ++ index_elements target)
      ≡ false

-- the state after a copy, and after its inverse
abbrev pub copied : State → Cell → Cell → State
copied st a b = count_changed suc (written st b (read st a)) (number_of (read st a))

abbrev pub uncopied : State → Cell → Cell → State
uncopied st a b = count_changed one_less (written st b Nil) (number_of (read st a))

-- each cell of a list
abbrev pub Each : (Cell → Type 0) → List Cell → Type 0
Each P [] = Unit {0}
Each P (c ∷ cells) = P c × Each P cells

-- no cell occurs twice
abbrev pub AreDistinct : List Cell → Type 0
AreDistinct [] = Unit {0}
AreDistinct (c ∷ cells) = Each (λ d. same_cell c d ≡ false) cells × AreDistinct cells

abbrev pub is_word : Value → Bool
is_word (Word w) = true
is_word Nil = false
is_word (Name n) = false

-- the state in which a method begins
abbrev pub entered : Procedure → ℕ → List Cell → List Cell → State → State
entered method self receiver args st =
    let caller = moved_out (receiver ++ args) st in
    record {
      frame = bound method.params (map (read st) args);
      self = self;
      depth = 1 + st.depth;
      store = caller.store;
      log = caller.log;
    }

-- the caller's state once a method has ended, before the values move back
abbrev pub returned : List Cell → State → State → State
returned cells st end = record (moved_out cells st) { store = end.store; log = end.log }

-- a call: its cells exist and differ, and it has as many values as parameters. Its method begins in
-- a good state, and it returns a word to a cell exactly if the cell holds a word.
pub record CallFacts (setting : Setting) (Context : Type 0) (Good : Context → State → Type 0)
    (Typed : Context → Statements → Type 0) (C : Context) (st : State) (back : Bool) (method : Procedure) (self : ℕ)
    (receiver args : List Cell) : Type 0 where
  pub distinct : AreDistinct (receiver ++ args)
  pub there : Each (IsCell st) (receiver ++ args)
  pub arity : length args ≡ length method.params
  pub inner : Context
  pub good : Good inner (entered method self receiver args st)
  pub typed : Typed inner (in_direction back method.body)
  pub still : (end after : State) (cost : ℕ) → Good inner end → Later (entered method self receiver args st) end
      → Good C after
      → moved_back (receiver ++ args) (map (read st) receiver ++ map (λ binding. binding.value) end.frame)
      (returned (receiver ++ args) st end) ≡ Done after cost
      → Each (IsCell (returned (receiver ++ args) st end)) (receiver ++ args)
  pub sorts : (end after : State) (cost : ℕ) → Good inner end → Later (entered method self receiver args st) end
      → Good C after
      → moved_back (receiver ++ args) (map (read st) receiver ++ map (λ binding. binding.value) end.frame)
      (returned (receiver ++ args) st end) ≡ Done after cost
      → Each (λ cell. is_word (read (returned (receiver ++ args) st end) cell) ≡ is_word (read after cell))
      (receiver ++ args)

pub record Ground (setting : Setting) : Type 1 where
  -- the position of a block: its class, the visible names and their types, and who else has object
  -- ids
  pub Context : Type 0
  pub Good : Context → State → Type 0
  pub Typed : Context → Statements → Type 0
  pub sound : (C : Context) (st : State) → Good C st → IsSound st
  pub live : (C : Context) (st : State) → Good C st → AreLive st
  pub keeps : (C : Context) (n : ℕ) (body : Statements) (st end : State) (cost : ℕ) → Typed C body → Good C st
      → exec setting n body st ≡ Done end cost → Good C end
  pub rest : (C : Context) (first : Statement) (rest : Statements) → Typed C (Then first rest) → Typed C rest
  pub alone : (C : Context) (first : Statement) (rest : Statements) → Typed C (Then first rest)
      → Typed C (Then first End)
  pub clean : (C : Context) (first : Statement) (st : State) → Typed C (Then first End) → Good C st
      → CleanIn setting.program st first
  pub update : (C : Context) (at : ℕ) (op : UpdateOp) (target : Lvalue) (value : Expression) (st : State) (cell : Cell)
      (v : Value) → Typed C (Then (Update at op target value) End) → Good C st
      → cell_of setting.program st target ≡ Ok cell → value_in setting.program st value ≡ Ok v
      → share_array setting.program st (own_element target) (index_elements target ++ elements value) ≡ false
      → UpdateFacts setting.program st target value cell v
  pub swap : (C : Context) (at : ℕ) (left right : Lvalue) (st : State) (a b : Cell)
      → Typed C (Then (Swap at left right) End) → Good C st
      → cell_of setting.program st left ≡ Ok a → cell_of setting.program st right ≡ Ok b
      → share_array setting.program st (own_element left ++ own_element right)
      (index_elements left ++ index_elements right) ≡ false → SwapFacts setting.program st left right a b
  pub branches : (C : Context) (at : ℕ) (test : Expression) (taken other : Statements) (after : Expression)
      → Typed C (Then (If at test taken other after) End) → Typed C taken × Typed C other
  pub turns : (C : Context) (at : ℕ) (entry : Expression) (first again : Statements) (exit : Expression)
      → Typed C (Then (From at entry first again exit) End) → Typed C first × Typed C again
  -- a local variable, also that of `construct` and of a call on an element
  pub local : (C : Context) (at : ℕ) (var : Var) (value : Expression) (body : Statements) (end_var : Var)
      (end_value : Expression) (st : State) (v : Value) → Typed C (Then (Local at var value body end_var end_value) End)
      → Good C st
      → value_in setting.program st value ≡ Ok v → (inner : Context) × Good inner (opened var.name.text v st)
      × Typed inner body
  pub local_words : (C : Context) (at : ℕ) (var : Var) (value : Expression) (body : Statements) (end_var : Var)
      (end_value : Expression) → Typed C (Then (Local at var value body end_var end_value) End)
      → (occurs var.name.text value ≡ false) × (occurs var.name.text end_value ≡ false)
      × (end_var.name.text ≡ var.name.text)
  pub construct : (C : Context) (at : ℕ) (class name : Ident) (body : Statements) (end : Ident) (st : State)
      → Typed C (Then (Construct at class name body end) End) → Good C st
      → (inner : Context) × Good inner (opened name.text Nil st) × Typed inner (constructed at class name body)
  pub element : (C : Context) (at : ℕ) (back : Bool) (name : Ident) (index : Expression) (method : Ident)
      (args : List Ident) (st : State) → Typed C (Then (Call at back (Some (Item name index)) method args) End)
      → Good C st
      → (inner : Context) × Good inner (opened (element_name at).text Nil st)
      × Typed inner (element_call at back name index method args)
  pub call_own : (C : Context) (at : ℕ) (back : Bool) (method : Ident) (args : List Ident) (st : State)
      → Typed C (Then (Call at back None method args) End) → Good C st → is_too_deep setting st ≡ false
      → CallFacts setting Context Good Typed C st back (method_named setting.program (own_class st) method.text) st.self
      [] (cells_named setting st args)
  pub call : (C : Context) (at : ℕ) (back : Bool) (name method : Ident) (args : List Ident) (st : State)
      → Typed C (Then (Call at back (Some (Whole name)) method args) End) → Good C st
      → is_nil (read st (cell_named setting.program st name.text)) ≡ false → is_too_deep setting st ≡ false
      → (self : ℕ) × (read st (cell_named setting.program st name.text) ≡ Name self)
      × CallFacts setting Context Good Typed C st back (method_named setting.program (class_of setting st self)
      method.text) self (cell_named setting.program st name.text ∷ []) (cells_named setting st args)
  pub copy : (C : Context) (at : ℕ) (kind : VarType) (source target : Lvalue) (st : State) (a b : Cell)
      → Typed C (Then (Copy at kind source target) End) → Good C st
      → cell_of setting.program st source ≡ Ok a → cell_of setting.program st target ≡ Ok b
      → share_array setting.program st (own_element target) (index_elements source ++ index_elements target) ≡ false
      → is_nil (read st a) ≡ false → is_nil (read st b) ≡ true
      → CopyFacts setting.program st (copied st a b) source target a b
  pub uncopy : (C : Context) (at : ℕ) (kind : VarType) (source target : Lvalue) (st : State) (a b : Cell)
      → Typed C (Then (Uncopy at kind source target) End) → Good C st
      → cell_of setting.program st source ≡ Ok a → cell_of setting.program st target ≡ Ok b
      → share_array setting.program st (own_element target) (index_elements source ++ index_elements target) ≡ false
      → is_nil (read st a) ≡ false → read st a ≡ read st b → same_cell a b ≡ false
      → CopyFacts setting.program st (uncopied st a b) source target a b
  pub counts : (C : Context) (st : State) → Good C st → (c : Cell) (name : ℕ) (object : Object) → read st c ≡ Name name
      → object_named st.store name ≡ Some object → 0 < object.count
  pub placed : (C : Context) (st : State) → Good C st → Placed setting.limits.heap st
  pub new_object : (C : Context) (at : ℕ) (class : Ident) (target : Lvalue) (st : State) (cell : Cell)
      → Typed C (Then (New at (AnObject class) target) End) → Good C st
      → cell_of setting.program st target ≡ Ok cell → share_array setting.program st (own_element target)
      (index_elements target) ≡ false → read st cell ≡ Nil → NewFacts setting.program st class target cell
  pub new_ints : (C : Context) (at : ℕ) (size : Expression) (target : Lvalue) (st : State) (cell : Cell) (v : Value)
      → Typed C (Then (New at (Ints size) target) End) → Good C st
      → cell_of setting.program st target ≡ Ok cell → value_in setting.program st size ≡ Ok v → read st cell ≡ Nil
      → NewArrayFacts setting.program st target size OfInts (Word 0) cell v
  pub new_objects : (C : Context) (at : ℕ) (class : Ident) (size : Expression) (target : Lvalue) (st : State)
      (cell : Cell) (v : Value) → Typed C (Then (New at (Objects class size) target) End) → Good C st
      → cell_of setting.program st target ≡ Ok cell → value_in setting.program st size ≡ Ok v → read st cell ≡ Nil
      → NewArrayFacts setting.program st target size (OfObjects
      (unwrap_or (class_number setting.program class.text) 0)) Nil cell v
  pub delete_object : (C : Context) (at : ℕ) (class : Ident) (target : Lvalue) (st : State) (cell : Cell)
      → Typed C (Then (Delete at (AnObject class) target) End) → Good C st
      → cell_of setting.program st target ≡ Ok cell → share_array setting.program st (own_element target)
      (index_elements target) ≡ false → is_nil (read st cell) ≡ false
      → Good C (freed setting cell (number_of (read st cell)) st) → DeleteFacts setting st class target cell
  pub delete_ints : (C : Context) (at : ℕ) (size : Expression) (target : Lvalue) (st : State) (cell : Cell) (v : Value)
      → Typed C (Then (Delete at (Ints size) target) End) → Good C st
      → cell_of setting.program st target ≡ Ok cell → value_in setting.program st size ≡ Ok v
      → is_nil (read st cell) ≡ false → Good C (freed setting cell (number_of (read st cell)) st)
      → DeleteArrayFacts setting st target size OfInts (Word 0) cell v
  pub delete_objects : (C : Context) (at : ℕ) (class : Ident) (size : Expression) (target : Lvalue) (st : State)
      (cell : Cell) (v : Value) → Typed C (Then (Delete at (Objects class size) target) End) → Good C st
      → cell_of setting.program st target ≡ Ok cell → value_in setting.program st size ≡ Ok v
      → is_nil (read st cell) ≡ false → Good C (freed setting cell (number_of (read st cell)) st)
      → DeleteArrayFacts setting st target size (OfObjects (unwrap_or (class_number setting.program class.text) 0))
      Nil cell v
