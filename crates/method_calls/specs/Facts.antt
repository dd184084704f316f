-- What calls need of the layers below: the current frame, the class table, the image.
use Rattle.std.specs.Prelude.{◌≡◌, ◌≢◌, ℕ, ◌+◌, ◌^◌, ◌<◌, ◌≤◌, Bool, true, false, not, nat_lt, List}
use Rattle.std.specs.Prelude.{[], ◌∷◌, length, map, slice_index, slice_set, bit_xor}
use Rattle.refine_form.specs.rpp_words.declared.input.TheConstants.{FRAME_WORDS}
use Rattle.refine_form.specs.rpp_tree.declared.tree.Ident.{Ident}
use Rattle.refine_form.specs.rpp_tree.declared.tree.Var.{Var}
use Rattle.refine_form.specs.paired_code.Does.{Fine}
use Rattle.refine_form.specs.rpp_tree.Tree.{Expression}
use Rattle.refine_form.specs.class_rules.Classes.{method_named}
use Rattle.refine_form.specs.paired_code.Layout.{Routine, Tidy}
use Rattle.refine_form.specs.roopl_semantics.Store.{Value, Name, Store, State, is_zero, is_nil, number_of, cleared}
use Rattle.refine_form.specs.roopl_semantics.Store.{same_value}
use Rattle.refine_form.specs.roopl_semantics.Value.{Cell, Slot, cell_named, own_class, read, written, evaluated}
use Rattle.refine_form.specs.roopl_semantics.Execution.{bound, opened, closed, class_of}
use Rattle.refine_form.specs.rpp_words.declared.input.FieldWord.{FieldWord}
use Rattle.refine_form.specs.pisa_isa.Loaded.{loaded}
use Rattle.refine_form.specs.pisa_isa.declared.fixed.TheConstants.{STACK_CELL, END_CELL}
use Rattle.refine_form.specs.code_conventions.declared.memory.TheConstants.{HEADER_WORDS, MAIN_OBJECT}
use Rattle.refine_form.specs.code_conventions.declared.memory.TheConstants.{OBJECT_WORD, PLACE_WORD, TABLE_HEADER}
use Rattle.refine_form.specs.roopl_semantics.Source.{starting, main_body}
use Rattle.refine_form.specs.roopl_semantics.Layout.{layout}
use Rattle.refine_form.specs.Form.{World, Scope, Moved, pairs, with_var, run_result}
use Rattle.method_calls.specs.CallCode.{first_frame_word}
use Rattle.refine_form.specs.declared.spot.Spot.{Spot}
use Rattle.refine_form.specs.declared.spot.Spot.TheVariants.{Field, Frame}

-- the address of a storage slot, if the object and the frame have these addresses
abbrev pub address : ℕ → ℕ → Spot → ℕ
address object frame (Field i) = object + (HEADER_WORDS + i)
address object frame (Frame j) = frame + j

abbrev pub IsNear : Spot → Type 0
IsNear (Field i) = i < 2 ^ 16
IsNear (Frame j) = j < 2 ^ 16

-- a cell of a current frame and a word of the frame above
pub record AreApart (cells : List ℕ) (at up : ℕ) : Type 0 where
  pub at_in : at < length cells
  pub up_in : up < length cells
  pub apart : at ≢ up

-- whether a cell is free for its word again: it still reads 0 or nil
pub record HasFreeWord (cells : List ℕ) (at : ℕ) (free : Bool) : Type 0 where
  pub touched : free ≡ false → slice_index cells at ≢ 0
  pub untouched : free ≡ true → slice_index cells at ≡ 0

-- a value goes from a cell of a current frame to an empty word of the frame above
pub record MovesIn (cells : List ℕ) (at up : ℕ) (After : List ℕ → Type 0) : Type 0 where
  pub words : AreApart cells at up
  pub empty : slice_index cells up ≡ 0
  pub moved : After (slice_set (slice_set cells at 0) up (slice_index cells at))

-- and back, if the cell is free
pub record MovesBack (cells : List ℕ) (at up : ℕ) (free : Bool) (After : List ℕ → Type 0) : Type 0
  where
    pub words : AreApart cells at up
    pub cell : HasFreeWord cells at free
    pub back : free ≡ true → After (slice_set (slice_set cells up 0) at (slice_index cells up))

-- the end of the stack is in its cell: it says whether one more call may be active
pub record HasEnd (cells : List ℕ) (frame : ℕ) (full : Bool) : Type 0 where
  pub cell_in : END_CELL < length cells
  pub small : slice_index cells END_CELL < 2 ^ 31
  pub at_end : full ≡ true → frame + FRAME_WORDS ≡ slice_index cells END_CELL
  pub room : full ≡ false → frame + FRAME_WORDS < slice_index cells END_CELL

-- the table of an object's class, and the code address in a slot: it is not in the object's own
-- first word, which is 0 while the code address is read
pub record HasPlace (cells : List ℕ) (object slot place : ℕ) : Type 0 where
  pub object_in : object < length cells
  pub small : slice_index cells object < 2 ^ 23
  pub entry_in : slice_index cells object + (TABLE_HEADER + slot) < length cells
  pub apart : slice_index cells object + (TABLE_HEADER + slot) ≢ object
  pub entry : slice_index cells (slice_index cells object + (TABLE_HEADER + slot)) ≡ place

-- a frame's words for a link and a place
pub record HasFrameWords (cells : List ℕ) (frame link place : ℕ) : Type 0 where
  pub words_in : frame + PLACE_WORD < length cells
  pub link_word : slice_index cells frame ≡ link
  pub place_word : slice_index cells (frame + PLACE_WORD) ≡ place

-- the cells of the names as they are when the last one has moved first
abbrev pub out_from : List Cell → State → State
out_from [] st = st
out_from (c ∷ cs) st = written (out_from cs st) c (cleared (read (out_from cs st) c))

abbrev pub vals_from : List Cell → State → List Value
vals_from [] st = []
vals_from (c ∷ cs) st = read (out_from cs st) c ∷ vals_from cs st

-- what holds for names when code is made, and what stays while a frame is current
pub record KnownCalls (w : World) : Type 1 where
  -- a name is a variable or a field; its storage slot; a method of the current object with these
  -- arguments, and its slot
  pub IsVariable : Scope → Ident → Type 0
  pub spot : Scope → Ident → Spot
  pub IsMethod : Scope → Ident → List Ident → Type 0
  pub slot : Scope → Ident → ℕ
  -- the source cell of a name, the depth, the object and its class
  pub cell_of : Scope → w.Under → Ident → Cell
  pub depth_of : w.Under → ℕ
  pub self_of : w.Under → ℕ
  pub class_of : w.Under → ℕ
  -- the same frame with a link and a place saved
  pub put : w.Under → ℕ → ℕ → w.Under
  -- what stays while a call on the current object is open, made from this state with its arguments
  -- moved
  pub deeper : Scope → w.Under → State → w.Under
  -- the routine of a method in a class
  pub routine : ℕ → Ident → ℕ

-- ---- what a current frame says

-- the address of a name's word
abbrev pub address_in : (w : World) → KnownCalls w → Scope → w.Under → Ident → ℕ
address_in w knows s u name = address (w.object_of u) (w.frame_of u) (knows.spot s name)

-- the word of the frame above for the argument before so many others
abbrev pub argument_above : (w : World) → w.Under → ℕ → ℕ
argument_above w u others = w.frame_of u + (FRAME_WORDS + (first_frame_word + others))

-- the word of the frame above for the current object
abbrev pub object_above : (w : World) → w.Under → ℕ
object_above w u = w.frame_of u + (FRAME_WORDS + OBJECT_WORD)

-- what a name holds
abbrev pub local_value_in : (w : World) → KnownCalls w → Scope → w.Under → State → Ident → Value
local_value_in w knows s u st name = read st (knows.cell_of s u name)

-- the state where it holds another value
abbrev pub with_local_value : (w : World) → KnownCalls w → Scope → w.Under → State → Ident → Value → State
with_local_value w knows s u st name v = written st (knows.cell_of s u name) v

-- the state where its value has moved out
abbrev pub without_local : (w : World) → KnownCalls w → Scope → w.Under → State → Ident → State
without_local w knows s u st name = with_local_value w knows s u st name (cleared (local_value_in w knows s u st name))

-- whether no more call may be open
abbrev pub is_stack_full : (w : World) → KnownCalls w → w.Under → Bool
is_stack_full w knows u = not (nat_lt (knows.depth_of u) w.setting.limits.deep)

-- a current frame is steady: its addresses are small, its depth, its object and the object's class
-- stay, and a name means the same cell all the while
pub record IsSteady (w : World) (knows : KnownCalls w) (s : Scope) (u : w.Under) (st : State) : Type 0
  where
    pub object_small : w.object_of u < 2 ^ 23
    pub frame_small : w.frame_of u < 2 ^ 23
    pub depth_is : st.depth ≡ knows.depth_of u
    pub self_is : st.self ≡ knows.self_of u
    pub class_is : own_class st ≡ knows.class_of u
    pub means : (name : Ident) → knows.IsVariable s name
        → cell_named w.setting.program st name.text ≡ knows.cell_of s u name

-- ---- what a call says about the frame that it opens

-- a call: what stays while it is open, and of which class the method is, by its name
pub record Callee (w : World) : Type 0 where
  pub under : w.Under
  pub class : ℕ
  pub name : Ident

-- the routine of its method
abbrev pub callee_routine : (w : World) → KnownCalls w → Callee w → ℕ
callee_routine w knows callee = knows.routine callee.class callee.name

-- the cells are those of the callee's frame, which is open
abbrev pub OpensCallee : (w : World) → KnownCalls w → Callee w → State → List ℕ → Type 0
OpensCallee w knows callee st cells =
    w.opens (w.routines.scope (callee_routine w knows callee)) callee.under [] st cells

-- the state in which it begins, on an object, from the caller's state and store
abbrev pub callee_begun : (w : World) → KnownCalls w → Callee w → List Value → ℕ → Store → State → State
callee_begun w knows callee vals self store st = record {
  frame = bound (w.routines.method (callee_routine w knows callee)).params vals;
  self = self;
  depth = 1 + st.depth;
  store = store;
  log = st.log;
}

-- the values of its variables where it has ended
abbrev pub last_values : State → List Value
last_values end = map (λ binding. binding.value) end.frame

-- the caller's state then
abbrev pub resumed : State → State → State
resumed st end = record st { store = end.store; log = end.log }

-- its frame is the next one, and nothing is saved in it
pub record IsNextFrame (w : World) (u deeper : w.Under) : Type 0 where
  pub fresh : w.IsFresh deeper
  pub above : w.frame_of deeper ≡ w.frame_of u + FRAME_WORDS

-- its routine is one of the image's, and runs the method that the class has for the name
pub record RunsMethod (w : World) (knows : KnownCalls w) (class : ℕ) (name : Ident) : Type 0 where
  pub is_routine : knows.routine class name < w.routines.count
  pub is_method : method_named w.setting.program class name.text
      ≡ w.routines.method (knows.routine class name)

-- while it is open it has a variable for each argument, and the table of the object's class has the
-- place of its routine
pub record CalleeTells (w : World) (knows : KnownCalls w) (callee : Callee w) (object slot : ℕ)
    (args : List Ident) (end : State) (cells : List ℕ) : Type 0 where
  pub as_many : length (last_values end) ≡ length args
  pub has_place : HasPlace cells object slot (w.routines.top (callee_routine w knows callee) + 1)

-- ---- what calls need of current frames, of the class table and of the image

-- each routine is in the image, with one jump before its code address; a step is worth at least one
-- cost unit, and a cost unit a thousand steps
pub record ImageFacts (w : World) : Type 0 where
  pub placed : (r : ℕ) → r < w.routines.count
      → Routine w.im (w.routines.number r) (w.routines.top r) (w.routines.body r)
  pub tidy : Tidy w.im
  pub counts : 1 ≤ w.rates.counts
  pub thousand : w.rates.steps ≡ 1000

-- the value of a variable moves into the frame above, while one more call may be open, and back
pub record MoveFacts (w : World) (knows : KnownCalls w) : Type 0 where
  pub moves_in :
      (s : Scope) (u : w.Under) (vals : List Moved) (st : State) (cells : List ℕ) (name : Ident)
      → w.opens s u vals st cells → knows.IsVariable s name → length vals < 32
      → is_stack_full w knows u ≡ false
      → MovesIn cells (address_in w knows s u name) (argument_above w u (length vals))
      (w.opens s u (record { from = name; value = local_value_in w knows s u st name } ∷ vals)
      (without_local w knows s u st name))
  pub moves_back :
      (s : Scope) (u : w.Under) (v : Value) (vals : List Moved) (st : State) (cells : List ℕ)
      (name : Ident)
      → w.opens s u (record { from = name; value = v } ∷ vals) st cells → knows.IsVariable s name
      → MovesBack cells (address_in w knows s u name) (argument_above w u (length vals))
      (is_zero (local_value_in w knows s u st name))
      (w.opens s u vals (with_local_value w knows s u st name v))

-- a call on the current object, of the method that the object's class has
abbrev pub own_callee : (w : World) → KnownCalls w → Scope → w.Under → State → Ident → Callee w
own_callee w knows s u st name = record {
  under = knows.deeper s u st;
  class = knows.class_of u;
  name = name;
}

-- a call on the current object has a routine; with all arguments in the frame above, that frame is
-- the callee's, and if the method has ended, its variables are the arguments that have moved
pub record OwnFacts (w : World) (knows : KnownCalls w) : Type 0 where
  pub slot_small : (s : Scope) (name : Ident) (args : List Ident) → knows.IsMethod s name args
      → knows.slot s name < 2 ^ 20
  pub dispatches : (s : Scope) (u : w.Under) (vals : List Moved) (st : State) (cells : List ℕ)
      (name : Ident) (args : List Ident)
      → w.opens s u vals st cells → knows.IsMethod s name args
      → RunsMethod w knows (knows.class_of u) name
  pub next : (s : Scope) (u : w.Under) (st : State) → IsNextFrame w u (knows.deeper s u st)
  pub same_object : (s : Scope) (u : w.Under) (st : State)
      → w.object_of (knows.deeper s u st) ≡ w.object_of u
  pub enters :
      (s : Scope) (u : w.Under) (vals : List Value) (st : State) (cells : List ℕ) (name : Ident)
      (args : List Ident)
      → w.opens s u (pairs args vals) st cells → knows.IsMethod s name args
      → length vals ≡ length args → is_stack_full w knows u ≡ false
      → OpensCallee w knows (own_callee w knows s u st name)
      (callee_begun w knows (own_callee w knows s u st name) vals st.self st.store st) cells
  pub tells :
      (s : Scope) (u : w.Under) (st end : State) (cells : List ℕ) (name : Ident) (args : List Ident)
      → OpensCallee w knows (own_callee w knows s u st name) end cells
      → knows.IsMethod s name args
      → CalleeTells w knows (own_callee w knows s u st name) (w.object_of u) (knows.slot s name) args
      end cells
  pub leaves :
      (s : Scope) (u : w.Under) (st end : State) (cells : List ℕ) (name : Ident) (args : List Ident)
      (vals : List Moved) (before : List ℕ)
      → w.opens s u vals st before
      → OpensCallee w knows (own_callee w knows s u st name) end cells
      → knows.IsMethod s name args
      → w.opens s u (pairs args (last_values end)) (resumed st end) cells

-- the words of a fresh frame for a link and a code address are 0; After these are stored, the
-- object and frame are still the current ones. If they are removed, the frame is as before.
pub record PutFacts (w : World) (knows : KnownCalls w) : Type 0 where
  pub saves : (s : Scope) (u : w.Under) (st : State) (cells : List ℕ) → w.opens s u [] st cells
      → w.IsFresh u
      → HasFrameWords cells (w.frame_of u) 0 0
  pub put_opens : (s : Scope) (u : w.Under) (st : State) (cells : List ℕ) (link place : ℕ)
      → w.opens s u [] st cells → w.IsFresh u → link < 2 ^ 32 → place < 2 ^ 32
      → w.opens s (knows.put u link place) [] st
      (slice_set (slice_set cells (w.frame_of u) link) (w.frame_of u + PLACE_WORD) place)
  pub put_words : (s : Scope) (u : w.Under) (st : State) (cells : List ℕ) (link place : ℕ)
      → w.opens s (knows.put u link place) [] st cells → w.IsFresh u
      → HasFrameWords cells (w.frame_of u) link place
  pub put_back : (s : Scope) (u : w.Under) (st : State) (cells : List ℕ) (link place : ℕ)
      → w.opens s (knows.put u link place) [] st cells → w.IsFresh u
      → w.opens s u [] st (slice_set (slice_set cells (w.frame_of u + PLACE_WORD) 0) (w.frame_of u)
      0)
  pub put_object : (u : w.Under) (link place : ℕ)
      → w.object_of (knows.put u link place) ≡ w.object_of u
  pub put_frame : (u : w.Under) (link place : ℕ)
      → w.frame_of (knows.put u link place) ≡ w.frame_of u

-- all of this; each variable is near, each current frame is steady, and the stack's end determines
-- its depth
pub record FrameFacts (w : World) (knows : KnownCalls w) : Type 0 where
  pub image : ImageFacts w
  pub near : (s : Scope) (name : Ident) → knows.IsVariable s name → IsNear (knows.spot s name)
  pub steady : (s : Scope) (u : w.Under) (vals : List Moved) (st : State) (cells : List ℕ)
      → w.opens s u vals st cells → IsSteady w knows s u st
  pub has_end : (s : Scope) (u : w.Under) (st : State) (cells : List ℕ) → w.opens s u [] st cells
      → HasEnd cells (w.frame_of u) (is_stack_full w knows u)
  pub moves : MoveFacts w knows
  pub calls : OwnFacts w knows
  pub puts : PutFacts w knows

-- what main needs of them, for an input: its frame is the first one, and if it is the only one,
-- the memory is the layout
pub record MainFacts (w : World) (statics : List ℕ) (input : List FieldWord) : Type 0 where
  pub main : ℕ
  pub is_routine : main < w.routines.count
  pub is_main : (w.routines.method main).body ≡ main_body w.setting.program
  pub first : w.Under
  pub fresh : w.IsFresh first
  pub object_is : w.object_of first ≡ MAIN_OBJECT
  pub frame_small : w.frame_of first < 2 ^ 23
  pub starts : w.opens (w.routines.scope main) first [] (starting w.setting.program input)
      (loaded statics w.setting.limits input)
  pub base_in : (st : State) (cells : List ℕ) → w.opens (w.routines.scope main) first [] st cells
      → STACK_CELL < length cells
  pub base_is : (st : State) (cells : List ℕ) → w.opens (w.routines.scope main) first [] st cells
      → slice_index cells STACK_CELL ≡ w.frame_of first
  pub ends : (st : State) (cells : List ℕ) → w.opens (w.routines.scope main) first [] st cells
      → cells ≡ layout w.setting.program w.setting.limits statics st.store st.log

-- the word of a new variable
abbrev pub new_word : Scope → ℕ
new_word s = first_frame_word + length s.vars

-- What a local variable needs of a current frame: its word is free, and determines its value.
-- IsInit: the expression may be the value of this new variable: it has its type, and does not name
-- it.
pub record LocalFacts (w : World) (IsInit : Scope → Var → Expression → Type 0) : Type 0 where
  pub frame_small : (s : Scope) (u : w.Under) (vals : List Moved) (st : State) (cells : List ℕ)
      → w.opens s u vals st cells → w.frame_of u < 2 ^ 23
  pub few_vars : (s : Scope) (var : Var) (e : Expression) → IsInit s var e → length s.vars < 2 ^ 9
  pub free_in : (s : Scope) (u : w.Under) (st : State) (cells : List ℕ) (var : Var) (e : Expression)
      → w.opens s u [] st cells → IsInit s var e → w.frame_of u + new_word s < length cells
  pub free_word : (s : Scope) (u : w.Under) (st : State) (cells : List ℕ) (var : Var)
      (e : Expression)
      → w.opens s u [] st cells → IsInit s var e → slice_index cells (w.frame_of u + new_word s) ≡ 0
  pub declares : (s : Scope) (u : w.Under) (st : State) (cells : List ℕ) (var : Var)
      (e : Expression) (v : Value) (c : ℕ)
      → w.opens s u [] st cells → IsInit s var e → run_result (evaluated w.setting.program e st)
      ≡ Fine v c
      → w.opens (with_var s var) u [] (opened var.name.text v st)
      (slice_set cells (w.frame_of u + new_word s) (w.word_of u st v))
  pub var_in : (s : Scope) (u : w.Under) (st : State) (cells : List ℕ) (var : Var) (e : Expression)
      → w.opens (with_var s var) u [] st cells → IsInit s var e
      → w.frame_of u + new_word s < length cells
  pub var_word : (s : Scope) (u : w.Under) (st : State) (cells : List ℕ) (var : Var)
      (e : Expression)
      → w.opens (with_var s var) u [] st cells → IsInit s var e
      → slice_index cells (w.frame_of u + new_word s) ≡ w.word_of u st (read st (Slot 0))
  -- if its word is taken away, expressions can be read; and if the value is the closing one,
  -- the frame is open without it
  pub undeclares : (s : Scope) (u : w.Under) (st : State) (cells : List ℕ) (var : Var)
      (e : Expression)
      → w.opens (with_var s var) u [] st cells → IsInit s var e
      → w.reads s u (closed st) (slice_set cells (w.frame_of u + new_word s) 0)
  pub closes : (s : Scope) (u : w.Under) (st : State) (cells : List ℕ) (var : Var) (e : Expression)
      (v : Value) (c : ℕ)
      → w.opens (with_var s var) u [] st cells → IsInit s var e
      → run_result (evaluated w.setting.program e (closed st)) ≡ Fine v c
      → same_value (read st (Slot 0)) v ≡ true
      → w.opens s u [] (closed st) (slice_set cells (w.frame_of u + new_word s) 0)
  pub not_named : (s : Scope) (u : w.Under) (st : State) (cells : List ℕ) (var : Var)
      (e : Expression)
      → w.opens (with_var s var) u [] st cells → IsInit s var e
      → evaluated w.setting.program e st ≡ evaluated w.setting.program e (closed st)
  pub same_words : (s : Scope) (u : w.Under) (st : State) (cells : List ℕ) (var : Var)
      (e : Expression) (v : Value) (c : ℕ)
      → w.opens (with_var s var) u [] st cells → IsInit s var e
      → run_result (evaluated w.setting.program e (closed st)) ≡ Fine v c
      → same_value (read st (Slot 0)) v ≡ true
      → bit_xor (w.word_of u st (read st (Slot 0))) (w.word_of u (closed st) v) ≡ 0
  pub other_words : (s : Scope) (u : w.Under) (st : State) (cells : List ℕ) (var : Var)
      (e : Expression) (v : Value) (c : ℕ)
      → w.opens (with_var s var) u [] st cells → IsInit s var e
      → run_result (evaluated w.setting.program e (closed st)) ≡ Fine v c
      → same_value (read st (Slot 0)) v ≡ false
      → bit_xor (w.word_of u st (read st (Slot 0))) (w.word_of u (closed st) v) ≢ 0

-- the receiver's word leaves its cell, and the caller's object is saved in the frame above
pub record ReceiverGoesOn (cells : List ℕ) (at up object word : ℕ) (After : List ℕ → Type 0) : Type 0 where
  pub words : AreApart cells at up
  pub empty : slice_index cells up ≡ 0
  pub word_is : slice_index cells at ≡ word
  pub moved : After (slice_set (slice_set cells at 0) up object)

-- and back, if the cell is free
pub record ReturnsReceiver (cells : List ℕ) (at up object word : ℕ) (free : Bool)
    (After : List ℕ → Type 0) : Type 0 where
  pub words : AreApart cells at up
  pub saved : slice_index cells up ≡ object
  pub cell : HasFreeWord cells at free
  pub back : free ≡ true → After (slice_set (slice_set cells up 0) at word)

-- What holds for receivers: a variable x whose class has the method, with so many arguments; the
-- method's slot; and what stays while the call is active. Also that the variable may hold an object
-- of a class.
pub record Receivers (w : World) : Type 1 where
  pub IsReceiver : Scope → Ident → Ident → List Ident → Type 0
  pub slot_on : Scope → Ident → Ident → ℕ
  pub deeper_on : Scope → w.Under → State → ℕ → w.Under
  pub IsFor : Scope → Ident → ℕ → Type 0

-- a call on the object n of a receiver, from the caller's state without it: its class has the method
abbrev pub callee_on : (w : World) → KnownCalls w → Receivers w → Scope → w.Under → State → ℕ → Ident
    → Callee w
callee_on w knows on s u st n name = record {
  under = on.deeper_on s u st n;
  class = knows.class_of (on.deeper_on s u st n);
  name = name;
}

-- the word of a receiver x: 0 for nil, else an address, if x names an object
pub record ReceiverWord (w : World) (knows : KnownCalls w) (s : Scope) (u : w.Under) (st : State)
    (cells : List ℕ) (x : Ident) : Type 0 where
  pub at_in : address_in w knows s u x < length cells
  pub small : slice_index cells (address_in w knows s u x) < 2 ^ 31
  pub nil_word : is_nil (local_value_in w knows s u st x) ≡ true
      → slice_index cells (address_in w knows s u x) ≡ 0
  pub name_word : is_nil (local_value_in w knows s u st x) ≡ false
      → 0 < slice_index cells (address_in w knows s u x)
  pub is_name : is_nil (local_value_in w knows s u st x) ≡ false
      → local_value_in w knows s u st x ≡ Name (number_of (local_value_in w knows s u st x))

-- an object n of the state may be in the variable x, and its class has the method
pub record FindsMethod (w : World) (knows : KnownCalls w) (on : Receivers w) (s : Scope) (st : State)
    (x : Ident) (n : ℕ) (callee : Callee w) : Type 0 where
  pub suits : on.IsFor s x callee.class
  pub class_is : class_of w.setting st n ≡ callee.class
  pub runs : RunsMethod w knows callee.class callee.name

-- a receiver is a variable whose word determines its object, and whose cell reads what was written
pub record ReceiverWords (w : World) (knows : KnownCalls w) (on : Receivers w) : Type 0 where
  pub is_variable : (s : Scope) (x name : Ident) (args : List Ident) → on.IsReceiver s x name args
      → knows.IsVariable s x
  pub word : (s : Scope) (u : w.Under) (st : State) (cells : List ℕ) (x name : Ident)
      (args : List Ident)
      → w.opens s u [] st cells → on.IsReceiver s x name args → ReceiverWord w knows s u st cells x
  pub is_there : (s : Scope) (u : w.Under) (vals : List Moved) (st : State) (v : Value)
      (cells : List ℕ) (x name : Ident) (args : List Ident)
      → w.opens s u vals (with_local_value w knows s u st x v) cells → on.IsReceiver s x name args
      → local_value_in w knows s u (with_local_value w knows s u st x v) x ≡ v

-- a call on its object has a routine; with all arguments and the caller's object in the frame
-- above, that frame is the callee's, and if the method has ended, the receiver comes back
pub record OnFacts (w : World) (knows : KnownCalls w) (on : Receivers w) : Type 0 where
  pub slot_small : (s : Scope) (x name : Ident) (args : List Ident) → on.IsReceiver s x name args
      → on.slot_on s x name < 2 ^ 20
  pub dispatches : (s : Scope) (u : w.Under) (st caller : State) (cells : List ℕ) (x name : Ident)
      (args : List Ident)
      → w.opens s u [] st cells → on.IsReceiver s x name args
      → is_nil (local_value_in w knows s u st x) ≡ false
      → caller ≡ out_from (knows.cell_of s u x ∷ map (knows.cell_of s u) args) st
      → FindsMethod w knows on s st x (number_of (local_value_in w knows s u st x))
      (callee_on w knows on s u caller (number_of (local_value_in w knows s u st x)) name)
  pub next : (s : Scope) (u : w.Under) (st : State) (n : ℕ) → IsNextFrame w u (on.deeper_on s u st n)
  pub enters :
      (s : Scope) (u : w.Under) (vals : List Value) (st : State) (cells : List ℕ) (x name : Ident)
      (args : List Ident) (n : ℕ)
      → w.opens s u (pairs args vals) st cells → on.IsReceiver s x name args
      → length vals ≡ length args → is_stack_full w knows u ≡ false
      → is_nil (local_value_in w knows s u st x) ≡ false → number_of (local_value_in w knows s u st x) ≡ n
      → ReceiverGoesOn cells (address_in w knows s u x) (object_above w u) (w.object_of u)
      (w.object_of (on.deeper_on s u (without_local w knows s u st x) n))
      (OpensCallee w knows (callee_on w knows on s u (without_local w knows s u st x) n name)
      (callee_begun w knows (callee_on w knows on s u (without_local w knows s u st x) n name) vals n
      (without_local w knows s u st x).store st))
  pub tells : (s : Scope) (u : w.Under) (st end : State) (cells : List ℕ) (x name : Ident)
      (args : List Ident) (n : ℕ)
      → OpensCallee w knows (callee_on w knows on s u st n name) end cells
      → on.IsReceiver s x name args → on.IsFor s x (knows.class_of (on.deeper_on s u st n))
      → CalleeTells w knows (callee_on w knows on s u st n name)
      (w.object_of (on.deeper_on s u st n)) (on.slot_on s x name) args end cells
  pub leaves :
      (s : Scope) (u : w.Under) (before st end : State) (cells : List ℕ) (x name : Ident)
      (args : List Ident) (n : ℕ) (vals : List Moved) (cells_before : List ℕ)
      → w.opens s u vals before cells_before → st ≡ without_local w knows s u before x
      → OpensCallee w knows (callee_on w knows on s u st n name) end cells
      → on.IsReceiver s x name args → on.IsFor s x (knows.class_of (on.deeper_on s u st n))
      → ReturnsReceiver cells (address_in w knows s u x) (object_above w u) (w.object_of u)
      (w.object_of (on.deeper_on s u st n)) (is_zero (local_value_in w knows s u (resumed st end) x))
      (w.opens s u (pairs args (last_values end))
      (with_local_value w knows s u (resumed st end) x (Name n)))

-- what a call on the object of a variable needs in addition
pub record ReceiverFacts (w : World) (knows : KnownCalls w) (on : Receivers w) : Type 0 where
  pub words : ReceiverWords w knows on
  pub calls : OnFacts w knows on
