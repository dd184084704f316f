-- A current frame before and after an object or array is made, or given back: the cells, and the
-- relation.
use Rattle.std.specs.Prelude.{◌≡◌, ℕ, ◌+◌, ◌*◌, ◌^◌, ◌<◌, ◌≤◌, true, false, ◌||◌, nat_lt, is_none}
use Rattle.std.specs.Prelude.{List, [], ◌∷◌, length, Some}
use Rattle.object_codegen.specs.class_rules.declared.kind.Kind.{Kind}
use Rattle.object_codegen.specs.class_rules.Expressions.{is_int}
use Rattle.object_codegen.specs.buddy_book.Place.{Taken, Log, count_taken, place}
use Rattle.object_codegen.specs.roopl_semantics.Store.{Value, Nil, Name, Head, Store, State, object_at}
use Rattle.object_codegen.specs.roopl_semantics.Value.{Cell, read, written}
use Rattle.object_codegen.specs.roopl_semantics.Execution.{Setting, new_object, order_of_cells, all_zero, freed}
use Rattle.object_codegen.specs.roopl_semantics.Laws.{holders_among}
use Rattle.object_codegen.specs.roopl_semantics.Layout.{head_word}
use Rattle.object_codegen.specs.meaning_sound.Sound.{head_fits, cell_kinds, cell_kind, AllFit}
use Rattle.object_codegen.specs.refine_form.Form.{Scope}
use Rattle.object_codegen.specs.refine_form.Frames.{Under, stack_base}
use Rattle.object_codegen.specs.refine_form.Stands.{shape_of, HasElements, Stands}
use Rattle.object_codegen.specs.News.{Takes, filled_words}
use Rattle.object_codegen.specs.rpp_words.declared.input.TheConstants.{FRAME_WORDS}
use Rattle.object_codegen.specs.code_conventions.declared.memory.TheConstants.{FIRST_VARIABLE}
use Rattle.object_codegen.specs.pisa_isa.declared.image.TheConstants.{MOST_STATICS}

-- the first word after the variables of the current frame
abbrev pub address_behind : Setting → List ℕ → Under → Scope → ℕ
address_behind setting statics u s =
    stack_base setting statics + FRAME_WORDS * length u.callers + (FIRST_VARIABLE + length s.vars)

-- the requests with one for what has this head
abbrev pub request_log : Setting → Head → State → Log
request_log setting head st =
    Taken (2 + count_taken st.log) (order_of_cells (length (cell_kinds setting.program head)))
    ∷ st.log

-- the state with a new object or array in a cell
abbrev pub with_new : Setting → Head → List Value → Cell → State → State
with_new setting head values cell st =
    written (record st {
      store = (2 + count_taken st.log, new_object head values) ∷ st.store;
      log = request_log setting head st;
    }) cell (Name (2 + count_taken st.log))

-- a block of zeros is taken for it, and filled; then the frame is open with it
pub record IsObjectMade (setting : Setting) (statics : List ℕ) (s : Scope) (u : Under) (st : State)
    (cells : List ℕ)
    (cell : Cell) (head : Head) (values : List Value) : Type 0 where
  pub at : ℕ
  pub block : ℕ
  pub taken : List ℕ
  pub takes : Takes (address_behind setting statics u s) (length values) at block cells taken
  pub after : Stands setting statics s u [] (with_new setting head values cell st)
      (filled_words at block (head_word setting.program head) taken)

-- so it is with each that has the type of a nil cell, if the heap has a block
abbrev pub NewsAreOpen : Type 0
NewsAreOpen =
    (setting : Setting) (statics : List ℕ) → length statics ≤ MOST_STATICS
    → (s : Scope) (u : Under) (st : State) (cells : List ℕ) → Stands setting statics s u [] st cells
    → (cell : Cell) (k : Kind) → cell_kind setting.program (shape_of setting.program s) st.store
    cell ≡ Some k
    → read st cell ≡ Nil → (head : Head) (values : List Value)
    → head_fits setting.program k head ≡ true
    → ((store : Store) → AllFit setting.program store (cell_kinds setting.program head) values)
    → ((m : ℕ) → holders_among m values ≡ 0) → all_zero values ≡ true → HasElements head
    → (nat_lt setting.limits.heap (order_of_cells (length (cell_kinds setting.program head)))
    || is_none (place setting.limits.heap (request_log setting head st))) ≡ false
    → head_word setting.program head < 2 ^ 32
    → IsObjectMade setting statics s u st cells cell head values

-- the memory is one in which its block was taken and filled; with the block given back the frame is
-- open without it
pub record IsGone (setting : Setting) (statics : List ℕ) (s : Scope) (u : Under) (st : State)
    (cells : List ℕ)
    (cell : Cell) (n : ℕ) : Type 0 where
  pub at : ℕ
  pub block : ℕ
  pub given : List ℕ
  pub taken : List ℕ
  pub was : cells ≡ filled_words at block (head_word setting.program (object_at st.store n).head) taken
  pub takes : Takes (address_behind setting statics u s) (length (object_at st.store n).cells) at block
      given taken
  pub after : Stands setting statics s u [] (freed setting cell n st) given

-- so it is with each of count 1 and of zeros that a cell names
abbrev pub DeletesAreOpen : Type 0
DeletesAreOpen =
    (setting : Setting) (statics : List ℕ) → length statics ≤ MOST_STATICS
    → (s : Scope) (u : Under) (st : State) (cells : List ℕ) → Stands setting statics s u [] st cells
    → (cell : Cell) (k : Kind) → cell_kind setting.program (shape_of setting.program s) st.store
    cell ≡ Some k
    → is_int k ≡ false → (n : ℕ) → read st cell ≡ Name n → (object_at st.store n).count ≡ 1
    → all_zero (object_at st.store n).cells ≡ true
    → IsGone setting statics s u st cells cell n
