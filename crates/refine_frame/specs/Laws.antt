-- The laws of a current frame: what its memory determines about cells, and that the frame of `main`
-- is the layout.
use Rattle.std.specs.Prelude.{◌≡◌, ◌≤◌, ℕ, List, [], length, replicate, Some, slice_index}
use Rattle.std.specs.Prelude.{slice_set}
use Rattle.meaning_sound.specs.class_rules.declared.kind.Kind.{Kind}
use Rattle.meaning_sound.specs.class_rules.Scope.{Locals}
use Rattle.meaning_sound.specs.buddy_book.Place.{Placing, place}
use Rattle.meaning_sound.specs.roopl_semantics.Store.{Value, State}
use Rattle.meaning_sound.specs.roopl_semantics.Value.{Cell, read, written}
use Rattle.meaning_sound.specs.roopl_semantics.Layout.{word_of_value, layout}
use Rattle.meaning_sound.specs.pisa_isa.Machine.{State as Machine, reg}
use Rattle.meaning_sound.specs.code_conventions.declared.memory.TheConstants.{FIRST_VARIABLE}
use Rattle.meaning_sound.specs.code_conventions.declared.registers.TheConstants.{FRAME, OBJECT}
use Rattle.meaning_sound.specs.Sound.{cell_kind, Typed}
use Rattle.refine_frame.specs.Open.{Setup, setup_base, stack_at, object_address, cell_address}
use Rattle.refine_frame.specs.Open.{IsGrounded, OpenMemory}

-- with this word at an address
abbrev pub with_frame_word : Machine → ℕ → ℕ → Machine
with_frame_word m address word = record m { cells = slice_set m.cells address word }

-- under a current frame the address of a cell that has a type holds the word of what the source
-- reads, and its write is the write there
pub record CellsAreWords (u : Setup) (shape : Locals) (at : Placing) (st : State) (below : List ℕ)
    (m : Machine) : Type 0 where
  pub reads : (cell : Cell) (k : Kind) → cell_kind u.setting.program shape st.store cell ≡ Some k
      → slice_index m.cells (cell_address u at.blocks st cell)
      ≡ word_of_value (setup_base u) at.blocks (read st cell)
  pub writes : (cell : Cell) (k : Kind) (v : Value)
      → cell_kind u.setting.program shape st.store cell ≡ Some k
      → OpenMemory u at below (written st cell v)
      (with_frame_word m (cell_address u at.blocks st cell) (word_of_value (setup_base u) at.blocks v))

abbrev pub OpenCells : Type 0
OpenCells =
    (u : Setup) (extra : ℕ → ℕ) (shape : Locals) (class : ℕ) (st : State)
    (s : Typed u.setting extra shape class st)
    (below : List ℕ) (m : Machine)
    → IsGrounded u st.store → OpenMemory u s.placed.at below st m
    → CellsAreWords u shape s.placed.at st below m

-- at depth 1 with no variables and nothing saved, a current frame is the layout with the two
-- addresses in their registers
pub record OpenIsLayout (u : Setup) (at : Placing) (st : State) (m : Machine) : Type 0 where
  pub begins : 1 ≤ u.setting.limits.deep
      → m.cells ≡ layout u.setting.program u.setting.limits u.statics st.store st.log
      → length m.regs ≡ 32
      → reg m OBJECT ≡ object_address u at.blocks st.self → reg m FRAME ≡ stack_at u
      → OpenMemory u at (replicate FIRST_VARIABLE 0) st m
  pub ends : OpenMemory u at (replicate FIRST_VARIABLE 0) st m
      → m.cells ≡ layout u.setting.program u.setting.limits u.statics st.store st.log

abbrev pub OpenLayout : Type 0
OpenLayout =
    (u : Setup) (at : Placing) (st : State) (m : Machine) → st.frame ≡ [] → st.depth ≡ 1
    → place u.setting.limits.heap st.log ≡ Some at → OpenIsLayout u at st m
