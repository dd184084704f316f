-- A machine's memory and registers represent a current frame of the source's execution.
use Rattle.std.specs.Prelude.{◌≡◌, ◌≤◌, ℕ, ◌+◌, ◌-◌, ◌*◌, ◌^◌, nat_eq, if◌then◌else◌, List, [], ◌∷◌}
use Rattle.std.specs.Prelude.{◌++◌, length, replicate, Some}
use Rattle.meaning_sound.specs.rpp_words.declared.input.TheConstants.{FRAME_WORDS}
use Rattle.meaning_sound.specs.buddy_book.Place.{Placing, block_of, place}
use Rattle.meaning_sound.specs.roopl_semantics.Store.{OfClass, Binding, Store, State, main_name}
use Rattle.meaning_sound.specs.roopl_semantics.Value.{Cell, Slot, Part}
use Rattle.meaning_sound.specs.roopl_semantics.Execution.{Setting}
use Rattle.meaning_sound.specs.roopl_semantics.Source.{main_fields}
use Rattle.meaning_sound.specs.class_rules.Classes.{main_of}
use Rattle.meaning_sound.specs.rpp_words.Limits.{IsLimits}
use Rattle.meaning_sound.specs.roopl_semantics.Layout.{overlaid, word_of_value, laid}
use Rattle.meaning_sound.specs.pisa_isa.Loaded.{statics_at, heap_base}
use Rattle.meaning_sound.specs.pisa_isa.Machine.{State as Machine, reg}
use Rattle.meaning_sound.specs.code_conventions.declared.registers.TheConstants.{FRAME, OBJECT}
use Rattle.meaning_sound.specs.code_conventions.declared.memory.TheConstants.{HEADER_WORDS, FIRST_VARIABLE}
use Rattle.meaning_sound.specs.code_conventions.declared.memory.TheConstants.{MOST_VARIABLES}
use Rattle.meaning_sound.specs.Sound.{head_named}

-- what stays in a run: the program with its limits, and the static cells of its image
pub record Setup : Type 0 where
  pub setting : Setting
  pub statics : List ℕ

abbrev pub setup_base : Setup → ℕ
setup_base u = heap_base u.setting.limits.heap (length u.statics)

abbrev pub stack_at : Setup → ℕ
stack_at u = setup_base u + 2 ^ u.setting.limits.heap

-- the address of an object: the main object among the static cells, any other one at its block
abbrev pub object_address : Setup → List (ℕ × ℕ) → ℕ → ℕ
object_address u blocks name = if nat_eq name main_name then statics_at else setup_base u + block_of blocks
    name

-- all cells, with these words on the stack and zeros above them
abbrev pub memory : Setup → Placing → Store → List ℕ → List ℕ
memory u at store stack =
    laid u.setting.program u.setting.limits u.statics store at
    (overlaid (replicate (FRAME_WORDS * u.setting.limits.deep) 0) 0 stack)

-- the words of the variables, the outermost first
abbrev pub frame_words : ℕ → List (ℕ × ℕ) → List Binding → List ℕ
frame_words base blocks [] = []
frame_words base blocks (b ∷ frame) = frame_words base blocks frame ++ word_of_value base blocks b.value
    ∷ []

-- the word of the frame that holds a variable
abbrev pub variable_word : State → ℕ → ℕ
variable_word st index = FIRST_VARIABLE + (length st.frame - 1 - index)

-- the address of a cell
abbrev pub cell_address : Setup → List (ℕ × ℕ) → State → Cell → ℕ
cell_address u blocks st (Slot index) = stack_at u + FRAME_WORDS * (st.depth - 1) + variable_word st
    index
cell_address u blocks st (Part name index) = object_address u blocks name + HEADER_WORDS + index

-- the limits are in range, the static cells have space for the main object, whose class stays
pub record IsGrounded (u : Setup) (store : Store) : Type 0 where
  pub limits : IsLimits u.setting.limits
  pub room : HEADER_WORDS + length (main_fields u.setting.program) ≤ length u.statics
  pub main : head_named store main_name ≡ Some (OfClass (main_of u.setting.program).class)

-- Memory and the two addresses of a current frame. Below its variables the stack has any words: the
-- frames below, and what is saved.
pub record OpenMemory (u : Setup) (at : Placing) (below : List ℕ) (st : State) (m : Machine) : Type 0
  where
    pub placed : place u.setting.limits.heap st.log ≡ Some at
    pub cells : m.cells ≡ memory u at st.store (below ++ frame_words (setup_base u) at.blocks st.frame)
    pub level : length below ≡ FRAME_WORDS * (st.depth - 1) + FIRST_VARIABLE
    pub open_calls : 1 ≤ st.depth
    pub in_depth : st.depth ≤ u.setting.limits.deep
    pub few : length st.frame ≤ MOST_VARIABLES
    pub registers : length m.regs ≡ 32
    pub object_is : reg m OBJECT ≡ object_address u at.blocks st.self
    pub frame_is : reg m FRAME ≡ stack_at u + FRAME_WORDS * (st.depth - 1)
