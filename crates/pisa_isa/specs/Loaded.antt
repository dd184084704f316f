-- The memory that a run begins with.
use Rattle.std.specs.Prelude.{ℕ, ◌+◌, ◌-◌, ◌*◌, ◌/◌, ◌^◌, List, [], ◌∷◌, ◌++◌, length, replicate}
use Rattle.std.specs.Prelude.{slice_set}
use Rattle.rpp_words.specs.declared.input.FieldWord.{FieldWord}
use Rattle.rpp_words.specs.declared.input.Limits.{Limits}
use Rattle.rpp_words.specs.declared.input.TheConstants.{FIXED_CELLS, FRAME_WORDS, HEADER_WORDS}
use Rattle.pisa_isa.specs.declared.fixed.TheConstants.{LIST_HEADS}
use Rattle.pisa_isa.specs.Machine.{State}
use Rattle.pisa_isa.specs.Image.{Segments}
use Rattle.pisa_isa.specs.Runs.{started, zero_registers}

-- the first cell after the fixed ones: the static cells begin here
abbrev pub statics_at : ℕ
statics_at = FIXED_CELLS

-- the least multiple of the heap's size not below the end of the static cells
abbrev pub heap_base : (heap statics : ℕ) → ℕ
heap_base heap statics = (statics_at + statics + 2 ^ heap - 1) / 2 ^ heap * 2 ^ heap

-- the fixed cells: the order in ORDER_CELL, and the addresses of the heap, of the stack and of what
-- follows it in HEAP_CELL, STACK_CELL and END_CELL. Then come the heads of the free lists from
-- order 1 on.
abbrev pub fixed_cells : (heap deep base : ℕ) → List ℕ → List ℕ
fixed_cells heap deep base heads =
    0 ∷ heap ∷ base ∷ (base + 2 ^ heap) ∷ (base + 2 ^ heap + FRAME_WORDS * deep) ∷ 0 ∷ 0 ∷ 0 ∷ 0
    ∷ (heads ++ replicate (31 - length heads) 0)

-- the cell of the head of the free list of an order
abbrev pub head_cell : ℕ → ℕ
head_cell order = LIST_HEADS + order

-- the heads of an empty heap: the whole heap is the one free block
abbrev pub empty_heads : (heap base : ℕ) → List ℕ
empty_heads heap base = replicate (heap - 1) 0 ++ base ∷ []

-- the static cells with the input's words in the main object's fields
abbrev pub with_words : List FieldWord → List ℕ → List ℕ
with_words [] statics = statics
with_words (entry ∷ input) statics = with_words input
    (slice_set statics (HEADER_WORDS + entry.field) entry.word)

-- all cells, from the first one to the end of the stack
abbrev pub loaded : List ℕ → Limits → List FieldWord → List ℕ
loaded statics limits input =
    let base = heap_base limits.heap (length statics) in
    fixed_cells limits.heap limits.deep base (empty_heads limits.heap base)
    ++ with_words input statics
    ++ replicate (base - statics_at - length statics) 0
    ++ replicate (2 ^ limits.heap) 0
    ++ replicate (FRAME_WORDS * limits.deep) 0

-- where the run of an image begins with these limits and this input
abbrev pub loaded_state : Segments → Limits → List FieldWord → State
loaded_state image limits input = started image.code zero_registers
    (loaded image.statics limits input)
