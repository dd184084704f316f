-- The limits of a run, and the size of its memory.
use Rattle.std.specs.Prelude.{ℕ, ◌+◌, ◌*◌, ◌^◌, ◌<◌, Bool, ◌||◌, nat_eq, nat_lt, List, All}
use Rattle.std.specs.Prelude.{length, Option, Some, None, if◌then◌else◌}
use Rattle.pisa_machine.specs.rpp_words.declared.input.FieldWord.{FieldWord}
use Rattle.pisa_machine.specs.rpp_words.declared.input.Limits.{Limits}
use Rattle.pisa_machine.specs.pisa_isa.Loaded.{heap_base}
use Rattle.pisa_machine.specs.rpp_words.declared.input.TheConstants.{MOST_HEAP, FRAME_WORDS, HEADER_WORDS}
use Rattle.pisa_loader.specs.declared.error.LoadError.{LoadError}
use Rattle.pisa_loader.specs.declared.error.LoadError.TheVariants.{HeapOrder, DeepRange}

-- whether a number is outside 1 to the most
abbrev pub is_outside : (number most : ℕ) → Bool
is_outside number most = nat_eq number 0 || nat_lt most number

-- the order of the heap is tried first
abbrev pub limits_refusal : (heap deep most : ℕ) → Option LoadError
limits_refusal heap deep most =
    if is_outside heap MOST_HEAP then Some HeapOrder else if is_outside deep most
    then Some DeepRange else None

-- the end of the stack is that of the memory
abbrev pub memory_size : (statics : ℕ) → Limits → ℕ
memory_size statics limits = heap_base limits.heap statics + 2 ^ limits.heap + FRAME_WORDS *
    limits.deep

-- the cells that an input sets are static cells
abbrev pub IsInputOf : List ℕ → List FieldWord → Type 0
IsInputOf statics input = All (λ entry. HEADER_WORDS + entry.field < length statics) input
