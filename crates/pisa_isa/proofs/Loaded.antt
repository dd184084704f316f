-- How many cells the loaded memory has, and one that is computed.
use Rattle.std.proofs.Common.{◌≡◌, ◌∙◌, refl, ℕ, ◌+◌, ◌-◌, ◌*◌, ◌/◌, ◌^◌, ◌<◌, ◌≤◌, arith, List, [], ◌∷◌, ◌++◌, length}
use Rattle.std.proofs.Common.{take, drop, replicate, length-append, length-set}
use Rattle.std.proofs.lemmas.List.{length-replicate}
use Rattle.std.proofs.lemmas.Nat.{pow_pos}
use Rattle.std.proofs.Math.Nat.{mul_comm, div-add-mod, mod-lt}
use Rattle.rpp_words.specs.declared.input.TheConstants.{FIXED_CELLS, FRAME_WORDS, HEADER_WORDS}
use Rattle.rpp_words.specs.declared.input.FieldWord.{FieldWord}
use Rattle.rpp_words.specs.declared.input.Limits.{Limits}
use Rattle.pisa_isa.specs.declared.fixed.TheConstants.{ORDER_CELL, HEAP_CELL, STACK_CELL, END_CELL}
use Rattle.pisa_isa.specs.Machine.{word_at}
use Rattle.pisa_isa.specs.Loaded.{statics_at, heap_base, fixed_cells, head_cell, empty_heads, with_words, loaded}

-- a number rounded up to a multiple is not below
round_up : (x k : ℕ) → 0 < k → x ≤ (x + k - 1) / k * k
round_up x k h = omega (arith, mul_comm ((x + k - 1) / k) k, div-add-mod (x + k - 1) k, mod-lt (x + k - 1) h)

pub heap_base-ge : (heap statics : ℕ) → statics_at + statics ≤ heap_base heap statics
heap_base-ge heap statics = round_up (statics_at + statics) (2 ^ heap) (pow_pos heap)

pub length-with_words : (input : List FieldWord) (statics : List ℕ) → length (with_words input statics) ≡ length statics
length-with_words [] statics = refl
length-with_words (entry ∷ input) statics = length-with_words input _
    ∙ length-set statics (HEADER_WORDS + entry.field) entry.word

length-empty_heads : (heap base : ℕ) → 0 < heap → length (empty_heads heap base) ≡ heap
length-empty_heads heap base h = omega (
  arith,
  length-append (replicate (heap - 1) 0) (base ∷ []),
  length-replicate {A = ℕ} (heap - 1) 0,
)

pub length-fixed_cells : (heap deep base : ℕ) (heads : List ℕ) → length heads ≤ 31
    → length (fixed_cells heap deep base heads) ≡ FIXED_CELLS
length-fixed_cells heap deep base heads h =
    omega (arith, length-append heads (replicate (31 - length heads) 0), length-replicate {A = ℕ} (31 - length heads) 0)

-- each of them is where its name says
module _ (heap deep base : ℕ) (heads : List ℕ) where
  abbrev cells : List ℕ
  cells = fixed_cells heap deep base heads

  order_is : word_at cells ORDER_CELL ≡ heap
  order_is = refl

  heap_is : word_at cells HEAP_CELL ≡ base
  heap_is = refl

  stack_is : word_at cells STACK_CELL ≡ base + 2 ^ heap
  stack_is = refl

  end_is : word_at cells END_CELL ≡ base + 2 ^ heap + FRAME_WORDS * deep
  end_is = refl

  heads_are : drop (head_cell 1) cells ≡ heads ++ replicate (31 - length heads) 0
  heads_are = refl

lengths : (fixed words gap heap stack : List ℕ) (s base h d : ℕ) → length fixed ≡ FIXED_CELLS → length words ≡ s
    → length gap ≡ base - FIXED_CELLS - s → length heap ≡ h → length stack ≡ d → FIXED_CELLS + s ≤ base
    → length (fixed ++ words ++ gap ++ heap ++ stack) ≡ base + h + d
lengths fixed words gap heap stack s base h d f w g p t le =
    omega (
      arith,
      length-append (fixed ++ words ++ gap ++ heap) stack,
      length-append (fixed ++ words ++ gap) heap,
      length-append (fixed ++ words) gap,
      length-append fixed words,
    )

pub length-loaded : (statics : List ℕ) (limits : Limits) (input : List FieldWord) → 0 < limits.heap → limits.heap ≤ 31
    → length (loaded statics limits input) ≡ heap_base limits.heap (length statics) + 2 ^ limits.heap + FRAME_WORDS *
    limits.deep
length-loaded statics limits input low high =
    let base : ℕ = heap_base limits.heap (length statics) in
    let fixed : List ℕ = fixed_cells limits.heap limits.deep base (empty_heads limits.heap base) in
    let words : List ℕ = with_words input statics in
    let gap : List ℕ = replicate (base - statics_at - length statics) 0 in
    let heap : List ℕ = replicate (2 ^ limits.heap) 0 in
    let stack : List ℕ = replicate (FRAME_WORDS * limits.deep) 0 in
    let heads = length-empty_heads limits.heap base low in
    lengths fixed words gap heap stack (length statics) base (2 ^ limits.heap) (FRAME_WORDS * limits.deep)
    (length-fixed_cells limits.heap limits.deep base (empty_heads limits.heap base) (omega arith))
    (length-with_words input statics) (length-replicate (base - statics_at - length statics) 0)
    (length-replicate (2 ^ limits.heap) 0) (length-replicate (FRAME_WORDS * limits.deep) 0)
    (heap_base-ge limits.heap (length statics))

-- a heap of two words and one frame of stack, with the input 5 in the first field
abbrev small : List ℕ
small = loaded (1 ∷ 2 ∷ 3 ∷ []) (record { heap = 1; deep = 1 }) (record { field = 0; word = 5 } ∷ [])

small_begins : take 14 small ≡ 0 ∷ 1 ∷ 44 ∷ 46 ∷ 558 ∷ 0 ∷ 0 ∷ 0 ∷ 0 ∷ 44 ∷ 0 ∷ 0 ∷ 0 ∷ 0 ∷ []
small_begins = refl

small_statics : drop 39 (take 46 small) ≡ 0 ∷ 1 ∷ 2 ∷ 5 ∷ 0 ∷ 0 ∷ 0 ∷ []
small_statics = refl

small_ends : length small ≡ 558
small_ends = refl
