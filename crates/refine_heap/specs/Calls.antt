-- Calls of the allocator over the memory that represents a store.
use Rattle.std.specs.Prelude.{◌≡◌, ◌<◌, ◌≤◌, ℕ, ◌+◌, Bool, true, false, List, [], ◌∷◌, length, Some}
use Rattle.std.specs.Prelude.{None}
use Rattle.std.specs.List.{All}
use Rattle.roopl_semantics.specs.code_conventions.declared.faults.TheConstants.{HEAP_FULL}
use Rattle.buddy_pisa.specs.rpp_words.Words.{IsWord}
use Rattle.buddy_pisa.specs.rpp_words.declared.input.Limits.{Limits}
use Rattle.roopl_semantics.specs.rpp_tree.Tree.{Source}
use Rattle.buddy_pisa.specs.pisa_isa.Loaded.{heap_base}
use Rattle.buddy_pisa.specs.pisa_isa.Machine.{Memory}
use Rattle.buddy_pisa.specs.paired_code.declared.part.Symbol.{Symbol}
use Rattle.buddy_pisa.specs.paired_code.declared.part.Symbol.TheVariants.{Enter}
use Rattle.buddy_pisa.specs.paired_code.Machine.{Image, memory_with_reg}
use Rattle.buddy_pisa.specs.paired_code.Layout.{bool_xor}
use Rattle.buddy_pisa.specs.paired_code.Pieces.{Outcome, Done, Trapped, Will}
use Rattle.buddy_pisa.specs.buddy_book.Book.{Book, take, give_back}
use Rattle.buddy_pisa.specs.buddy_book.Shown.{TakenBlocks, order_in}
use Rattle.buddy_pisa.specs.buddy_book.Place.{Placing}
use Rattle.roopl_semantics.specs.Store.{Store}
use Rattle.buddy_pisa.specs.declared.rows.TheConstants.{BLOCK}
use Rattle.buddy_pisa.specs.Promise.{Enters, most_steps}
use Rattle.buddy_pisa.specs.Called.{IsAllocatorRoutine}
use Rattle.roopl_semantics.specs.Layout.{laid}
use Rattle.refine_heap.specs.Laid.{StandsBeside, IsHeapPlaced}

-- the call leaves in this memory, after more steps than the heap's order, and few for it
pub data LeavesIn (after : Memory) (h : ℕ) : Outcome → Type 0 where
  leaves_in : (steps : ℕ) → h < steps → steps ≤ most_steps h + 7
      → LeavesIn after h (Done after steps)

-- it traps because there is no block
pub data TrapsFull (h : ℕ) : Outcome → Type 0 where
  traps_full : (steps : ℕ) → steps ≤ most_steps h + 7 → TrapsFull h (Trapped HEAP_FULL steps)

-- a call of a routine that is the allocator, from a memory that represents a store
pub record Calls (im : Image) (r top : ℕ) (body : List Symbol) (m : Memory)
    (program : Source) (limits : Limits) (statics : List ℕ) (store : Store)
    (placing : Placing) (taken : TakenBlocks) (stack : List ℕ) : Type 0 where
  pub routine : IsAllocatorRoutine im r top body m
  pub placed : IsHeapPlaced program limits statics store placing taken
  pub cells : m.cells ≡ laid program limits statics store placing stack
  pub words : All IsWord m.cells

-- the memory then represents the same store over the free lists that were left, and no register
-- differs except BLOCK
pub record LaidCallLaw (im : Image) (r : ℕ) (m : Memory)
    (program : Source) (limits : Limits) (statics : List ℕ) (store : Store)
    (placing : Placing) (taken : TakenBlocks) (stack : List ℕ) : Type 0 where
  pub takes : (kind d : Bool) (k block : ℕ) (after : Book)
      → bool_xor kind d ≡ false → 1 ≤ k → Enters m k 0 → take placing.book k ≡ Some (block, after)
      → Will im (Enter r kind ∷ []) d m (LeavesIn
      (record (memory_with_reg m BLOCK (heap_base limits.heap (length statics) + block)) {
        cells = laid program limits statics store
            (record { book = after; blocks = placing.blocks }) stack;
      }) limits.heap)
  pub lacks : (kind d : Bool) (k : ℕ)
      → bool_xor kind d ≡ false → 1 ≤ k → Enters m k 0 → take placing.book k ≡ None
      → Will im (Enter r kind ∷ []) d m (TrapsFull limits.heap)
  pub gives : (kind d : Bool) (k block : ℕ)
      → bool_xor kind d ≡ true → 1 ≤ k → Enters m k (heap_base limits.heap (length statics) + block)
      → order_in taken block ≡ Some k
      → StandsBeside program limits statics store placing.blocks (give_back placing.book k block)
      → Will im (Enter r kind ∷ []) d m (LeavesIn
      (record (memory_with_reg m BLOCK 0) {
        cells = laid program limits statics store
            (record { book = give_back placing.book k block; blocks = placing.blocks }) stack;
      }) limits.heap)

-- so it is with every call
abbrev pub LaidCallsLaw : Type 0
LaidCallsLaw = (im : Image) (r top : ℕ) (body : List Symbol) (m : Memory)
    (program : Source) (limits : Limits) (statics : List ℕ) (store : Store)
    (placing : Placing) (taken : TakenBlocks) (stack : List ℕ)
    → Calls im r top body m program limits statics store placing taken stack
    → LaidCallLaw im r m program limits statics store placing taken stack
