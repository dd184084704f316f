-- What the code of `new` and `delete` does, only by the memory, over any call of the allocator that
-- allocates a block and frees it.
use Rattle.std.specs.Prelude.{◌≡◌, ◌≢◌, ℕ, ◌+◌, ◌*◌, ◌^◌, ◌<◌, ◌≤◌, Bool, true, false, List, []}
use Rattle.std.specs.Prelude.{◌∷◌, slice_index, slice_set, nat_le, if◌then◌else◌, Ok, Err}
use Rattle.refine_heap.specs.rpp_words.Words.{is_less}
use Rattle.refine_heap.specs.rpp_tree.Tree.{Expression, Null, Lvalue}
use Rattle.refine_heap.specs.buddy_book.Book.{order_for}
use Rattle.refine_heap.specs.pisa_isa.Machine.{Memory}
use Rattle.refine_heap.specs.code_conventions.declared.memory.TheConstants.{HEADER_WORDS, COUNT_WORD}
use Rattle.refine_heap.specs.paired_code.declared.part.Symbol.{Symbol}
use Rattle.refine_heap.specs.paired_code.declared.part.Symbol.TheVariants.{Enter}
use Rattle.refine_heap.specs.paired_code.Machine.{Image}
use Rattle.refine_heap.specs.paired_code.Pieces.{Will}
use Rattle.static_layout.specs.roopl_semantics.Elements.{SHARED_ARRAY}
use Rattle.static_layout.specs.roopl_semantics.Value.{NIL}
use Rattle.static_layout.specs.roopl_semantics.Execution.{NOT_NIL, COUNT, NOT_EMPTY}
use Rattle.static_layout.specs.roopl_semantics.Execution.{LENGTH, HEAP_FULL}
use Rattle.expr_uncompute.specs.refine_form.Form.{registers}
use Rattle.expr_uncompute.specs.refine_form.declared.spot.Spot.{Spot}
use Rattle.expr_uncompute.specs.register_expressions.Code.{words}
use Rattle.expr_uncompute.specs.Code.{place_words}
use Rattle.expr_uncompute.specs.register_expressions.Number.{number, lvalue_read, place_address, update_shares}
use Rattle.expr_uncompute.specs.Steps.{place_steps, fetch_steps}
use Rattle.expr_uncompute.specs.register_expressions.Laws.{bases_of}
use Rattle.expr_uncompute.specs.Laws.{UpdateStays}
use Rattle.expr_uncompute.specs.Promises.{free_at, CanEvaluate, IsTrap}
use Rattle.expr_uncompute.specs.Found.{LeavesWithin, TrapsWithin, Filled, Changes}
use Rattle.expr_uncompute.specs.Found.{found_place_steps, found_value_steps}
use Rattle.object_codegen.specs.declared.news.TheConstants.{FEW_FIELDS}
use Rattle.object_codegen.specs.declared.shape.Shape.{Shape}
use Rattle.object_codegen.specs.declared.shape.Shape.TheVariants.{Fixed, Lengthy}
use Rattle.object_codegen.specs.Code.{mark_fault, mark_of, block_size_of}

-- ---- the allocator's call

-- all registers are 0 but these: the addresses of object and frame, a word, two more, the order,
-- the block, the place, the length, and the length and the place as they were found
abbrev pub room : (object frame c u w order block p v a q : ℕ) → List ℕ → Memory
room object frame c u w order block p v a q cells = record {
  regs = 0 ∷ 0 ∷ 0 ∷ object ∷ frame ∷ 0 ∷ c ∷ 0 ∷ u ∷ w ∷ 0 ∷ 0 ∷ order ∷ block ∷ p ∷ v ∷ 0 ∷ 0 ∷ 0
      ∷ a ∷ q ∷ 0 ∷ 0 ∷ 0 ∷ 0 ∷ 0 ∷ 0 ∷ 0 ∷ 0 ∷ 0 ∷ 0 ∷ 0 ∷ [];
  cells = cells;
}

-- a length is moved if there is one: what is left of it, and what is moved
abbrev pub left_length : ℕ → Shape → ℕ
left_length v (Fixed table fields) = v
left_length v Lengthy = 0

abbrev pub moved_length : ℕ → Shape → ℕ
moved_length v (Fixed table fields) = 0
moved_length v Lengthy = v

-- the memory of a call: the order and the block in their registers, the place and the length out of
-- the allocator's way
abbrev pub calling : (object frame order block p v : ℕ) → Shape → List ℕ → Memory
calling object frame order block p v shape cells =
    room object frame 0 0 0 order block p (moved_length v shape)
    (left_length v shape) 0 cells

-- over any filled words of the frame, the allocator called with this order takes the block x, and
-- back it gives it: the cells before, and those with the block taken
pub record Allocates (im : Image) (object frame order x p v : ℕ) (shape : Shape)
    (low n least most : ℕ)
    (cells taken : List ℕ) : Type 0 where
  pub takes : (ys zs : List ℕ) → Filled low n cells ys → Filled low n taken zs → Changes low ys zs
      → Will im (Enter 0 false ∷ []) false (calling object frame order 0 p v shape ys)
      (LeavesWithin (calling object frame order x p v shape zs) least most)
  pub gives : (ys zs : List ℕ) → Filled low n cells ys → Filled low n taken zs → Changes low ys zs
      → Will im (Enter 0 false ∷ []) true (calling object frame order x p v shape zs)
      (LeavesWithin (calling object frame order 0 p v shape ys) least most)

-- or it has no block
pub record Lacks (im : Image) (object frame order p v : ℕ) (shape : Shape) (low n most : ℕ)
    (cells : List ℕ) : Type 0 where
  pub lacks : (ys : List ℕ) → Filled low n cells ys
      → Will im (Enter 0 false ∷ []) false (calling object frame order 0 p v shape ys)
      (TrapsWithin HEAP_FULL most)

-- ---- the cells

-- a block of zeros at x has been allocated for so many cells; the lvalue is nil before and after,
-- and is outside of the block
pub record Takes (low size p x : ℕ) (cells taken : List ℕ) : Type 0 where
  pub changes : Changes low cells taken
  pub p_in : p < low
  pub within : x + HEADER_WORDS + size ≤ low
  pub ends : x + HEADER_WORDS + size < 2 ^ 31
  pub some : x ≢ 0
  pub nil_before : slice_index cells p ≡ 0
  pub nil : slice_index taken p ≡ 0
  pub zero : (a : ℕ) → x ≤ a → a < x + HEADER_WORDS + size → slice_index taken a ≡ 0
  pub outside : (a : ℕ) → x ≤ a → a < x + HEADER_WORDS + size → p ≢ a

-- then the block gets its first word and its count, and the place its address
abbrev pub filled_words : (p x mark : ℕ) → List ℕ → List ℕ
filled_words p x mark cells = slice_set (slice_set (slice_set cells x mark) (x + 1) 1) p x

-- the numbers of a shape are words, and a length is from 1 to 2^31 - 1
abbrev pub IsShape : Shape → Type 0
IsShape (Fixed table fields) = (table < 2 ^ 32) × (fields < 2 ^ 32)
IsShape Lengthy = Unit {0}

abbrev pub IsLength : ℕ → Shape → Type 0
IsLength v (Fixed table fields) = Unit {0}
IsLength v Lengthy = (v < 2 ^ 31) × (v ≢ 0)

-- ---- the steps

-- the checks of a new, the moves of place and length, and the order
abbrev pub check_steps : Shape → ℕ
check_steps (Fixed table fields) = 4
check_steps Lengthy = 6

abbrev pub move_steps : Shape → ℕ
move_steps (Fixed table fields) = 2
move_steps Lengthy = 4

abbrev pub order_steps : Shape → ℕ
order_steps (Fixed table fields) = 1
order_steps Lengthy = 43

-- whether so many cells are 0
abbrev pub zeros_steps : Shape → (size : ℕ) → ℕ
zeros_steps (Fixed table fields) size = if nat_le fields FEW_FIELDS then 6 * size
    else 19 + 13 * size
zeros_steps Lengthy size = 19 + 13 * size

-- the middle, with so many cells, if the allocator makes t steps
abbrev pub middle_steps : Shape → (size t : ℕ) → ℕ
middle_steps shape size t = check_steps shape +
    (((move_steps shape + order_steps shape) + ((t + 7) + (move_steps shape + order_steps shape))) +
    (22 + zeros_steps shape size))

-- and with what finds the place, in so many steps there and back
abbrev pub whole_steps : (steps : ℕ) → Shape → (size t : ℕ) → ℕ
whole_steps steps shape size t = steps + (middle_steps shape size t + steps)

-- ---- the laws

-- p finds the place at a, and the length v, in so many steps. Forward, a new: fault 4 if the place
-- is not nil, and 8 if there is no block. Backward, a delete: fault 5 if the place is nil; 11 or 12
-- if the first word is another; 6 if the count is not 1; 7 if a cell is not 0. `Kept` says that the
-- same is found in the changed cells.
pub record Makes (im : Image) (m : Memory) (object frame low n steps a v order : ℕ) (shape : Shape)
    (Kept : List ℕ → Type 0) (p : List Symbol) : Type 0 where
  pub news : (x least most : ℕ) (taken : List ℕ) → IsLength v shape
      → Takes low (block_size_of v shape) a x m.cells taken
      → Allocates im object frame order x a v shape low n least most m.cells taken
      → Kept (filled_words a x (mark_of v shape) taken)
      → Will im p false m
      (LeavesWithin (record m { cells = filled_words a x (mark_of v shape) taken })
      (whole_steps steps shape (block_size_of v shape) least)
      (whole_steps steps shape (block_size_of v shape) most))
  pub deletes : (x least most : ℕ) (given taken : List ℕ) → IsLength v shape
      → m.cells ≡ filled_words a x (mark_of v shape) taken → Takes low (block_size_of v shape) a x given taken
      → Allocates im object frame order x a v shape low n least most given taken → Kept given
      → Changes low m.cells given
      → Will im p true m
      (LeavesWithin (record m { cells = given })
      (whole_steps steps shape (block_size_of v shape) least)
      (whole_steps steps shape (block_size_of v shape) most))
  pub not_nil_faults : slice_index m.cells a ≢ 0
      → Will im p false m (TrapsWithin NOT_NIL (steps + 2))
  pub full_faults : (most : ℕ) → IsLength v shape → slice_index m.cells a ≡ 0
      → Lacks im object frame order a v shape low n most m.cells
      → Will im p false m
      (TrapsWithin HEAP_FULL
      (steps + (check_steps shape + ((move_steps shape + order_steps shape) + most))))
  pub nil_faults : slice_index m.cells a ≡ 0 → Will im p true m (TrapsWithin NIL (steps + 4))
  pub other_faults : (x : ℕ) → slice_index m.cells a ≡ x → x < low → x < 2 ^ 31 → x ≢ 0
      → slice_index m.cells x ≢ mark_of v shape
      → Will im p true m (TrapsWithin (mark_fault shape) (steps + 8))
  pub count_faults : (x : ℕ) → slice_index m.cells a ≡ x → x + 1 < low → x < 2 ^ 31 → x ≢ 0
      → slice_index m.cells x ≡ mark_of v shape → slice_index m.cells (x + 1) ≢ 1
      → Will im p true m (TrapsWithin COUNT (steps + 15))
  pub not_empty_faults : (x i : ℕ) → slice_index m.cells a ≡ x
      → x + HEADER_WORDS + block_size_of v shape ≤ low
      → x + HEADER_WORDS + block_size_of v shape < 2 ^ 31 → x ≢ 0
      → slice_index m.cells x ≡ mark_of v shape
      → slice_index m.cells (x + COUNT_WORD) ≡ 1 → x + HEADER_WORDS ≤ i
      → i < x + HEADER_WORDS + block_size_of v shape
      → slice_index m.cells i ≢ 0
      → Will im p true m (TrapsWithin NOT_EMPTY (steps + (27 + 13 * block_size_of v shape)))

-- a new and a delete of an object with a class's table and so many fields, in a block of this order
pub record ObjectLaw (spot : List ℕ → Spot) (free table fields order : ℕ) (target : Lvalue)
    (p : List Symbol) : Type 0 where
  pub makes : (im : Image) (m : Memory) (object frame a : ℕ)
      → m.regs ≡ registers 0 object frame 0 0 0 0 0
      → CanEvaluate spot free (place_words target) (lvalue_read target) (Null 0) m
      → place_address spot (bases_of m) m.cells target ≡ Ok a
      → update_shares spot (bases_of m) m.cells target (Null 0) ≡ false
      → Makes im m object frame (free_at free m) (place_words target) (found_place_steps target) a 0
      order
      (Fixed table fields) (UpdateStays spot (bases_of m) (free_at free m) target (Null 0) m.cells) p
  pub place_faults : (im : Image) (d : Bool) (m : Memory)
      → CanEvaluate spot free (place_words target) (lvalue_read target) (Null 0) m → (code : ℕ)
      → place_address spot (bases_of m) m.cells target ≡ Err code
      → IsTrap im p d m code (place_steps target)
  pub sharing_faults : (im : Image) (d : Bool) (m : Memory)
      → CanEvaluate spot free (place_words target) (lvalue_read target) (Null 0) m → (a : ℕ)
      → place_address spot (bases_of m) m.cells target ≡ Ok a
      → update_shares spot (bases_of m) m.cells target (Null 0) ≡ true
      → IsTrap im p d m SHARED_ARRAY (found_place_steps target)

-- the same of an array, with a length: its fault comes after the place's, and along 13 after 4
-- if it is not above 0
pub record ArrayLaw (spot : List ℕ → Spot) (free : ℕ) (target : Lvalue) (size : Expression)
    (p : List Symbol) : Type 0 where
  pub makes : (im : Image) (m : Memory) (object frame a v : ℕ)
      → m.regs ≡ registers 0 object frame 0 0 0 0 0
      → CanEvaluate spot free (place_words target + words size) (lvalue_read target) size m
      → place_address spot (bases_of m) m.cells target ≡ Ok a
      → number spot (bases_of m) m.cells size ≡ Ok v
      → update_shares spot (bases_of m) m.cells target size ≡ false
      → Makes im m object frame (free_at free m) (place_words target + words size)
      (found_value_steps target size) a v (order_for (HEADER_WORDS + v)) Lengthy
      (UpdateStays spot (bases_of m) (free_at free m) target size m.cells) p
  pub length_faults : (im : Image) (m : Memory) (object frame a v : ℕ)
      → m.regs ≡ registers 0 object frame 0 0 0 0 0
      → CanEvaluate spot free (place_words target + words size) (lvalue_read target) size m
      → place_address spot (bases_of m) m.cells target ≡ Ok a
      → number spot (bases_of m) m.cells size ≡ Ok v
      → update_shares spot (bases_of m) m.cells target size ≡ false → slice_index m.cells a ≡ 0
      → is_less 0 v ≡ false
      → Will im p false m (TrapsWithin LENGTH (found_value_steps target size + 5))
  pub place_faults : (im : Image) (d : Bool) (m : Memory)
      → CanEvaluate spot free (place_words target + words size) (lvalue_read target) size m → (code : ℕ)
      → place_address spot (bases_of m) m.cells target ≡ Err code
      → IsTrap im p d m code (place_steps target)
  pub length_value_faults : (im : Image) (d : Bool) (m : Memory)
      → CanEvaluate spot free (place_words target + words size) (lvalue_read target) size m → (a code : ℕ)
      → place_address spot (bases_of m) m.cells target ≡ Ok a
      → number spot (bases_of m) m.cells size ≡ Err code
      → IsTrap im p d m code (place_steps target + fetch_steps size)
  pub sharing_faults : (im : Image) (d : Bool) (m : Memory)
      → CanEvaluate spot free (place_words target + words size) (lvalue_read target) size m → (a v : ℕ)
      → place_address spot (bases_of m) m.cells target ≡ Ok a
      → number spot (bases_of m) m.cells size ≡ Ok v
      → update_shares spot (bases_of m) m.cells target size ≡ true
      → IsTrap im p d m SHARED_ARRAY (found_value_steps target size)
