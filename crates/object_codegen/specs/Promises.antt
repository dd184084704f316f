-- What the code of objects and arrays does, only by the memory.
use Rattle.std.specs.Prelude.{◌≡◌, ◌≢◌, ℕ, ◌+◌, ◌^◌, ◌<◌, ◌≤◌, Bool, true, false, List, length}
use Rattle.std.specs.Prelude.{slice_index, slice_set, Ok, Err}
use Rattle.refine_heap.specs.rpp_tree.Tree.{Lvalue}
use Rattle.refine_heap.specs.pisa_isa.Machine.{Memory}
use Rattle.refine_heap.specs.paired_code.declared.part.Symbol.{Symbol}
use Rattle.refine_heap.specs.paired_code.Machine.{Image}
use Rattle.refine_heap.specs.paired_code.Pieces.{Will}
use Rattle.static_layout.specs.roopl_semantics.Elements.{SHARED_ARRAY}
use Rattle.static_layout.specs.roopl_semantics.Value.{NIL}
use Rattle.static_layout.specs.roopl_semantics.Execution.{NOT_NIL, NOT_SAME}
use Rattle.expr_uncompute.specs.refine_form.declared.spot.Spot.{Spot}
use Rattle.expr_uncompute.specs.Code.{place_words}
use Rattle.expr_uncompute.specs.register_expressions.Number.{lvalue_read, index_of, place_address, shares}
use Rattle.expr_uncompute.specs.Steps.{place_steps}
use Rattle.expr_uncompute.specs.register_expressions.Laws.{bases_of}
use Rattle.expr_uncompute.specs.Promises.{free_at, CanEvaluate, IsTrap}
use Rattle.expr_uncompute.specs.Found.{LeavesWithin, TrapsWithin, PlacesStay, found_places_steps}

-- ---- copies

-- what a copy makes of the cells: q refers to x, and x's count is c
abbrev pub referring : (q x c : ℕ) → List ℕ → List ℕ
referring q x c cells = slice_set (slice_set cells q x) (x + 1) c

-- what the inverse makes of them: q is nil, and x's count is c
abbrev pub unreferring : (q x c : ℕ) → List ℕ → List ℕ
unreferring q x c cells = slice_set (slice_set cells q 0) (x + 1) c

-- a copy can be made: x is at p, and nil at q; both and the reference count of x are below an
-- address
pub record Copies (low p q x c : ℕ) (cells : List ℕ) : Type 0 where
  pub low_in : low ≤ length cells
  pub p_in : p < low
  pub q_in : q < low
  pub count_in : x + 1 < low
  pub small : length cells ≤ 2 ^ 31
  pub source : slice_index cells p ≡ x
  pub some : x ≢ 0
  pub target : slice_index cells q ≡ 0
  pub count : slice_index cells (x + 1) ≡ c
  pub more : c + 1 < 2 ^ 32
  pub p_apart : p ≢ x + 1
  pub q_apart : q ≢ x + 1

-- one was made: two places refer to x, whose count is c + 1
pub record Shares (low p q x c : ℕ) (cells : List ℕ) : Type 0 where
  pub low_in : low ≤ length cells
  pub p_in : p < low
  pub q_in : q < low
  pub count_in : x + 1 < low
  pub small : length cells ≤ 2 ^ 31
  pub source : slice_index cells p ≡ x
  pub some : x ≢ 0
  pub target : slice_index cells q ≡ x
  pub count : slice_index cells (x + 1) ≡ c + 1
  pub more : c + 1 < 2 ^ 32
  pub apart : p ≢ q
  pub p_apart : p ≢ x + 1
  pub q_apart : q ≢ x + 1

-- both places are found, and the second one shares no array
pub record Places (spot : List ℕ → Spot) (free : ℕ) (source target : Lvalue) (m : Memory)
    (a a' : ℕ) : Type 0 where
  pub can : CanEvaluate spot free (place_words source + place_words target) (lvalue_read source)
      (lvalue_read target) m
  pub source_at : place_address spot (bases_of m) m.cells source ≡ Ok a
  pub target_at : place_address spot (bases_of m) m.cells target ≡ Ok a'
  pub apart : shares spot (bases_of m) m.cells target (index_of source) (index_of target) ≡ false

-- the steps of a copy and of an uncopy
abbrev pub copy_steps : (source target : Lvalue) → ℕ
copy_steps source target = found_places_steps source target +
    (42 + found_places_steps source target)

-- run forward a copy: the second place refers to what the first one refers to, and its count grows;
-- run back the inverse. The faults of the places come first, in both directions; then nil in the
-- first place, and what the second one has to be.
pub record CopyLaw (spot : List ℕ → Spot) (free : ℕ) (source target : Lvalue)
    (p : List Symbol) : Type 0 where
  pub copies : (im : Image) (m : Memory) (a a' x c : ℕ) → Places spot free source target m a a'
      → Copies (free_at free m) a a' x c m.cells
      → PlacesStay spot (bases_of m) (free_at free m) source target m.cells
      (referring a' x (c + 1) m.cells)
      → Will im p false m
      (LeavesWithin (record m { cells = referring a' x (c + 1) m.cells })
      (copy_steps source target) (copy_steps source target))
  pub uncopies : (im : Image) (m : Memory) (a a' x c : ℕ) → Places spot free source target m a a'
      → Shares (free_at free m) a a' x c m.cells
      → PlacesStay spot (bases_of m) (free_at free m) source target m.cells
      (unreferring a' x c m.cells)
      → Will im p true m
      (LeavesWithin (record m { cells = unreferring a' x c m.cells })
      (copy_steps source target) (copy_steps source target))
  pub source_faults : (im : Image) (d : Bool) (m : Memory)
      → CanEvaluate spot free (place_words source + place_words target) (lvalue_read source) (lvalue_read target)
      m
      → (code : ℕ) → place_address spot (bases_of m) m.cells source ≡ Err code
      → IsTrap im p d m code (place_steps source)
  pub target_faults : (im : Image) (d : Bool) (m : Memory)
      → CanEvaluate spot free (place_words source + place_words target) (lvalue_read source) (lvalue_read target)
      m
      → (a code : ℕ) → place_address spot (bases_of m) m.cells source ≡ Ok a
      → place_address spot (bases_of m) m.cells target ≡ Err code
      → IsTrap im p d m code (place_steps source + place_steps target)
  pub sharing_faults : (im : Image) (d : Bool) (m : Memory)
      → CanEvaluate spot free (place_words source + place_words target) (lvalue_read source) (lvalue_read target)
      m
      → (a a' : ℕ) → place_address spot (bases_of m) m.cells source ≡ Ok a
      → place_address spot (bases_of m) m.cells target ≡ Ok a'
      → shares spot (bases_of m) m.cells target (index_of source) (index_of target) ≡ true
      → IsTrap im p d m SHARED_ARRAY (found_places_steps source target)
  pub nil_faults : (im : Image) (d : Bool) (m : Memory) (a a' : ℕ)
      → Places spot free source target m a a'
      → slice_index m.cells a ≡ 0
      → Will im p d m (TrapsWithin NIL (found_places_steps source target + 2))
  pub not_nil_faults : (im : Image) (m : Memory) (a a' x : ℕ)
      → Places spot free source target m a a'
      → slice_index m.cells a ≡ x → x < 2 ^ 31 → x ≢ 0 → slice_index m.cells a' ≢ 0
      → Will im p false m (TrapsWithin NOT_NIL (found_places_steps source target + 6))
  pub not_same_faults : (im : Image) (m : Memory) (a a' x y : ℕ)
      → Places spot free source target m a a'
      → slice_index m.cells a ≡ x → slice_index m.cells a' ≡ y → x < 2 ^ 31 → x ≢ 0 → x ≢ y
      → Will im p true m (TrapsWithin NOT_SAME (found_places_steps source target + 11))
  pub one_place_faults : (im : Image) (m : Memory) (a x : ℕ) → Places spot free source target m a a
      → slice_index m.cells a ≡ x → x < 2 ^ 31 → x ≢ 0
      → Will im p true m (TrapsWithin NOT_SAME (found_places_steps source target + 19))
