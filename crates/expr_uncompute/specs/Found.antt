-- Places and values found around any middle: what a middle finds and may change, and the laws of
-- the whole fragment.
use Rattle.std.specs.Prelude.{◌≡◌, ℕ, ◌+◌, ◌^◌, ◌<◌, ◌≤◌, Bool, true, false, List, length}
use Rattle.std.specs.Prelude.{slice_index, Ok, Err}
use Rattle.register_expressions.specs.rpp_tree.Tree.{Expression, Null, Lvalue}
use Rattle.register_expressions.specs.pisa_isa.Machine.{Memory}
use Rattle.register_expressions.specs.code_conventions.declared.registers.TheConstants.{AMOUNT, OTHER_PLACE, PLACE}
use Rattle.register_expressions.specs.paired_code.declared.part.Symbol.{Symbol}
use Rattle.register_expressions.specs.paired_code.Machine.{Image, memory_with_reg}
use Rattle.register_expressions.specs.paired_code.Pieces.{Outcome, Done, Trapped, Will}
use Rattle.register_expressions.specs.roopl_semantics.Elements.{SHARED_ARRAY}
use Rattle.register_expressions.specs.refine_form.declared.spot.Spot.{Spot}
use Rattle.register_expressions.specs.Code.{words}
use Rattle.expr_uncompute.specs.Code.{place_words}
use Rattle.register_expressions.specs.Number.{Bases, number, lvalue_read, index_of, place_address}
use Rattle.register_expressions.specs.Number.{shares, update_shares, Sees, SamePlace}
use Rattle.expr_uncompute.specs.Steps.{place_steps, fetch_steps, apart_steps}
use Rattle.register_expressions.specs.Laws.{bases_of}
use Rattle.expr_uncompute.specs.Laws.{UpdateStays}
use Rattle.expr_uncompute.specs.Promises.{free_at, CanEvaluate, IsTrap}

-- ---- how a run ends

-- it leaves in this memory, in so many steps at least and at most
pub data LeavesWithin (m : Memory) (least most : ℕ) : Outcome → Type 0 where
  leaves_within : (k : ℕ) → least ≤ k → k ≤ most → LeavesWithin m least most (Done m k)

-- it traps with the code, in so many steps at most
pub data TrapsWithin (code most : ℕ) : Outcome → Type 0 where
  traps_within : (k : ℕ) → k ≤ most → TrapsWithin code most (Trapped code k)

-- ---- what a middle finds, and what it may change

-- a value in `AMOUNT`, and the addresses of a place and of a second one, over other cells
abbrev pub found_memory : (v a a' : ℕ) → List ℕ → Memory → Memory
found_memory v a a' cells m = record (memory_with_reg (memory_with_reg (memory_with_reg m AMOUNT v) PLACE a) OTHER_PLACE a')
    { cells = cells }

-- the same cells, except for n words from an address on, which hold any words
pub record Filled (low n : ℕ) (cells ys : List ℕ) : Type 0 where
  pub count : length ys ≡ length cells
  pub words : (a : ℕ) → slice_index ys a < 2 ^ 32
  pub below : (a : ℕ) → a < low → slice_index ys a ≡ slice_index cells a
  pub above : (a : ℕ) → low + n ≤ a → slice_index ys a ≡ slice_index cells a

-- words below an address may differ, and the rest stays
pub record Changes (low : ℕ) (cells cells' : List ℕ) : Type 0 where
  pub count : length cells' ≡ length cells
  pub words : (a : ℕ) → slice_index cells' a < 2 ^ 32
  pub above : (a : ℕ) → low ≤ a → slice_index cells' a ≡ slice_index cells a

-- p is a middle between so many steps that find a value and two addresses, and those that take them
-- away again.
-- If the middle leads from any filled words to the changed cells, so does p from the cells
-- themselves, and if the middle traps, p traps. `Kept` says of the changed cells that the same
-- value and addresses are found there.
pub record Encloses (im : Image) (d : Bool) (m : Memory) (low n steps v a a' : ℕ)
    (Kept : List ℕ → Type 0)
    (middle p : List Symbol) : Type 0 where
  pub leads : (cells' : List ℕ) (least most : ℕ) → Changes low m.cells cells' → Kept cells'
      → ((ys ys' : List ℕ) → Filled low n m.cells ys → Filled low n cells' ys' → Changes low ys ys'
      → Will im middle d (found_memory v a a' ys m) (LeavesWithin (found_memory v a a' ys' m) least most))
      → Will im p d m (LeavesWithin (record m { cells = cells' }) (steps + (least + steps))
      (steps + (most + steps)))
  pub traps : (code most : ℕ)
      → ((ys : List ℕ) → Filled low n m.cells ys
      → Will im middle d (found_memory v a a' ys m) (TrapsWithin code most))
      → Will im p d m (TrapsWithin code (steps + most))

-- ---- the laws

-- the steps that find a place, a place and a value, two places of which the second changes, each
-- with the check of arrays
abbrev pub found_place_steps : Lvalue → ℕ
found_place_steps target = place_steps target + apart_steps target (index_of target) (Null 0)

abbrev pub found_value_steps : Lvalue → Expression → ℕ
found_value_steps target value =
    place_steps target + fetch_steps value + apart_steps target (index_of target) value

abbrev pub found_places_steps : (source target : Lvalue) → ℕ
found_places_steps source target = place_steps source + place_steps target + apart_steps target
    (index_of source) (index_of target)

-- a middle that changes a place: the place's fault comes first, and then that of a shared array, in
-- both directions
pub record PlaceAroundLaw (spot : List ℕ → Spot) (free : ℕ) (target : Lvalue)
    (middle p : List Symbol) : Type 0 where
  pub encloses : (im : Image) (d : Bool) (m : Memory)
      → CanEvaluate spot free (place_words target) (lvalue_read target) (Null 0) m → (a : ℕ)
      → place_address spot (bases_of m) m.cells target ≡ Ok a
      → update_shares spot (bases_of m) m.cells target (Null 0) ≡ false
      → Encloses im d m (free_at free m) (place_words target) (found_place_steps target) 0 a 0
      (UpdateStays spot (bases_of m) (free_at free m) target (Null 0) m.cells) middle p
  pub place_faults : (im : Image) (d : Bool) (m : Memory)
      → CanEvaluate spot free (place_words target) (lvalue_read target) (Null 0) m → (code : ℕ)
      → place_address spot (bases_of m) m.cells target ≡ Err code
      → IsTrap im p d m code (place_steps target)
  pub sharing_faults : (im : Image) (d : Bool) (m : Memory)
      → CanEvaluate spot free (place_words target) (lvalue_read target) (Null 0) m → (a : ℕ)
      → place_address spot (bases_of m) m.cells target ≡ Ok a
      → update_shares spot (bases_of m) m.cells target (Null 0) ≡ true
      → IsTrap im p d m SHARED_ARRAY (found_place_steps target)

-- one that changes a place by a value: the value's fault comes between the two
pub record ValueAroundLaw (spot : List ℕ → Spot) (free : ℕ) (target : Lvalue) (value : Expression)
    (middle p : List Symbol) : Type 0 where
  pub encloses : (im : Image) (d : Bool) (m : Memory)
      → CanEvaluate spot free (place_words target + words value) (lvalue_read target) value m → (a v : ℕ)
      → place_address spot (bases_of m) m.cells target ≡ Ok a
      → number spot (bases_of m) m.cells value ≡ Ok v
      → update_shares spot (bases_of m) m.cells target value ≡ false
      → Encloses im d m (free_at free m) (place_words target + words value)
      (found_value_steps target value) v a
      0 (UpdateStays spot (bases_of m) (free_at free m) target value m.cells) middle p
  pub place_faults : (im : Image) (d : Bool) (m : Memory)
      → CanEvaluate spot free (place_words target + words value) (lvalue_read target) value m → (code : ℕ)
      → place_address spot (bases_of m) m.cells target ≡ Err code
      → IsTrap im p d m code (place_steps target)
  pub value_faults : (im : Image) (d : Bool) (m : Memory)
      → CanEvaluate spot free (place_words target + words value) (lvalue_read target) value m → (a code : ℕ)
      → place_address spot (bases_of m) m.cells target ≡ Ok a
      → number spot (bases_of m) m.cells value ≡ Err code
      → IsTrap im p d m code (place_steps target + fetch_steps value)
  pub sharing_faults : (im : Image) (d : Bool) (m : Memory)
      → CanEvaluate spot free (place_words target + words value) (lvalue_read target) value m → (a v : ℕ)
      → place_address spot (bases_of m) m.cells target ≡ Ok a
      → number spot (bases_of m) m.cells value ≡ Ok v
      → update_shares spot (bases_of m) m.cells target value ≡ true
      → IsTrap im p d m SHARED_ARRAY (found_value_steps target value)

-- after a change both places are where they were, and the second one still shares no array
pub record PlacesStay (spot : List ℕ → Spot) (b : Bases) (low : ℕ) (source target : Lvalue)
    (cells cells' : List ℕ) : Type 0 where
  pub source_sees : Sees spot b low cells' (lvalue_read source)
  pub target_sees : Sees spot b low cells' (lvalue_read target)
  pub source_same : SamePlace spot b cells cells' source
  pub target_same : SamePlace spot b cells cells' target
  pub apart : shares spot b cells' target (index_of source) (index_of target) ≡ false

-- a middle that reads one place and changes a second: the faults of the first, of the second, and
-- that of a shared array
pub record PlacesAroundLaw (spot : List ℕ → Spot) (free : ℕ) (source target : Lvalue)
    (middle p : List Symbol) : Type 0 where
  pub encloses : (im : Image) (d : Bool) (m : Memory)
      → CanEvaluate spot free (place_words source + place_words target) (lvalue_read source) (lvalue_read target)
      m
      → (a a' : ℕ) → place_address spot (bases_of m) m.cells source ≡ Ok a
      → place_address spot (bases_of m) m.cells target ≡ Ok a'
      → shares spot (bases_of m) m.cells target (index_of source) (index_of target) ≡ false
      → Encloses im d m (free_at free m) (place_words source + place_words target)
      (found_places_steps source target) 0 a a'
      (PlacesStay spot (bases_of m) (free_at free m) source target m.cells) middle p
  pub source_faults : (im : Image) (d : Bool) (m : Memory)
      → CanEvaluate spot free (place_words source + place_words target) (lvalue_read source) (lvalue_read target)
      m
      → (code : ℕ) → place_address spot (bases_of m) m.cells source ≡ Err code
      → IsTrap im p d m code (place_steps source)
  pub target_faults : (im : Image) (d : Bool) (m : Memory)
      → CanEvaluate spot free (place_words source + place_words target) (lvalue_read source) (lvalue_read target)
      m
      → (a code : ℕ) → place_address spot (bases_of m) m.cells source ≡ Ok a
      → place_address spot (bases_of m) m.cells target ≡ Err code
      → IsTrap im p d m code (place_steps source + place_steps target)
  pub sharing_faults : (im : Image) (d : Bool) (m : Memory)
      → CanEvaluate spot free (place_words source + place_words target) (lvalue_read source) (lvalue_read target)
      m
      → (a a' : ℕ) → place_address spot (bases_of m) m.cells source ≡ Ok a
      → place_address spot (bases_of m) m.cells target ≡ Ok a'
      → shares spot (bases_of m) m.cells target (index_of source) (index_of target) ≡ true
      → IsTrap im p d m SHARED_ARRAY (found_places_steps source target)
