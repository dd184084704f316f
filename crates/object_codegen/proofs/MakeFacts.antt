-- What a relation of states and memories gives, so that `new` and `delete` are what the source says.
use Rattle.std.proofs.Common.{◌≡◌, ◌≢◌, ℕ, ◌+◌, ◌^◌, ◌<◌, ◌≤◌, Bool, true, false, List, ◌∷◌, length}
use Rattle.std.specs.Prelude.{slice_index, nat_lt, ◌||◌, is_none, replicate, Ok}
use Rattle.std.specs.Option.{unwrap_or}
use Rattle.refine_heap.specs.code_conventions.declared.memory.TheConstants.{HEADER_WORDS}
use Rattle.refine_heap.specs.rpp_words.Words.{is_less}
use Rattle.refine_heap.specs.rpp_tree.declared.tree.Ident.{Ident}
use Rattle.refine_heap.specs.rpp_tree.Tree.{Expression, Null, Lvalue, Whole}
use Rattle.refine_heap.specs.class_rules.Classes.{class_number, class_fields}
use Rattle.refine_heap.specs.buddy_book.Place.{Log, Taken, count_taken, place as place_log}
use Rattle.refine_heap.specs.buddy_pisa.Promise.{most_steps}
use Rattle.refine_heap.specs.pisa_isa.Machine.{Memory}
use Rattle.refine_heap.specs.paired_code.Machine.{Image}
use Rattle.static_layout.specs.roopl_semantics.Store.{Value, Nil, Name, Head, OfClass, State, number_of, zero_values}
use Rattle.static_layout.specs.roopl_semantics.Store.{object_at}
use Rattle.static_layout.specs.roopl_semantics.Value.{Cell, cell_named, read, written, value, cell_of}
use Rattle.static_layout.specs.roopl_semantics.Elements.{index_elements, own_element, share_array}
use Rattle.static_layout.specs.roopl_semantics.Execution.{Setting, new_object, order_of_cells, is_of_class, all_zero}
use Rattle.static_layout.specs.roopl_semantics.Execution.{freed}
use Rattle.expr_uncompute.specs.refine_form.Form.{registers}
use Rattle.expr_uncompute.specs.refine_form.declared.spot.Spot.{Spot}
use Rattle.expr_uncompute.specs.register_expressions.Code.{words}
use Rattle.expr_uncompute.specs.Code.{place_words}
use Rattle.expr_uncompute.specs.register_expressions.Number.{lvalue_read, index_of}
use Rattle.expr_uncompute.specs.register_expressions.Laws.{bases_of}
use Rattle.expr_uncompute.specs.Promises.{free_at, CanEvaluate}
use Rattle.expr_uncompute.specs.Found.{Changes}
use Rattle.expr_uncompute.specs.Means.{shown, cell_address, Means, MeansPlace, TellsShares, SameValues, SameCells}
use Rattle.object_codegen.specs.declared.shape.Shape.{Shape}
use Rattle.object_codegen.specs.declared.shape.Shape.TheVariants.{Fixed, Lengthy}
use Rattle.object_codegen.specs.Code.{mark_of, block_size_of}
use Rattle.object_codegen.specs.News.{Allocates, Lacks, Takes, filled_words}
use Rattle.object_codegen.proofs.CopyRows.{Refers}

-- ---- the source's words

-- the requests, with one more for a block of so many cells
abbrev pub log_with : ℕ → State → Log
log_with size st = Taken (2 + count_taken st.log) (order_of_cells size) ∷ st.log

-- the heap has no block for so many cells
abbrev pub is_full : Setting → ℕ → State → Bool
is_full setting size st = nat_lt setting.limits.heap (order_of_cells size) || is_none
    (place_log setting.limits.heap (log_with size st))

-- the state with a new object or array of so many cells in the place
abbrev pub made : ℕ → Head → List Value → Cell → State → State
made size head cells cell st =
    written (record st { store = (2 + count_taken st.log, new_object head cells) ∷ st.store; log = log_with size st })
    cell (Name (2 + count_taken st.log))

abbrev pub length_at : State → ℕ → ℕ
length_at st name = length (object_at st.store name).cells

abbrev pub count_at : State → ℕ → ℕ
count_at st name = (object_at st.store name).count

abbrev pub is_empty : State → ℕ → Bool
is_empty st name = all_zero (object_at st.store name).cells

-- the number of a class, and the cells of a new object
abbrev pub number_in : Setting → Ident → ℕ
number_in setting class = unwrap_or (class_number setting.program class.text) 0

abbrev pub fresh_cells : Setting → Ident → List Value
fresh_cells setting class = zero_values (class_fields setting.program
    (unwrap_or (class_number setting.program class.text) 0))

abbrev pub same_class : Setting → Ident → State → ℕ → Bool
same_class setting class st name = is_of_class (object_at st.store name).head (class_number setting.program class.text)

module _ (setting : Setting) (address slot : State → ℕ → ℕ) (R : State → Memory → Type 0) (spot : List ℕ → Spot)
    (free : ℕ) (object frame : ℕ) (im : Image) where
  abbrev pub at : State → Cell → ℕ
  at st cell = cell_address (address st) (slot st) cell

  -- ---- what is common to objects and arrays

  -- an object id that a cell holds before and one after has the address that it had
  abbrev pub KeepsNames : (st st' : State) → Type 0
  KeepsNames st st' = (a a' : Cell) (n : ℕ) → read st a ≡ Name n → read st' a' ≡ Name n → address st' n ≡ address st n

  -- the object or array of an object id is in the cells, with its reference count, and a word that
  -- is not 0 if not all are
  pub record StandsThere (st : State) (m : Memory) (name : ℕ) : Type 0 where
    pub inside : address st name + HEADER_WORDS + length_at st name ≤ free_at free m
    pub small : address st name + HEADER_WORDS + length_at st name < 2 ^ 31
    pub count : slice_index m.cells (address st name + 1) ≡ count_at st name
    pub full : is_empty st name ≡ false → (i : ℕ) × (i < length_at st name)
        × (slice_index m.cells (address st name + HEADER_WORDS + i) ≢ 0)

  -- the heap has a block: st' is the state with the new object or array, whose place is at p and
  -- whose length v
  pub record TakesBlock (st st' : State) (m : Memory) (p v order n : ℕ) (shape : Shape) : Type 0 where
    pub x : ℕ
    pub taken : List ℕ
    pub takes : Takes (free_at free m) (block_size_of v shape) p x m.cells taken
    pub allocates : Allocates im object frame order x p v shape (free_at free m) n (setting.limits.heap + 1)
        (most_steps setting.limits.heap + 7) m.cells taken
    pub after : R st' (record m { cells = filled_words p x (mark_of v shape) taken })
    pub keeps : KeepsNames st st'

  -- the block at x can be given back: st' is the state without the object or array
  pub record GivesBlock (st st' : State) (m : Memory) (p x v order n : ℕ) (shape : Shape) : Type 0 where
    pub given : List ℕ
    pub taken : List ℕ
    pub was : m.cells ≡ filled_words p x (mark_of v shape) taken
    pub takes : Takes (free_at free m) (block_size_of v shape) p x given taken
    pub allocates : Allocates im object frame order x p v shape (free_at free m) n (setting.limits.heap + 1)
        (most_steps setting.limits.heap + 7) given taken
    pub changes : Changes (free_at free m) m.cells given
    pub after : R st' (record m { cells = given })
    pub keeps : KeepsNames st st'

  -- ---- objects of a class, whose table has this address

  module _ (class : Ident) (target : Lvalue) (table fields order : ℕ) where
    abbrev pub sharing : State → Bool
    sharing st = share_array setting.program st (own_element target) (index_elements target)

    -- the state with a new object
    abbrev pub with_object : Cell → State → State
    with_object cell st = made (length (fresh_cells setting class)) (OfClass (number_in setting class))
        (fresh_cells setting class) cell st

    pub record ObjectStands (st : State) (m : Memory) (name : ℕ) : Type 0 where
      pub there : StandsThere st m name
      pub mark : same_class setting class st name ≡ true → slice_index m.cells (address st name) ≡ table
      pub other : same_class setting class st name ≡ false → slice_index m.cells (address st name) ≢ table
      pub size : same_class setting class st name ≡ true → length_at st name ≡ fields

    pub record ObjectFacts : Type 0 where
      pub regs_are : (st : State) (m : Memory) → R st m → m.regs ≡ registers 0 object frame 0 0 0 0 0
      pub can : (st : State) (m : Memory) → R st m → CanEvaluate spot free (place_words target) (lvalue_read target)
          (Null 0) m
      pub means : (st : State) (m : Memory) → R st m → MeansPlace (address st) (slot st) setting.program st spot
          (bases_of m) m.cells target
      pub tells : (st : State) (m : Memory) → R st m → TellsShares (address st) (slot st) setting.program st spot
          (bases_of m) m.cells target (index_of target) (Null 0)
      pub refers : (st : State) (m : Memory) (cell : Cell) → R st m → cell_of setting.program st target ≡ Ok cell
          → Refers (address st) (read st cell)
      pub word : (st : State) (m : Memory) (cell : Cell) → R st m → cell_of setting.program st target ≡ Ok cell
          → slice_index m.cells (at st cell) ≡ shown (address st) (slot st) (read st cell)
      pub stands : (st : State) (m : Memory) (cell : Cell) (name : ℕ) → R st m
          → cell_of setting.program st target ≡ Ok cell → read st cell ≡ Name name → ObjectStands st m name
      pub makes : (st : State) (m : Memory) (cell : Cell) → R st m → cell_of setting.program st target ≡ Ok cell
          → sharing st ≡ false → read st cell ≡ Nil → is_full setting (length (fresh_cells setting class)) st ≡ false
          → TakesBlock st (with_object cell st) m (at st cell) 0 order (place_words target) (Fixed table fields)
      pub made_same : (st : State) (m : Memory) (cell : Cell) → R st m → cell_of setting.program st target ≡ Ok cell
          → sharing st ≡ false → read st cell ≡ Nil → is_full setting (length (fresh_cells setting class)) st ≡ false
          → SameCells setting.program st (with_object cell st) target × (sharing (with_object cell st) ≡ false)
      pub lacks : (st : State) (m : Memory) (cell : Cell) → R st m → cell_of setting.program st target ≡ Ok cell
          → read st cell ≡ Nil → is_full setting (length (fresh_cells setting class)) st ≡ true
          → Lacks im object frame order (at st cell) 0 (Fixed table fields) (free_at free m) (place_words target)
          (most_steps setting.limits.heap + 7) m.cells
      pub frees : (st : State) (m : Memory) (cell : Cell) (name : ℕ) → R st m
          → cell_of setting.program st target ≡ Ok cell → sharing st ≡ false → read st cell ≡ Name name
          → same_class setting class st name ≡ true → count_at st name ≡ 1 → is_empty st name ≡ true
          → GivesBlock st (freed setting cell name st) m (at st cell) (address st name) 0 order (place_words target)
          (Fixed table fields)
      pub freed_same : (st : State) (m : Memory) (cell : Cell) (name : ℕ) → R st m
          → cell_of setting.program st target ≡ Ok cell → sharing st ≡ false → read st cell ≡ Name name
          → same_class setting class st name ≡ true → count_at st name ≡ 1 → is_empty st name ≡ true
          → SameCells setting.program st (freed setting cell name st) target
          × (sharing (freed setting cell name st) ≡ false)

  -- ---- arrays: the place is a variable, since no element is of an array's type

  module _ (head : ℕ → Head) (element : Value) (name : Ident) (size : Expression) where
    abbrev pub own_cell : State → Cell
    own_cell st = cell_named setting.program st name.text

    -- the state with a new array of length n
    abbrev pub with_array : ℕ → State → State
    with_array n st = made n (head n) (replicate n element) (cell_named setting.program st name.text) st

    pub record ArrayStands (st : State) (m : Memory) (array : ℕ) : Type 0 where
      pub there : StandsThere st m array
      pub mark : slice_index m.cells (address st array) ≡ length_at st array
      pub some : 1 ≤ length_at st array

    pub record ArrayFacts : Type 0 where
      pub regs_are : (st : State) (m : Memory) → R st m → m.regs ≡ registers 0 object frame 0 0 0 0 0
      pub can : (st : State) (m : Memory) → R st m → CanEvaluate spot free (place_words (Whole name) + words size)
          (lvalue_read (Whole name)) size m
      pub means : (st : State) (m : Memory) → R st m → MeansPlace (address st) (slot st) setting.program st spot
          (bases_of m) m.cells (Whole name)
      pub size_means : (st : State) (m : Memory) → R st m → Means (address st) (slot st) setting.program st spot
          (bases_of m) m.cells size
      pub is_int : (st : State) (m : Memory) (v : Value) → R st m → value setting.program st size ≡ Ok v
          → number_of v ≡ shown (address st) (slot st) v
      pub is_word : (st : State) (m : Memory) (v : Value) → R st m → value setting.program st size ≡ Ok v
          → number_of v < 2 ^ 32
      pub refers : (st : State) (m : Memory) → R st m → Refers (address st) (read st (own_cell st))
      pub word : (st : State) (m : Memory) → R st m → slice_index m.cells (at st (own_cell st))
          ≡ shown (address st) (slot st) (read st (own_cell st))
      pub stands : (st : State) (m : Memory) (array : ℕ) → R st m → read st (own_cell st) ≡ Name array
          → ArrayStands st m array
      pub makes : (st : State) (m : Memory) (v : Value) → R st m → value setting.program st size ≡ Ok v
          → read st (own_cell st) ≡ Nil → is_less (number_of v) 1 ≡ false → is_full setting (number_of v) st ≡ false
          → TakesBlock st (with_array (number_of v) st) m (at st (own_cell st)) (number_of v)
          (order_of_cells (number_of v)) (place_words (Whole name) + words size) Lengthy
      pub made_same : (st : State) (m : Memory) (v : Value) → R st m → value setting.program st size ≡ Ok v
          → read st (own_cell st) ≡ Nil → is_less (number_of v) 1 ≡ false → is_full setting (number_of v) st ≡ false
          → SameValues setting.program st (with_array (number_of v) st) size
      pub lacks : (st : State) (m : Memory) (v : Value) → R st m → value setting.program st size ≡ Ok v
          → read st (own_cell st) ≡ Nil → is_less (number_of v) 1 ≡ false → is_full setting (number_of v) st ≡ true
          → Lacks im object frame (order_of_cells (number_of v)) (at st (own_cell st)) (number_of v) Lengthy
          (free_at free m) (place_words (Whole name) + words size) (most_steps setting.limits.heap + 7) m.cells
      pub frees : (st : State) (m : Memory) (v : Value) (array : ℕ) → R st m → value setting.program st size ≡ Ok v
          → read st (own_cell st) ≡ Name array → length_at st array ≡ number_of v → count_at st array ≡ 1
          → is_empty st array ≡ true
          → GivesBlock st (freed setting (own_cell st) array st) m (at st (own_cell st)) (address st array)
          (number_of v) (order_of_cells (number_of v)) (place_words (Whole name) + words size) Lengthy
      pub freed_same : (st : State) (m : Memory) (v : Value) (array : ℕ) → R st m → value setting.program st size ≡ Ok v
          → read st (own_cell st) ≡ Name array → length_at st array ≡ number_of v → count_at st array ≡ 1
          → is_empty st array ≡ true
          → SameValues setting.program st (freed setting (own_cell st) array st) size
