-- What an expression is, read only from a memory.
use Rattle.std.specs.Prelude.{◌≡◌, ◌≢◌, ℕ, ◌+◌, ◌^◌, ◌<◌, ◌≤◌, nat_eq, nat_lt, if◌then◌else◌, Bool}
use Rattle.std.specs.Prelude.{false, ◌||◌, List, slice_index, Result, Ok, Err}
use Rattle.code_scope.specs.rpp_tree.declared.tree.BinOp.{BinOp}
use Rattle.code_scope.specs.rpp_tree.Tree.{Expression, Number, Null, Variable, Element, Binary, Lvalue, Whole}
use Rattle.code_scope.specs.rpp_tree.Tree.{Item}
use Rattle.code_scope.specs.code_conventions.declared.memory.TheConstants.{HEADER_WORDS}
use Rattle.code_scope.specs.roopl_semantics.Operators.{operated}
use Rattle.code_scope.specs.refine_form.declared.spot.Spot.{Spot}
use Rattle.code_scope.specs.refine_form.declared.spot.Spot.TheVariants.{Field, Frame}
pub use Rattle.code_scope.specs.rpp_tree.Tree.{lvalue_read}
use Rattle.code_scope.specs.code_conventions.declared.faults.TheConstants.{INDEX, NIL}

-- the addresses of the current object and of the current frame
pub record Bases : Type 0 where
  pub object : ℕ
  pub frame : ℕ

-- the address of a storage slot
abbrev pub spot_address : Bases → Spot → ℕ
spot_address b (Field i) = b.object + (HEADER_WORDS + i)
spot_address b (Frame i) = b.frame + i

-- the address of an element of an array, by its index without sign
abbrev pub element_address : List ℕ → (array index : ℕ) → Result ℕ ℕ
element_address cells array index =
    if nat_eq array 0 then Err NIL else (if nat_lt index (slice_index cells array)
    then Ok (array + index + HEADER_WORDS) else Err INDEX)

abbrev pub element_at : List ℕ → (array : ℕ) → Result ℕ ℕ → Result ℕ ℕ
element_at cells array (Err fault) = Err fault
element_at cells array (Ok index) = element_address cells array index

abbrev pub word_in : List ℕ → Result ℕ ℕ → Result ℕ ℕ
word_in cells (Err fault) = Err fault
word_in cells (Ok address) = Ok (slice_index cells address)

abbrev pub combined_words : BinOp → Result ℕ ℕ → Result ℕ ℕ → Result ℕ ℕ
combined_words op (Err fault) right = Err fault
combined_words op (Ok left) (Err fault) = Err fault
combined_words op (Ok left) (Ok right) = Ok (operated op left right)

-- a result as a number
abbrev pub word_given : Result ℕ ℕ → ℕ
word_given (Ok v) = v
word_given (Err fault) = 0

-- the index of a place; nil if it is no element
abbrev pub index_of : Lvalue → Expression
index_of (Whole name) = Null 0
index_of (Item name index) = index

module _ (spot : List ℕ → Spot) (b : Bases) where
  -- the word of a variable
  abbrev pub word_of : List ℕ → List ℕ → ℕ
  word_of cells name = slice_index cells (spot_address b (spot name))

  -- the number of an expression, or the fault that is met first
  abbrev pub number : List ℕ → Expression → Result ℕ ℕ
  number cells (Number at word) = Ok word
  number cells (Null at) = Ok 0
  number cells (Variable name) = Ok (word_of cells name.text)
  number cells (Element name index) =
      word_in cells (element_at cells (word_of cells name.text) (number cells index))
  number cells (Binary at op left right) = combined_words op (number cells left) (number cells right)

  -- the address of a place, or the fault that is met first
  abbrev pub place_address : List ℕ → Lvalue → Result ℕ ℕ
  place_address cells (Whole name) = Ok (spot_address b (spot name.text))
  place_address cells (Item name index) = element_at cells (word_of cells name.text)
      (number cells index)

  -- whether an expression reads an element of the array of this word
  abbrev pub reads_array : List ℕ → (array : ℕ) → Expression → Bool
  reads_array cells array (Number at word) = false
  reads_array cells array (Null at) = false
  reads_array cells array (Variable name) = false
  reads_array cells array (Element name index) =
      nat_eq array (word_of cells name.text) || reads_array cells array index
  reads_array cells array (Binary at op left right) =
      reads_array cells array left || reads_array cells array right

  -- whether a place that changes is an element of an array of which one of two expressions reads an
  -- element
  abbrev pub shares : List ℕ → Lvalue → (e e' : Expression) → Bool
  shares cells (Whole name) e e' = false
  shares cells (Item name index) e e' =
      reads_array cells (word_of cells name.text) e
      || reads_array cells (word_of cells name.text) e'

  -- the same of an update, which reads the place's index and the value
  abbrev pub update_shares : List ℕ → Lvalue → Expression → Bool
  update_shares cells target value = shares cells target (index_of target) value

  -- and of a swap, which changes both places and reads both indexes
  abbrev pub swap_shares : List ℕ → (left right : Lvalue) → Bool
  swap_shares cells left right = shares cells left (index_of left) (index_of right)
      || shares cells right (index_of left) (index_of right)

  -- a word that is nil, or the address of an array, all below an address
  pub record IsArray (low : ℕ) (cells : List ℕ) (a : ℕ) : Type 0 where
    pub short : a ≢ 0 → slice_index cells a < 2 ^ 31
    pub room : a ≢ 0 → a + HEADER_WORDS + slice_index cells a ≤ low

  -- all that an expression reads is below an address, and each number is a word
  abbrev pub Sees : ℕ → List ℕ → Expression → Type 0
  Sees low cells (Number at word) = word < 2 ^ 32
  Sees low cells (Null at) = Unit {0}
  Sees low cells (Variable name) = spot_address b (spot name.text) < low
  Sees low cells (Element name index) =
      (spot_address b (spot name.text) < low) × IsArray low cells (word_of cells name.text)
      × Sees low cells index
  Sees low cells (Binary at op left right) = Sees low cells left × Sees low cells right

  -- at each of its nodes an expression has the same number in two memories
  abbrev pub Same : (cells cells' : List ℕ) → Expression → Type 0
  Same cells cells' (Number at word) = Unit {0}
  Same cells cells' (Null at) = Unit {0}
  Same cells cells' (Variable name) = word_of cells' name.text ≡ word_of cells name.text
  Same cells cells' (Element name index) =
      (number cells' (Element name index) ≡ number cells (Element name index))
      × Same cells cells' index
  Same cells cells' (Binary at op left right) =
      (number cells' (Binary at op left right) ≡ number cells (Binary at op left right))
      × Same cells cells' left × Same cells cells' right

  -- a place has the same address
  abbrev pub SamePlace : (cells cells' : List ℕ) → Lvalue → Type 0
  SamePlace cells cells' (Whole name) = Unit {0}
  SamePlace cells cells' (Item name index) =
      (place_address cells' (Item name index) ≡ place_address cells (Item name index))
      × Same cells cells' index
