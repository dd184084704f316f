-- How the words of a memory represent the values of the source that an expression reads.
use Rattle.std.specs.Prelude.{◌≡◌, ◌≢◌, ℕ, ◌+◌, ◌<◌, nat_eq, Bool, true, false, List, length}
use Rattle.std.specs.Prelude.{slice_index, Result, Ok, Err}
use Rattle.register_expressions.specs.rpp_tree.declared.tree.BinOp.{BinOp}
use Rattle.register_expressions.specs.rpp_tree.declared.tree.BinOp.TheVariants as op
use Rattle.register_expressions.specs.rpp_tree.Tree.{Expression, Number, Null, Variable, Element, Binary, Lvalue, Whole}
use Rattle.register_expressions.specs.rpp_tree.Tree.{Item, Source}
use Rattle.register_expressions.specs.code_conventions.declared.memory.TheConstants.{HEADER_WORDS}
use Rattle.register_expressions.specs.roopl_semantics.Store.{Value, Word, Nil, Name, State, number_of, same_value}
use Rattle.register_expressions.specs.roopl_semantics.Store.{object_at}
use Rattle.register_expressions.specs.roopl_semantics.Value.{Cell, Slot, Part, cell_named, variable_value, read, value}
use Rattle.register_expressions.specs.roopl_semantics.Value.{cell_of}
use Rattle.register_expressions.specs.refine_form.declared.spot.Spot.{Spot}
use Rattle.register_expressions.specs.Number.{Bases, spot_address, word_of}

-- the operators that also compare references
abbrev pub is_equation : BinOp → Bool
is_equation op.Equal = true
is_equation op.NotEqual = true
is_equation o = false

-- the addresses of the objects and arrays by their object ids, and of the variables by their words
-- of the frame
module _ (address slot : ℕ → ℕ) where
  -- a value as a word
  abbrev pub shown : Value → ℕ
  shown (Word w) = w
  shown Nil = 0
  shown (Name n) = address n

  abbrev pub shown_result : Result Value ℕ → Result ℕ ℕ
  shown_result (Ok v) = Ok (shown v)
  shown_result (Err fault) = Err fault

  -- the address of a cell
  abbrev pub cell_address : Cell → ℕ
  cell_address (Slot i) = slot i
  cell_address (Part n i) = address n + i + HEADER_WORDS

  abbrev pub cell_result : Result Cell ℕ → Result ℕ ℕ
  cell_result (Ok cell) = Ok (cell_address cell)
  cell_result (Err fault) = Err fault

  -- two words, or two references that are the same exactly if their words are, for an operator
  -- that takes them
  pub data AreOperands (o : BinOp) (l r : Value) : Type 0 where
    words : number_of l ≡ shown l → number_of r ≡ shown r → AreOperands o l r
    compared : is_equation o ≡ true → (number_of l ≡ number_of r → shown l ≡ shown r)
        → (shown l ≡ shown r → number_of l ≡ number_of r) → AreOperands o l r

  abbrev pub OperandsOf : BinOp → Result Value ℕ → Result Value ℕ → Type 0
  OperandsOf o (Err f) y = Unit {0}
  OperandsOf o (Ok l) (Err f) = Unit {0}
  OperandsOf o (Ok l) (Ok r) = AreOperands o l r

  abbrev pub IsInt : Result Value ℕ → Type 0
  IsInt (Err f) = Unit {0}
  IsInt (Ok v) = number_of v ≡ shown v

  module _ (program : Source) (st : State) (spot : List ℕ → Spot) (b : Bases) (cells : List ℕ) where
    -- nil, or an array with its length and its elements
    abbrev pub StandsArray : Value → Type 0
    StandsArray (Word w) = ⊥
    StandsArray Nil = Unit {0}
    StandsArray (Name n) =
        (address n ≢ 0) × (slice_index cells (address n) ≡ length (object_at st.store n).cells)
        × ((i : ℕ) → i < length (object_at st.store n).cells
        → slice_index cells (address n + i + HEADER_WORDS) ≡ shown (read st (Part n i)))

    -- a variable has its value's word
    abbrev pub HasWord : List ℕ → Type 0
    HasWord name = word_of spot b cells name ≡ shown (variable_value program st name)

    -- so has all that an expression reads, and its operators have operands that they take
    abbrev pub Means : Expression → Type 0
    Means (Number at word) = Unit {0}
    Means (Null at) = Unit {0}
    Means (Variable name) = HasWord name.text
    Means (Element name index) = HasWord name.text
        × StandsArray (variable_value program st name.text) × IsInt (value program st index)
        × Means index
    Means (Binary at o left right) = Means left × Means right
        × OperandsOf o (value program st left) (value program st right)

    -- the same of a place
    abbrev pub MeansPlace : Lvalue → Type 0
    MeansPlace (Whole name) = spot_address b (spot name.text)
        ≡ cell_address (cell_named program st name.text)
    MeansPlace (Item name index) = HasWord name.text
        × StandsArray (variable_value program st name.text) × IsInt (value program st index)
        × Means index

    -- an array is one of which an expression reads an element exactly if their words are the
    -- same
    abbrev pub TellsArrays : (array : Value) → Expression → Type 0
    TellsArrays array (Number at word) = Unit {0}
    TellsArrays array (Null at) = Unit {0}
    TellsArrays array (Variable name) = Unit {0}
    TellsArrays array (Element name index) =
        (same_value array (variable_value program st name.text)
        ≡ nat_eq (shown array) (shown (variable_value program st name.text)))
        × TellsArrays array index
    TellsArrays array (Binary at o left right) = TellsArrays array left × TellsArrays array right

    -- the same of the array of a place that changes, and two expressions that are read
    abbrev pub TellsShares : Lvalue → (e e' : Expression) → Type 0
    TellsShares (Whole name) e e' = Unit {0}
    TellsShares (Item name index) e e' = TellsArrays (variable_value program st name.text) e
        × TellsArrays (variable_value program st name.text) e'

-- at each of its nodes an expression has the same value in two states
module _ (program : Source) (st st' : State) where
  abbrev pub SameValues : Expression → Type 0
  SameValues (Number at word) = Unit {0}
  SameValues (Null at) = Unit {0}
  SameValues (Variable name) = variable_value program st' name.text
      ≡ variable_value program st name.text
  SameValues (Element name index) =
      (value program st' (Element name index) ≡ value program st (Element name index))
      × SameValues index
  SameValues (Binary at o left right) =
      (value program st' (Binary at o left right) ≡ value program st (Binary at o left right))
      × SameValues left × SameValues right

  -- a place means the same cell
  abbrev pub SameCells : Lvalue → Type 0
  SameCells (Whole name) = cell_named program st' name.text ≡ cell_named program st name.text
  SameCells (Item name index) =
      (cell_of program st' (Item name index) ≡ cell_of program st (Item name index))
      × SameValues index
