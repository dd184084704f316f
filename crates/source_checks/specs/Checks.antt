-- What a check that fails compares: what it finds, and what it needs.
use Rattle.std.specs.Prelude.{ℕ, Bool, true, false, nat_eq, List, [], ◌∷◌, ◌++◌, length}
use Rattle.std.specs.Prelude.{if◌then◌else◌, Result, Ok, Err}
use Rattle.std.specs.Option.{unwrap_or}
use Rattle.source_blocks.specs.rpp_tree.declared.tree.VarType.{VarType}
use Rattle.source_blocks.specs.rpp_tree.Tree.{Expression, Number, Null, Variable, Element, Binary, Lvalue, Whole}
use Rattle.source_blocks.specs.rpp_tree.Tree.{Item, Creation, Object as AnObject, Ints, Objects, Statement}
use Rattle.source_blocks.specs.rpp_tree.Tree.{Source, Update, Swap, If, Local, New, Delete, Copy, Uncopy}
use Rattle.source_blocks.specs.class_rules.Classes.{class_number}
use Rattle.source_blocks.specs.roopl_semantics.Store.{Value, Word, Nil, OfClass, State, Object}
use Rattle.source_blocks.specs.roopl_semantics.Store.{object_at, number_of, is_zero, same_value}
use Rattle.source_blocks.specs.roopl_semantics.Value.{Cell, read, value, variable_value, read_cell}
use Rattle.source_blocks.specs.roopl_semantics.Value.{cell_of, NIL}
use Rattle.source_blocks.specs.roopl_semantics.Execution.{Setting, NOT_NIL, COUNT, NOT_EMPTY}
use Rattle.source_blocks.specs.roopl_semantics.Execution.{NOT_SAME, CLASS_DIFFERS, LENGTH_DIFFERS}
use Rattle.source_blocks.specs.roopl_semantics.Execution.{LENGTH, TOO_DEEP}
use Rattle.source_blocks.specs.meaning_machine.Machine.{Caller}
use Rattle.source_compared.specs.Comparisons.{Compared, Values, Below, Missing, Count, Length, Size}
use Rattle.source_compared.specs.Comparisons.{Heads, Nothing, first_of, access_at, to_be_zero}
use Rattle.source_blocks.specs.rpp_tree.declared.tree.VarType.TheVariants as kind

-- ---- the elements that an evaluation reads

module _ (program : Source) (st : State) where
  -- the element of an expression that fails first: those in an index come before the element itself
  abbrev pub failing_access : Expression → Compared
  failing_access (Number at word) = Nothing
  failing_access (Null at) = Nothing
  failing_access (Variable name) = Nothing
  failing_access (Element name index) =
      first_of (failing_access index)
      (access_at st.store (variable_value program st name.text) (value program st index))
  failing_access (Binary at op left right) = first_of (failing_access left) (failing_access right)

  abbrev pub place_access : Lvalue → Compared
  place_access (Whole name) = Nothing
  place_access (Item name index) = failing_access (Element name index)

  abbrev pub size_access : Creation → Compared
  size_access (AnObject class) = Nothing
  size_access (Ints size) = failing_access size
  size_access (Objects class size) = failing_access size

  -- the first one of a statement that begins; a loop begins with its test
  abbrev pub begin_access : Statement → Compared
  begin_access (Update at op target value) = first_of (place_access target) (failing_access value)
  begin_access (Swap at left right) = first_of (place_access left) (place_access right)
  begin_access (If at test taken other after) = failing_access test
  begin_access (Local at var value body end_var end_value) = failing_access value
  begin_access (New at made target) = first_of (place_access target) (size_access made)
  begin_access (Delete at made target) = first_of (place_access target) (size_access made)
  begin_access (Copy at kind source target) =
      first_of (place_access source) (place_access target)
  begin_access (Uncopy at kind source target) =
      first_of (place_access source) (place_access target)
  begin_access _ = Nothing

-- ---- the checks of `new`, `delete`, `copy`, `uncopy` and calls

-- what they look at: what the place holds that is made, deleted or copied to; the size of an array,
-- or what is copied; the class that is named; and whether it is an array
pub record Subject : Type 0 where
  pub target : Value
  pub other : Value
  pub class : ℕ
  pub array : Bool

-- a value, if it is there
abbrev pub or_nil : Result Value ℕ → Value
or_nil (Ok v) = v
or_nil (Err fault) = Nil

abbrev pub is_array : VarType → Bool
is_array kind.Int = false
is_array (kind.Class class) = false
is_array kind.IntArray = true
is_array (kind.ClassArray class) = true

abbrev pub no_subject : Subject
no_subject = record { target = Nil; other = Nil; class = 0; array = false }

module _ (program : Source) (st : State) where
  abbrev pub held : Lvalue → Value
  held target = or_nil (read_cell st (cell_of program st target))

  abbrev pub created : Value → Creation → Subject
  created target (AnObject class) = record {
    target = target;
    other = Nil;
    class = unwrap_or (class_number program class.text) 0;
    array = false;
  }
  created target (Ints size) = record {
    target = target;
    other = or_nil (value program st size);
    class = 0;
    array = true;
  }
  created target (Objects class size) = record {
    target = target;
    other = or_nil (value program st size);
    class = 0;
    array = true;
  }

  abbrev pub copied : VarType → (source target : Lvalue) → Subject
  copied kind source target = record {
    target = held target;
    other = held source;
    class = 0;
    array = is_array kind;
  }

  abbrev pub subject : Statement → Subject
  subject (New at made target) = created (held target) made
  subject (Delete at made target) = created (held target) made
  subject (Copy at kind source target) = copied kind source target
  subject (Uncopy at kind source target) = copied kind source target
  subject _ = no_subject

-- two values that must be the same; one place with itself compares nothing
abbrev pub unlike : (found wanted : Value) → Compared
unlike found wanted = if same_value wanted found then Nothing else Values found wanted

-- the first field or element that is not 0 or nil
abbrev pub first_filled : List Value → Compared
first_filled [] = Nothing
first_filled (v ∷ cells) = if is_zero v then first_filled cells else to_be_zero v

module _ (setting : Setting) (st : State) where
  abbrev pub object_of : Value → Object
  object_of v = object_at st.store (number_of v)

  -- what the check with this fault compares
  abbrev pub check : (code : ℕ) → Subject → Compared
  check code it =
      if nat_eq code NOT_NIL then Values it.target Nil
      else if nat_eq code NIL then Missing it.array
      else if nat_eq code COUNT then Count (object_of it.target).count
      else if nat_eq code NOT_EMPTY then first_filled (object_of it.target).cells
      else if nat_eq code NOT_SAME then unlike it.target it.other
      else if nat_eq code CLASS_DIFFERS then
      Heads (object_of it.target).head (OfClass it.class)
      else if nat_eq code LENGTH_DIFFERS then
      Length it.other (length (object_of it.target).cells)
      else if nat_eq code LENGTH then Size it.other
      else if nat_eq code TOO_DEEP then Below (Word st.depth) setting.limits.deep
      else Nothing

  -- what a statement that stops with this fault compares as it begins
  abbrev pub compared_begin : (code : ℕ) → Statement → Compared
  compared_begin code s =
      first_of (begin_access setting.program st s) (check code (subject setting.program st s))

-- ---- the end of a call

-- the first of these cells that is not 0 or nil
abbrev pub first_touched : State → List Cell → Compared
first_touched st [] = Nothing
first_touched st (cell ∷ cells) = if is_zero (read st cell) then first_touched st cells
    else to_be_zero (read st cell)

-- the state of a caller once the method is past
abbrev pub checked_caller_state : Caller → State → State
checked_caller_state caller st = record {
  frame = caller.frame;
  self = caller.self;
  depth = caller.depth;
  store = st.store;
  log = st.log;
}

-- the first lent variable that was changed during the call: what was in it moved away
abbrev pub touched : Caller → (receiver args : List Cell) → State → Compared
touched caller receiver args st = first_touched (checked_caller_state caller st) (receiver ++ args)
