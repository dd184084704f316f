-- The cells of values, conditions, updates and swaps, in their linear form.
use Rattle.std.specs.Prelude.{ℕ, ◌+◌, nat_eq, Bool, ◌&&◌, not, if◌then◌else◌, List, [], ◌∷◌, ◌++◌}
use Rattle.register_expressions.specs.rpp_words.Words.{difference_of}
use Rattle.register_expressions.specs.rpp_tree.declared.tree.Ident.{Ident}
use Rattle.register_expressions.specs.rpp_tree.declared.tree.UpdateOp.{UpdateOp}
use Rattle.register_expressions.specs.rpp_tree.declared.tree.UpdateOp.TheVariants as update
use Rattle.register_expressions.specs.rpp_tree.Tree.{Expression, Number, Null, Variable, Element, Binary, Lvalue, Whole}
use Rattle.register_expressions.specs.rpp_tree.Tree.{Item}
use Rattle.register_expressions.specs.code_conventions.declared.registers.TheConstants.{AMOUNT, CONTENT, FIRST_WORD}
use Rattle.register_expressions.specs.code_conventions.declared.registers.TheConstants.{FRAME, ITEM, LEFT, OBJECT}
use Rattle.register_expressions.specs.code_conventions.declared.registers.TheConstants.{OTHER_PLACE, PLACE, RIGHT}
use Rattle.register_expressions.specs.code_conventions.declared.registers.TheConstants.{SECOND_WORD, TRUTH}
use Rattle.register_expressions.specs.paired_code.declared.part.Symbol.{Symbol}
use Rattle.register_expressions.specs.paired_code.Layout.{check_differ_cells}
use Rattle.register_expressions.specs.code_conventions.declared.faults.TheConstants.{SHARED_ARRAY}
use Rattle.register_expressions.specs.refine_form.declared.spot.Spot.{Spot}
use Rattle.register_expressions.specs.refine_form.declared.spot.Spot.TheVariants.{Field, Frame}
use Rattle.register_expressions.specs.code_scope.Visible.{offset_of}
use Rattle.register_expressions.specs.Number.{index_of}
use Rattle.register_expressions.specs.Held.{need, is_held, is_opened_once, is_near, is_near_index}
use Rattle.register_expressions.specs.Code.{add, sub, xor, exch, addi, xori, around, base_of}
use Rattle.register_expressions.specs.Code.{reach_cells, copy_cells, store_cells, words}
use Rattle.register_expressions.specs.Code.{truth_cells, operator_cells, operator_result, nil_check}
use Rattle.register_expressions.specs.Code.{index_check, point_cells, part, element_cells}
use Rattle.register_expressions.specs.Code.{held_cells, held_value_cells, held_test_cells}

-- fault 16 if the words of two storage slots are the same
abbrev pub compare_cells : (x y : Spot) → List Symbol
compare_cells x y =
    around (copy_cells x LEFT ++ reach_cells y) (check_differ_cells LEFT CONTENT SHARED_ARRAY)

-- the register that has the value of an opened expression
abbrev pub result_of : Expression → ℕ
result_of (Element name index) = ITEM
result_of (Binary at op left right) = operator_result op
result_of _ = CONTENT

-- the words of the frame that a place needs
abbrev pub place_words : Lvalue → ℕ
place_words (Whole name) = 0
place_words (Item name index) = words index

abbrev pub update_cell : UpdateOp → (d s : ℕ) → Symbol
update_cell update.Add d s = add d s
update_cell update.Sub d s = sub d s
update_cell update.Xor d s = xor d s

-- the same by a number
abbrev pub number_cell : UpdateOp → (d word : ℕ) → Symbol
number_cell update.Add d word = addi d word
number_cell update.Sub d word = addi d (difference_of 0 word)
number_cell update.Xor d word = xori d word

-- from an offset that has a base, it goes to a storage slot, or the other base does
abbrev pub from_object : (from : ℕ) → Spot → Symbol
from_object from (Field i) = addi OBJECT (difference_of (offset_of (Field i)) from)
from_object from (Frame i) = addi FRAME i

abbrev pub from_frame : (from : ℕ) → Spot → Symbol
from_frame from (Field i) = addi OBJECT (offset_of (Field i))
from_frame from (Frame i) = addi FRAME (difference_of i from)

-- the same from a storage slot that has its base
abbrev pub onward_cell : (x y : Spot) → Symbol
onward_cell (Field i) y = from_object (offset_of (Field i)) y
onward_cell (Frame i) y = from_frame i y

-- the word of one spot in `AMOUNT`, and that of another in `CONTENT`
abbrev pub both_reached : (x y : Spot) → List Symbol
both_reached x y = addi (base_of x) (offset_of x) ∷ exch AMOUNT (base_of x) ∷ onward_cell x y
    ∷ exch CONTENT (base_of y) ∷ []

-- the word of a place updated by the value, and the words of two places swapped
abbrev pub update_middle : UpdateOp → List Symbol
update_middle op = exch CONTENT PLACE ∷ update_cell op CONTENT AMOUNT ∷ exch CONTENT PLACE ∷ []

-- at two addresses in registers; if the two are one, its word stays
abbrev pub four_exchanges : (p q : ℕ) → List Symbol
four_exchanges p q =
    exch FIRST_WORD p ∷ exch SECOND_WORD q ∷ exch SECOND_WORD p ∷ exch FIRST_WORD q ∷ []

abbrev pub swap_middle : List Symbol
swap_middle = four_exchanges PLACE OTHER_PLACE

-- two storage slots that have two bases or are one: both bases are there
abbrev pub swap_at : (x y : Spot) → List Symbol
swap_at x y = around (addi (base_of x) (offset_of x) ∷ onward_cell x y ∷ [])
    (four_exchanges (base_of x) (base_of y))

-- of two storage slots of one base: while the first word is out, it goes to the second storage slot
-- and back
abbrev pub beyond_cells : (x y : Spot) → List Symbol
beyond_cells x y = around (onward_cell x y ∷ []) (exch SECOND_WORD (base_of y) ∷ exch FIRST_WORD (base_of y)
    ∷ [])

abbrev pub swap_by_one : (x y : Spot) → List Symbol
swap_by_one x y = around (addi (base_of x) (offset_of x) ∷ [])
    ((exch FIRST_WORD (base_of x) ∷ beyond_cells x y) ++ exch SECOND_WORD (base_of x) ∷ [])

abbrev pub have_one_base : (x y : Spot) → Bool
have_one_base x y = nat_eq (base_of x) (base_of y) && not (nat_eq (offset_of x) (offset_of y))

abbrev pub swap_spots : (x y : Spot) → List Symbol
swap_spots x y = if have_one_base x y then swap_by_one x y else swap_at x y

module _ (spot : List ℕ → Spot) where
  -- a changed element's array, by its spot, compared with those of which an expression reads
  -- elements
  abbrev pub compare_all : Spot → Expression → List Symbol
  compare_all changed (Number at word) = []
  compare_all changed (Null at) = []
  compare_all changed (Variable name) = []
  compare_all changed (Element name index) =
      compare_cells changed (spot name.text) ++ compare_all changed index
  compare_all changed (Binary at op left right) =
      compare_all changed left ++ compare_all changed right

  -- the check of a place that changes against two expressions that are read
  abbrev pub apart_cells : Lvalue → (e e' : Expression) → List Symbol
  apart_cells (Whole name) e e' = []
  apart_cells (Item name index) e e' = compare_all (spot name.text) e
      ++ compare_all (spot name.text) e'

  -- of both places of a swap
  abbrev pub both_apart_cells : (left right : Lvalue) → List Symbol
  both_apart_cells left right = apart_cells left (index_of left) (index_of right)
      ++ apart_cells right (index_of left) (index_of right)

-- the word of an element, whose address is in the second register, updated by that of the value
abbrev pub near_middle : UpdateOp → (k : ℕ) → List Symbol
near_middle op k = around (exch CONTENT (part 1) ∷ []) (update_cell op CONTENT (part k) ∷ [])

module _ (spot : List ℕ → Spot) where
  -- ---- a word updated by the value, whose parts are opened once

  abbrev pub held_update_cells : UpdateOp → Spot → Expression → List Symbol
  held_update_cells op s e = around (held_cells spot e 0)
      (around (reach_cells s) (update_cell op CONTENT (part 0) ∷ []))

  -- the word of an element, whose index and address are below the value
  abbrev pub near_update_cells : UpdateOp → List ℕ → (index value : Expression) → List Symbol
  near_update_cells op name index value =
      around (element_cells spot name (held_cells spot index 2) 0
      ++ held_cells spot value (2 + need index))
      (near_middle op (2 + need index))

module _ (spot : List ℕ → Spot) (free : ℕ) where
  -- the value of an operand xored into a register: a word of the frame has it, from i on, if it
  -- is no leaf
  abbrev pub operand_cells : Expression → (i into : ℕ) → List Symbol
  operand_cells (Number at word) i into = xori into word ∷ []
  operand_cells (Null at) i into = []
  operand_cells (Variable name) i into = copy_cells (spot name.text) into
  operand_cells (Element name index) i into = copy_cells (Frame (free + i)) into
  operand_cells (Binary at op left right) i into = copy_cells (Frame (free + i)) into

  -- an element's index and array, both checked
  abbrev pub checked_cells : List ℕ → Expression → (i : ℕ) → List Symbol
  checked_cells name index i =
      operand_cells index i LEFT
      ++ (copy_cells (spot name) RIGHT ++ (nil_check ++ index_check))

  -- the value of an expression in its register, if its parts are prepared
  abbrev pub open_cells : Expression → (i : ℕ) → List Symbol
  open_cells (Number at word) i = xori CONTENT word ∷ []
  open_cells (Null at) i = []
  open_cells (Variable name) i = reach_cells (spot name.text)
  open_cells (Element name index) i =
      checked_cells name.text index (i + 1) ++ (point_cells ++ exch ITEM RIGHT ∷ [])
  open_cells (Binary at op left right) i =
      operand_cells left (i + 1) LEFT
      ++ (operand_cells right (i + 1 + words left) RIGHT ++ operator_cells op)

  -- every element and operator computed once into its word of the frame, from word i on
  abbrev pub prepare_cells : Expression → (i : ℕ) → List Symbol
  prepare_cells (Number at word) i = []
  prepare_cells (Null at) i = []
  prepare_cells (Variable name) i = []
  prepare_cells (Element name index) i =
      prepare_cells index (i + 1) ++ around (open_cells (Element name index) i)
      (store_cells (Frame (free + i)) ITEM)
  prepare_cells (Binary at op left right) i =
      (prepare_cells left (i + 1) ++ prepare_cells right (i + 1 + words left))
      ++ around (open_cells (Binary at op left right) i)
      (store_cells (Frame (free + i)) (operator_result op))

  -- the parts of an expression prepared
  abbrev pub parts_cells : Expression → (i : ℕ) → List Symbol
  parts_cells (Element name index) i = prepare_cells index (i + 1)
  parts_cells (Binary at op left right) i =
      prepare_cells left (i + 1) ++ prepare_cells right (i + 1 + words left)
  parts_cells _ i = []

  -- the parts prepared, and the value xored into a register
  abbrev pub fetch_cells : Expression → (i into : ℕ) → List Symbol
  fetch_cells e i into = parts_cells e i ++ around (open_cells e i) (xor into (result_of e) ∷ [])

  -- ---- values, conditions, updates and swaps

  -- the value of an expression xored into a register
  abbrev pub prepared_value_cells : Expression → (into : ℕ) → List Symbol
  prepared_value_cells e into = around (parts_cells e 0)
      (around (open_cells e 0) (xor into (result_of e) ∷ []))

  -- whether it is true xored into a register
  abbrev pub prepared_test_cells : Expression → (into : ℕ) → List Symbol
  prepared_test_cells e into =
      around (parts_cells e 0) (around (open_cells e 0 ++ truth_cells TRUTH (result_of e))
      (xor into TRUTH ∷ []))

  -- the same with parts in registers, if there are enough
  abbrev pub value_cells : Expression → (into : ℕ) → List Symbol
  value_cells e into = if is_held e then held_value_cells spot e into
      else prepared_value_cells e into

  abbrev pub test_cells : Expression → (into : ℕ) → List Symbol
  test_cells e into = if is_held e then held_test_cells spot e into
      else prepared_test_cells e into

  -- the address of a place in a register
  abbrev pub place_cells : Lvalue → (i into : ℕ) → List Symbol
  place_cells (Whole name) i into =
      xor into (base_of (spot name.text)) ∷ addi into (offset_of (spot name.text)) ∷ []
  place_cells (Item name index) i into =
      prepare_cells index i ++ around (checked_cells name.text index i ++ point_cells)
      (xor into RIGHT ∷ [])

  -- what a statement finds, and the check that the place that changes is an element of no array
  -- that is read: a place
  abbrev pub found_place_cells : Lvalue → List Symbol
  found_place_cells target = place_cells target 0 PLACE ++ apart_cells spot target (index_of target)
      (Null 0)

  -- a place and a value
  abbrev pub found_value_cells : Lvalue → Expression → List Symbol
  found_value_cells target value =
      (place_cells target 0 PLACE ++ fetch_cells value (place_words target) AMOUNT)
      ++ apart_cells spot target (index_of target) value

  -- two places, of which the second changes
  abbrev pub found_places_cells : (source target : Lvalue) → List Symbol
  found_places_cells source target =
      (place_cells source 0 PLACE ++ place_cells target (place_words source) OTHER_PLACE)
      ++ apart_cells spot target (index_of source) (index_of target)

  -- an update of a place by a value
  abbrev pub found_update_cells : UpdateOp → Lvalue → Expression → List Symbol
  found_update_cells op target value =
      around (found_value_cells target value) (update_middle op)

  -- of a variable by a value with an operator
  abbrev pub operated_update_cells : UpdateOp → Ident → Expression → List Symbol
  operated_update_cells op name e = if is_opened_once e
      then held_update_cells spot op (spot name.text) e
      else found_update_cells op (Whole name) e

  -- of a variable: by a number or another variable it needs no address in a register
  abbrev pub whole_update_cells : UpdateOp → Ident → Expression → List Symbol
  whole_update_cells op name (Number at word) =
      around (reach_cells (spot name.text)) (number_cell op CONTENT word ∷ [])
  whole_update_cells op name (Variable other) =
      around (both_reached (spot other.text) (spot name.text)) (update_cell op CONTENT AMOUNT ∷ [])
  whole_update_cells op name (Binary at o left right) =
      operated_update_cells op name (Binary at o left right)
  whole_update_cells op name value = found_update_cells op (Whole name) value

  abbrev pub item_update_cells : UpdateOp → Ident → (index value : Expression) → List Symbol
  item_update_cells op name index value =
      if is_near index value then near_update_cells spot op name.text index value
      else found_update_cells op (Item name index) value

  abbrev pub update_cells : UpdateOp → Lvalue → Expression → List Symbol
  update_cells op (Whole name) value = whole_update_cells op name value
  update_cells op (Item name index) value = item_update_cells op name index value

  -- the words of two places swapped; if they are one, it stays as it is
  abbrev pub found_swap_cells : Lvalue → Lvalue → List Symbol
  found_swap_cells left right =
      around ((place_cells left 0 PLACE ++ place_cells right (place_words left) OTHER_PLACE)
      ++ both_apart_cells spot left right) swap_middle

  -- an element that is swapped, whose address stays in the register of its array
  abbrev pub near_place_cells : List ℕ → (index : Expression) → List Symbol
  near_place_cells name index = prepare_cells index 0 ++ (checked_cells name index 0 ++ point_cells)

  -- of a variable and an element that is found once, whose base and register of its array are p and
  -- q
  abbrev pub near_swap_cells : (p q : ℕ) → Spot → List ℕ → (index : Expression) → List Symbol
  near_swap_cells p q x name index =
      around (near_place_cells name index ++ addi (base_of x) (offset_of x) ∷ [])
      (four_exchanges p q)

  -- those of two variables need no addresses in registers
  abbrev pub whole_swap_cells : Ident → Lvalue → List Symbol
  whole_swap_cells name (Whole other) = swap_spots (spot name.text) (spot other.text)
  whole_swap_cells name (Item other index) = if is_near_index index
      then near_swap_cells (base_of (spot name.text)) RIGHT (spot name.text) other.text index
      else found_swap_cells (Whole name) (Item other index)

  abbrev pub item_swap_cells : Ident → Expression → Lvalue → List Symbol
  item_swap_cells name index (Whole other) = if is_near_index index
      then near_swap_cells RIGHT (base_of (spot other.text)) (spot other.text) name.text index
      else found_swap_cells (Item name index) (Whole other)
  item_swap_cells name index (Item other k) = found_swap_cells (Item name index) (Item other k)

  abbrev pub swap_cells : Lvalue → Lvalue → List Symbol
  swap_cells (Whole name) right = whole_swap_cells name right
  swap_cells (Item name index) right = item_swap_cells name index right
