-- How many steps and cells code of expressions has at most.
use Rattle.std.proofs.Common.{◌≡◌, ℕ, ◌+◌, ◌*◌, ◌≤◌, Bool, true, false, List, [], ◌∷◌, ◌++◌, length, length-append}
use Rattle.std.proofs.Common.{refl, arith}
use Rattle.std.specs.Prelude.{if◌then◌else◌}
use Rattle.register_expressions.specs.rpp_tree.declared.tree.BinOp.{BinOp}
use Rattle.register_expressions.specs.rpp_tree.declared.tree.BinOp.TheVariants as op
use Rattle.register_expressions.specs.rpp_tree.declared.tree.UpdateOp.{UpdateOp}
use Rattle.register_expressions.specs.rpp_tree.Tree.{Expression, Number, Null, Variable, Element, Binary, Lvalue, Whole, Item, nodes}
use Rattle.register_expressions.specs.rpp_tree.Tree.{index_nodes}
use Rattle.register_expressions.specs.paired_code.declared.part.Symbol.{Symbol}
use Rattle.register_expressions.specs.paired_code.Layout.{check_differ_cells}
use Rattle.register_expressions.specs.refine_form.declared.spot.Spot.{Spot}
use Rattle.register_expressions.specs.code_scope.Visible.{offset_of}
use Rattle.register_expressions.specs.roopl_semantics.Elements.{elements, index_elements, own_element, read_cost}
use Rattle.register_expressions.specs.Number.{index_of}
use Rattle.register_expressions.specs.Code as cells
use Rattle.expr_uncompute.specs.Code
use Rattle.expr_uncompute.specs.Sizes.{swap_size}
use Rattle.expr_uncompute.specs.Steps.{operand_steps, open_steps, prepare_steps, parts_steps}
use Rattle.register_expressions.specs.Steps.{held_value_steps, held_test_steps}
use Rattle.expr_uncompute.specs.Steps.{prepared_value_steps, prepared_test_steps}
use Rattle.expr_uncompute.specs.Steps.{value_steps, test_steps, fetch_steps, place_steps, compare_steps, apart_steps}
use Rattle.expr_uncompute.specs.Steps.{both_apart_steps, found_update_steps, update_steps, found_swap_steps}
use Rattle.register_expressions.specs.Steps.{token_count}
use Rattle.expr_uncompute.specs.Steps.{swap_steps, place_tokens}
use Rattle.register_expressions.specs.Held.{need, has_element, is_held, is_opened_once, is_near, is_near_index}
use Rattle.register_expressions.specs.Steps.{around_steps, held_steps}
use Rattle.expr_uncompute.specs.Steps.{near_update_steps, near_swap_steps}
use Rattle.register_expressions.proofs.HeldBounds.{held_few, once_few, near_few, near_index_few, neither_left}
use Rattle.register_expressions.proofs.HeldBounds.{neither_right, some_nodes, operator_most, length_around}
use Rattle.register_expressions.proofs.HeldBounds.{element_length, held_value_most, held_test_most, held_most}
use Rattle.register_expressions.proofs.HeldBounds.{held_least, held_length, held_value_least, held_test_least}
use Rattle.register_expressions.proofs.HeldBounds.{held_value_length, held_test_length}
use Rattle.expr_uncompute.specs.Found.{found_place_steps, found_value_steps, found_places_steps}
use Rattle.register_expressions.specs.code_conventions.declared.faults.TheConstants.{SHARED_ARRAY}
use Rattle.register_expressions.specs.code_conventions.declared.registers.TheConstants.{AMOUNT, CONTENT, FIRST_WORD}
use Rattle.register_expressions.specs.code_conventions.declared.registers.TheConstants.{ITEM, LEFT, OTHER_PLACE}
use Rattle.register_expressions.specs.code_conventions.declared.registers.TheConstants.{PLACE, RIGHT, SECOND_WORD}
use Rattle.register_expressions.specs.code_conventions.declared.registers.TheConstants.{TRUTH}

-- ---- steps

operand_most : (e : Expression) → operand_steps e ≤ 5
operand_most (Number at word) = omega arith
operand_most (Null at) = omega arith
operand_most (Variable name) = omega arith
operand_most (Element name index) = omega arith
operand_most (Binary at o left right) = omega arith

open_most : (e : Expression) → open_steps e ≤ 22
open_most (Number at word) = omega arith
open_most (Null at) = omega arith
open_most (Variable name) = omega arith
open_most (Element name index) = let a = operand_most index in omega arith
open_most (Binary at o left right) = let a = operand_most left in let b = operand_most right in let c =
    operator_most o in omega arith

prepare_most : (e : Expression) → prepare_steps e ≤ 81 * nodes e
prepare_most (Number at word) = omega arith
prepare_most (Null at) = omega arith
prepare_most (Variable name) = omega arith
prepare_most (Element name index) = let a = open_most (Element name index) in let b = prepare_most index in omega arith
prepare_most (Binary at o left right) = let a = open_most (Binary at o left right) in let b = prepare_most left in
    let c = prepare_most right in omega arith

parts_most : (e : Expression) → parts_steps e + 81 ≤ 81 * nodes e
parts_most (Number at word) = omega arith
parts_most (Null at) = omega arith
parts_most (Variable name) = omega arith
parts_most (Element name index) = let b = prepare_most index in omega arith
parts_most (Binary at o left right) = let b = prepare_most left in let c = prepare_most right in omega arith

prepared_value_most : (e : Expression) → prepared_value_steps e ≤ 162 * nodes e
prepared_value_most e = let a = parts_most e in let b = open_most e in omega arith

pub value_most : (e : Expression) → value_steps e ≤ 162 * nodes e
value_most e = by (is_held e)
  where
    by : (t : Bool) → (if t then held_value_steps e else prepared_value_steps e) ≤ 162 * nodes e
    by true = held_value_most e
    by false = prepared_value_most e

prepared_test_most : (e : Expression) → prepared_test_steps e ≤ 162 * nodes e
prepared_test_most e = let a = parts_most e in let b = open_most e in omega arith

pub test_most : (e : Expression) → test_steps e ≤ 162 * nodes e
test_most e = by (is_held e)
  where
    by : (t : Bool) → (if t then held_test_steps e else prepared_test_steps e) ≤ 162 * nodes e
    by true = held_test_most e
    by false = prepared_test_most e

pub fetch_most : (e : Expression) → fetch_steps e ≤ 81 * nodes e
fetch_most e = let a = parts_most e in let b = open_most e in omega arith

pub place_most : (target : Lvalue) → place_steps target ≤ 152 * index_nodes target + 2
place_most (Whole name) = omega arith
place_most (Item name index) = let a = operand_most index in let b = prepare_most index in let c = some_nodes index in
    omega arith

pub place_less : (target : Lvalue) → place_steps target ≤ 81 * index_nodes target + 73
place_less (Whole name) = omega arith
place_less (Item name index) = let a = operand_most index in let b = prepare_most index in omega arith

compare_is : (e : Expression) → compare_steps e ≡ 16 * length (elements e)
compare_is (Number at word) = refl
compare_is (Null at) = refl
compare_is (Variable name) = refl
compare_is (Element name index) = let a = compare_is index in omega arith
compare_is (Binary at op left right) =
    let a = compare_is left in
    let b = compare_is right in
    omega (arith, length-append (elements left) (elements right))

-- if no element is read there is nothing to compare
compare_none : (e : Expression) → has_element e ≡ false → compare_steps e ≡ 0
compare_none (Number at word) h = refl
compare_none (Null at) h = refl
compare_none (Variable name) h = refl
compare_none (Element name index) h = absurd (cc)
compare_none (Binary at o left right) h =
    let a = compare_none left (neither_left (has_element left) (has_element right) h) in
    let b = compare_none right (neither_right (has_element left) (has_element right) h) in
    omega arith

index_compare_is : (target : Lvalue) → compare_steps (index_of target) ≡ 16 * length (index_elements target)
index_compare_is (Whole name) = refl
index_compare_is (Item name index) = compare_is index

-- what an update compares, by what the source counts
apart_is : (target : Lvalue) (e : Expression) → apart_steps target (index_of target) e
    ≡ 16 * read_cost (own_element target) (index_elements target ++ elements e)
apart_is (Whole name) e = refl
apart_is (Item name index) e =
    let a = compare_is index in
    let b = compare_is e in
    omega (arith, length-append (elements index) (elements e))

-- and what a swap compares: twice so much if both places are elements
both_apart_most : (left right : Lvalue) → both_apart_steps left right ≤ 32 * read_cost
    (own_element left ++ own_element right) (index_elements left ++ index_elements right)
both_apart_most (Whole name) (Whole other) = omega arith
both_apart_most (Whole name) (Item other index) =
    let a = compare_is index in omega arith
both_apart_most (Item name index) right =
    let a = compare_is index in
    let b = index_compare_is right in
    let c = side right in
    omega (arith, length-append (elements index) (index_elements right))
  where
    side : (right : Lvalue) → apart_steps right index (index_of right) ≤ compare_steps index + compare_steps
        (index_of right)
    side (Whole other) = omega arith
    side (Item other k) = omega arith

both_apart_least : (left right : Lvalue) → read_cost (own_element left ++ own_element right)
    (index_elements left ++ index_elements right) ≤ both_apart_steps left right
both_apart_least (Whole name) (Whole other) = omega arith
both_apart_least (Whole name) (Item other index) = let a = compare_is index in omega arith
both_apart_least (Item name index) right =
    let a = compare_is index in
    let b = index_compare_is right in
    omega (arith, length-append (elements index) (index_elements right))

-- a statement counts 1 in addition to its nodes, and 1 for each element that it reads if it changes
-- one
found_update_most : (target : Lvalue) (e : Expression) → found_update_steps target e ≤ 162 *
    (1 + index_nodes target + nodes e + read_cost (own_element target) (index_elements target ++ elements e))
found_update_most target e = let a = place_less target in let b = fetch_most e in let c = apart_is target e in
    omega arith

pub update_most : (target : Lvalue) (e : Expression) → update_steps target e ≤ 162 *
    (1 + index_nodes target + nodes e + read_cost (own_element target) (index_elements target ++ elements e))
update_most (Whole name) (Number at word) = omega arith
update_most (Whole name) (Variable other) = omega arith
update_most (Whole name) (Null at) = found_update_most (Whole name) (Null at)
update_most (Whole name) (Element array index) = found_update_most (Whole name) (Element array index)
update_most (Whole name) (Binary at o left right) = by (Binary at o left right)
    (is_opened_once (Binary at o left right))
  where
    by : (e : Expression) (t : Bool) → (if t then around_steps (held_steps e) 5 else found_update_steps (Whole name) e)
        ≤ 162 * (1 + index_nodes (Whole name) + nodes e
        + read_cost (own_element (Whole name)) (index_elements (Whole name) ++ elements e))
    by e true = let a = held_most e in let c = some_nodes e in omega arith
    by e false = found_update_most (Whole name) e
update_most (Item name index) e = by (is_near index e)
  where
    by : (t : Bool) → (if t then near_update_steps index e else found_update_steps (Item name index) e) ≤ 162 *
        (1 + nodes index + nodes e + read_cost (own_element (Item name index)) (elements index ++ elements e))
    by true = let a = held_most index in let c = held_most e in omega arith
    by false = found_update_most (Item name index) e

found_swap_most : (left right : Lvalue) → found_swap_steps left right ≤ 304 *
    (1 + index_nodes left + index_nodes right + read_cost (own_element left ++ own_element right)
    (index_elements left ++ index_elements right))
found_swap_most left right =
    let a = place_most left in let b = place_most right in let c = both_apart_most left right in omega arith

pub swap_most : (left right : Lvalue) → swap_steps left right ≤ 304 *
    (1 + index_nodes left + index_nodes right + read_cost (own_element left ++ own_element right)
    (index_elements left ++ index_elements right))
swap_most (Whole name) (Whole other) = omega arith
swap_most (Whole name) (Item other index) = by (is_near_index index)
  where
    by : (t : Bool) → (if t then near_swap_steps index else found_swap_steps (Whole name) (Item other index)) ≤ 304 *
        (1 + 0 + nodes index + read_cost (own_element (Item other index)) (elements index))
    by true = let a = operand_most index in let c = prepare_most index in omega arith
    by false = found_swap_most (Whole name) (Item other index)
swap_most (Item name index) (Whole other) = by (is_near_index index)
  where
    by : (t : Bool) → (if t then near_swap_steps index else found_swap_steps (Item name index) (Whole other)) ≤ 304 *
        (1 + nodes index + 0 + read_cost (own_element (Item name index)) (elements index ++ []))
    by true = let a = operand_most index in let c = prepare_most index in omega arith
    by false = found_swap_most (Item name index) (Whole other)
swap_most (Item name index) (Item other k) = found_swap_most (Item name index) (Item other k)

-- what is found around a middle, there and back
pub found_place_most : (target : Lvalue) → 2 * found_place_steps target ≤ 162 *
    (1 + index_nodes target + read_cost (own_element target) (index_elements target))
found_place_most (Whole name) = omega arith
found_place_most (Item name index) = let a = place_less (Item name index) in let b = compare_is index in omega arith

pub found_value_most : (target : Lvalue) (e : Expression)
    → 2 * found_value_steps target e ≤ 162 * (1 + index_nodes target + nodes e + read_cost (own_element target)
    (index_elements target ++ elements e))
found_value_most target e = let a = place_less target in let b = fetch_most e in let c = apart_is target e in
    omega arith

pub found_places_most : (source target : Lvalue) → 2 * found_places_steps source target ≤ 304 *
    (1 + index_nodes source + index_nodes target + read_cost (own_element target)
    (index_elements source ++ index_elements target))
found_places_most source (Whole name) = let a = place_less source in omega arith
found_places_most source (Item name index) =
    let a = place_less source in
    let b = place_less (Item name index) in
    let c = index_compare_is source in
    let d = compare_is index in
    omega (arith, length-append (index_elements source) (elements index))

-- so do faults of a shared array
pub update_sharing_most : (target : Lvalue) (e : Expression)
    → place_steps target + fetch_steps e + apart_steps target (index_of target) e ≤ 162 *
    (1 + index_nodes target + nodes e + read_cost (own_element target) (index_elements target ++ elements e))
update_sharing_most target e = let a = place_less target in let b = fetch_most e in let c = apart_is target e in
    omega arith

pub swap_sharing_most : (left right : Lvalue) → place_steps left + place_steps right + both_apart_steps left right ≤ 304
    * (1 + index_nodes left + index_nodes right + read_cost (own_element left ++ own_element right)
    (index_elements left ++ index_elements right))
swap_sharing_most left right = let a = place_most left in let b = place_most right in let c =
    both_apart_most left right in omega arith

-- an expression of few nodes needs few words of the frame
pub words_most : (e : Expression) → cells.words e + 1 ≤ nodes e
words_most (Number at word) = omega arith
words_most (Null at) = omega arith
words_most (Variable name) = omega arith
words_most (Element name index) = let a = words_most index in omega arith
words_most (Binary at o left right) = let a = words_most left in let b = words_most right in omega arith

pub place_words_most : (target : Lvalue) → Code.place_words target ≤ index_nodes target
place_words_most (Whole name) = omega arith
place_words_most (Item name index) = let a = words_most index in omega arith

-- ---- cells

module _ (spot : List ℕ → Spot) (free : ℕ) where
  copy_cells : (s : Spot) (into : ℕ) → length (cells.copy_cells s into) ≡ 5
  copy_cells s into = length_around (cells.reach_cells s) (cells.xor into CONTENT ∷ [])

  operand_cells : (e : Expression) (i into : ℕ) → length (Code.operand_cells spot free e i into) ≤ 5
  operand_cells (Number at word) i into = omega arith
  operand_cells (Null at) i into = omega arith
  operand_cells (Variable name) i into = let h = copy_cells (spot name.text) into in omega arith
  operand_cells (Element name index) i into = let h = copy_cells
      (Rattle.register_expressions.specs.refine_form.declared.spot.Spot.TheVariants.Frame (free + i)) into in
      omega arith
  operand_cells (Binary at o left right) i into = let h =
      copy_cells (Rattle.register_expressions.specs.refine_form.declared.spot.Spot.TheVariants.Frame (free + i)) into in
      omega arith

  operator_cells : (o : BinOp) → length (cells.operator_cells o) ≤ 5
  operator_cells op.Add = omega arith
  operator_cells op.Sub = omega arith
  operator_cells op.Xor = omega arith
  operator_cells op.And = omega arith
  operator_cells op.Or = omega arith
  operator_cells op.AndAlso = omega arith
  operator_cells op.OrElse = omega arith
  operator_cells op.Less = omega arith
  operator_cells op.Greater = omega arith
  operator_cells op.AtMost = omega arith
  operator_cells op.AtLeast = omega arith
  operator_cells op.Equal = omega arith
  operator_cells op.NotEqual = omega arith
  operator_cells _ = omega arith

  nil_cells : length cells.nil_check ≡ 3
  nil_cells = refl

  index_cells : length cells.index_check ≡ 8
  index_cells = refl

  checked_cells : (name : List ℕ) (index : Expression) (i : ℕ) → length (Code.checked_cells spot free name index i) ≤ 21
  checked_cells name index i =
      let a = operand_cells index i LEFT in
      let c = copy_cells (spot name) RIGHT in
      let p = Code.operand_cells spot free index i LEFT in
      let r = cells.copy_cells (spot name) RIGHT in
      omega (
        arith,
        length-append p (r ++ (cells.nil_check ++ cells.index_check)),
        length-append r (cells.nil_check ++ cells.index_check),
        length-append cells.nil_check cells.index_check,
        nil_cells,
        index_cells,
      )

  -- an element has at most 24 cells open, an operator 15, a leaf 2
  abbrev open_bound : Expression → ℕ
  open_bound (Element name index) = 24
  open_bound (Binary at o left right) = 15
  open_bound _ = 2

  open_cells : (e : Expression) (i : ℕ) → length (Code.open_cells spot free e i) ≤ open_bound e
  open_cells (Number at word) i = omega arith
  open_cells (Null at) i = omega arith
  open_cells (Variable name) i = omega arith
  open_cells (Element name index) i =
      let a = checked_cells name.text index (i + 1) in
      omega (
        arith,
        length-append (Code.checked_cells spot free name.text index (i + 1))
            (cells.point_cells ++ cells.exch ITEM RIGHT ∷ []),
      )
  open_cells (Binary at o left right) i =
      let a = operand_cells left (i + 1) LEFT in
      let c = operand_cells right (i + 1 + cells.words left) RIGHT in
      let d = operator_cells o in
      let p = Code.operand_cells spot free left (i + 1) LEFT in
      let r = Code.operand_cells spot free right (i + 1 + cells.words left) RIGHT in
      omega (arith, length-append p (r ++ cells.operator_cells o), length-append r (cells.operator_cells o))

  store_cells : (s : Spot) (r : ℕ) → length (cells.store_cells s r) ≡ 5
  store_cells s r = length_around (cells.reach_cells s) (cells.xor CONTENT r ∷ [])

  prepare_cells : (e : Expression) (i : ℕ) → length (Code.prepare_cells spot free e i) + 16 ≤ 29 * token_count e
  prepare_cells (Number at word) i = omega arith
  prepare_cells (Null at) i = omega arith
  prepare_cells (Variable name) i = omega arith
  prepare_cells (Element name index) i =
      let whole : Expression = Element name index in
      let s = cells.store_cells (Rattle.register_expressions.specs.refine_form.declared.spot.Spot.TheVariants.Frame
      (free + i)) ITEM
      in
      let a = prepare_cells index (i + 1) in
      let c = open_cells whole i in
      omega (
        arith,
        length-append (Code.prepare_cells spot free index (i + 1))
            (cells.around (Code.open_cells spot free whole i) s),
        length_around (Code.open_cells spot free whole i) s,
        store_cells (Rattle.register_expressions.specs.refine_form.declared.spot.Spot.TheVariants.Frame (free + i))
            ITEM,
      )
  prepare_cells (Binary at o left right) i =
      let whole : Expression = Binary at o left right in
      let s = cells.store_cells (Rattle.register_expressions.specs.refine_form.declared.spot.Spot.TheVariants.Frame
      (free + i))
      (cells.operator_result o) in
      let p = Code.prepare_cells spot free left (i + 1) in
      let r = Code.prepare_cells spot free right (i + 1 + cells.words left) in
      let a = prepare_cells left (i + 1) in
      let d = prepare_cells right (i + 1 + cells.words left) in
      let c = open_cells whole i in
      omega (
        arith,
        length-append (p ++ r) (cells.around (Code.open_cells spot free whole i) s),
        length-append p r,
        length_around (Code.open_cells spot free whole i) s,
        store_cells (Rattle.register_expressions.specs.refine_form.declared.spot.Spot.TheVariants.Frame (free + i))
            (cells.operator_result o),
      )

  -- the subexpressions and the opened node, with space for nine cells
  both_cells : (e : Expression) (i : ℕ) → length (Code.parts_cells spot free e i) + length
      (Code.open_cells spot free e i) + 9 ≤ 29 * token_count e
  both_cells (Number at word) i = omega arith
  both_cells (Null at) i = omega arith
  both_cells (Variable name) i = omega arith
  both_cells (Element name index) i = let a = prepare_cells index (i + 1) in let c =
      open_cells (Element name index) i in omega arith
  both_cells (Binary at o left right) i =
      let a = prepare_cells left (i + 1) in
      let d = prepare_cells right (i + 1 + cells.words left) in
      let c = open_cells (Binary at o left right) i in
      omega (
        arith,
        length-append (Code.prepare_cells spot free left (i + 1))
            (Code.prepare_cells spot free right (i + 1 + cells.words left)),
      )

  prepared_value_cells : (e : Expression) (into : ℕ) → length (Code.prepared_value_cells spot free e into) ≤ 58 *
      token_count
      e
  prepared_value_cells e into =
      let mid = cells.around (Code.open_cells spot free e 0) (cells.xor into (Code.result_of e) ∷ []) in
      omega (
        arith,
        both_cells e 0,
        length_around (Code.parts_cells spot free e 0) mid,
        length_around (Code.open_cells spot free e 0) (cells.xor into (Code.result_of e) ∷ []),
      )

  pub value_cells : (e : Expression) (into : ℕ) → length (Code.value_cells spot free e into) ≤ 58 * token_count e
  value_cells e into = by (is_held e)
    where
      by : (t : Bool) → length (if t then cells.held_value_cells spot e into
          else Code.prepared_value_cells spot free e into) ≤ 58 * token_count e
      by true = held_value_length spot e into
      by false = prepared_value_cells e into

  prepared_test_cells : (e : Expression) (into : ℕ) → length (Code.prepared_test_cells spot free e into) ≤ 58 *
      token_count e
  prepared_test_cells e into =
      let w = Code.open_cells spot free e 0 ++ cells.truth_cells TRUTH (Code.result_of e) in
      let mid = cells.around w (cells.xor into TRUTH ∷ []) in
      omega (
        arith,
        both_cells e 0,
        length_around (Code.parts_cells spot free e 0) mid,
        length_around w (cells.xor into TRUTH ∷ []),
        length-append (Code.open_cells spot free e 0)
            (cells.truth_cells TRUTH (Code.result_of e)),
      )

  pub test_cells : (e : Expression) (into : ℕ) → length (Code.test_cells spot free e into) ≤ 58 * token_count e
  test_cells e into = by (is_held e)
    where
      by : (t : Bool) → length (if t then cells.held_test_cells spot e into
          else Code.prepared_test_cells spot free e into) ≤ 58 * token_count e
      by true = held_test_length spot e into
      by false = prepared_test_cells e into

  -- and where it is opened twice
  twice_open : (e : Expression) (i : ℕ) → length (Code.parts_cells spot free e i) +
      (length (Code.open_cells spot free e i) + (1 + length (Code.open_cells spot free e i))) ≤ 29 * token_count e
  twice_open (Number at word) i = omega arith
  twice_open (Null at) i = omega arith
  twice_open (Variable name) i = omega arith
  twice_open (Element name index) i = let a = prepare_cells index (i + 1) in let c =
      open_cells (Element name index) i in omega arith
  twice_open (Binary at o left right) i =
      let a = prepare_cells left (i + 1) in
      let d = prepare_cells right (i + 1 + cells.words left) in
      let c = open_cells (Binary at o left right) i in
      omega (
        arith,
        length-append (Code.prepare_cells spot free left (i + 1))
            (Code.prepare_cells spot free right (i + 1 + cells.words left)),
      )

  fetch_cells : (e : Expression) (i into : ℕ) → length (Code.fetch_cells spot free e i into) ≤ 29 * token_count e
  fetch_cells e i into =
      let mid = cells.around (Code.open_cells spot free e i) (cells.xor into (Code.result_of e) ∷ []) in
      omega (
        arith,
        twice_open e i,
        length-append (Code.parts_cells spot free e i) mid,
        length_around (Code.open_cells spot free e i) (cells.xor into (Code.result_of e) ∷ []),
      )

  place_cells : (target : Lvalue) (i into : ℕ) → length (Code.place_cells spot free target i into) ≤ 29 * place_tokens
      target
  place_cells (Whole name) i into = omega arith
  place_cells (Item name index) i into =
      let w = Code.checked_cells spot free name.text index i ++ cells.point_cells in
      let mid = cells.xor into RIGHT ∷ [] in
      let a = checked_cells name.text index i in
      let c = prepare_cells index i in
      omega (
        arith,
        length-append (Code.prepare_cells spot free index i) (cells.around w mid),
        length_around w mid,
        length-append (Code.checked_cells spot free name.text index i) cells.point_cells,
      )

  -- two arrays compared, 17 cells: an element has three tokens and those of its index
  compare_length : (x y : Spot) → length (Code.compare_cells x y) ≡ 17
  compare_length x y =
      let w = cells.copy_cells x LEFT in
      omega (
        arith,
        length_around (w ++ cells.reach_cells y) (check_differ_cells LEFT CONTENT SHARED_ARRAY),
        length-append w (cells.reach_cells y),
        copy_cells x LEFT,
      )

  compare_all : (x : Spot) (e : Expression) → length (Code.compare_all spot x e) ≤ 11 * token_count e
  compare_all x (Number at word) = omega arith
  compare_all x (Null at) = omega arith
  compare_all x (Variable name) = omega arith
  compare_all x (Element name index) =
      let a = compare_all x index in
      omega (
        arith,
        compare_length x (spot name.text),
        length-append (Code.compare_cells x (spot name.text))
            (Code.compare_all spot x index),
      )
  compare_all x (Binary at o left right) =
      let a = compare_all x left in
      let c = compare_all x right in
      omega (arith, length-append (Code.compare_all spot x left) (Code.compare_all spot x right))

  index_tokens : (target : Lvalue) → token_count (index_of target) ≤ place_tokens target
  index_tokens (Whole name) = omega arith
  index_tokens (Item name index) = omega arith

  apart_cells : (target : Lvalue) (e e' : Expression) → length (Code.apart_cells spot target e e') ≤ 11 *
      (token_count e + token_count e')
  apart_cells (Whole name) e e' = omega arith
  apart_cells (Item name index) e e' =
      let a = compare_all (spot name.text) e in
      let c = compare_all (spot name.text) e' in
      omega (
        arith,
        length-append (Code.compare_all spot (spot name.text) e)
            (Code.compare_all spot (spot name.text) e'),
      )

  -- and with a middle
  pub place_around : (target : Lvalue) (mid : List Symbol)
      → length (cells.around (Code.found_place_cells spot free target) mid) ≤ length mid + 80 *
      (1 + place_tokens target)
  place_around target mid =
      let p = Code.place_cells spot free target 0 PLACE in
      let k = Code.apart_cells spot target (index_of target) (Null 0) in
      let a = place_cells target 0 PLACE in
      let d = apart_cells target (index_of target) (Null 0) in
      let t = index_tokens target in
      omega (arith, length_around (p ++ k) mid, length-append p k)

  pub value_around : (target : Lvalue) (e : Expression) (mid : List Symbol)
      → length (cells.around (Code.found_value_cells spot free target e) mid) ≤ length mid + 80 *
      (place_tokens target + token_count e)
  value_around target e mid =
      let p = Code.place_cells spot free target 0 PLACE in
      let v = Code.fetch_cells spot free e (Code.place_words target) AMOUNT in
      let a = place_cells target 0 PLACE in
      let c = fetch_cells e (Code.place_words target) AMOUNT in
      let k = Code.apart_cells spot target (index_of target) e in
      let d = apart_cells target (index_of target) e in
      let t = index_tokens target in
      omega (arith, length_around ((p ++ v) ++ k) mid, length-append (p ++ v) k, length-append p v)

  pub places_around : (source target : Lvalue) (mid : List Symbol)
      → length (cells.around (Code.found_places_cells spot free source target) mid) ≤ length mid + 80 *
      (place_tokens source + place_tokens target)
  places_around source target mid =
      let p = Code.place_cells spot free source 0 PLACE in
      let v = Code.place_cells spot free target (Code.place_words source) OTHER_PLACE in
      let a = place_cells source 0 PLACE in
      let c = place_cells target (Code.place_words source) OTHER_PLACE in
      let k = Code.apart_cells spot target (index_of source) (index_of target) in
      let d = apart_cells target (index_of source) (index_of target) in
      let t = index_tokens source in
      let u = index_tokens target in
      omega (arith, length_around ((p ++ v) ++ k) mid, length-append (p ++ v) k, length-append p v)

  found_update_cells : (o : UpdateOp) (target : Lvalue) (e : Expression)
      → length (Code.found_update_cells spot free o target e) ≤ 80 * (place_tokens target + 1 + token_count e)
  found_update_cells o target e =
      let p = Code.place_cells spot free target 0 PLACE in
      let v = Code.fetch_cells spot free e (Code.place_words target) AMOUNT in
      let mid = cells.exch CONTENT PLACE ∷ Code.update_cell o CONTENT AMOUNT
      ∷ cells.exch CONTENT PLACE ∷ [] in
      let a = place_cells target 0 PLACE in
      let c = fetch_cells e (Code.place_words target) AMOUNT in
      let k = Code.apart_cells spot target (index_of target) e in
      let d = apart_cells target (index_of target) e in
      let t = index_tokens target in
      omega (arith, length_around ((p ++ v) ++ k) mid, length-append (p ++ v) k, length-append p v)

  pub update_cells : (o : UpdateOp) (target : Lvalue) (e : Expression)
      → length (Code.update_cells spot free o target e) ≤ 80 * (place_tokens target + 1 + token_count e)
  update_cells o (Whole name) (Number at word) = omega (
    arith,
    length_around (cells.reach_cells (spot name.text)) (Code.number_cell o CONTENT word ∷ []),
  )
  update_cells o (Whole name) (Variable other) = omega (
    arith,
    length_around (Code.both_reached (spot other.text) (spot name.text))
        (Code.update_cell o CONTENT AMOUNT ∷ []),
  )
  update_cells o (Whole name) (Null at) = found_update_cells o (Whole name) (Null at)
  update_cells o (Whole name) (Element array index) = found_update_cells o (Whole name) (Element array index)
  update_cells o (Whole name) (Binary at p left right) =
      by (Binary at p left right) (is_opened_once (Binary at p left right))
    where
      by : (e : Expression) (t : Bool) → length (if t then Code.held_update_cells spot o (spot name.text) e
          else Code.found_update_cells spot free o (Whole name) e) ≤ 80 *
          (place_tokens (Whole name) + 1 + token_count e)
      by e true =
          let alter = Code.update_cell o CONTENT (cells.part 0) ∷ [] in
          let a = held_length spot e 0 in
          omega (
            arith,
            length_around (cells.held_cells spot e 0) (cells.around (cells.reach_cells (spot name.text)) alter),
            length_around (cells.reach_cells (spot name.text)) alter,
          )
      by e false = found_update_cells o (Whole name) e
  update_cells o (Item name index) e = by (is_near index e)
    where
      by : (t : Bool) → length (if t then Code.near_update_cells spot o name.text index e
          else Code.found_update_cells spot free o (Item name index) e) ≤ 80 *
          (3 + token_count index + 1 + token_count e)
      by true =
          let a = held_length spot index 2 in
          let d = held_length spot e (2 + need index) in
          let w = cells.held_cells spot index 2 in
          let p = cells.element_cells spot name.text w 0 in
          let k = cells.held_cells spot e (2 + need index) in
          omega (
            arith,
            length_around (p ++ k) (Code.near_middle o (2 + need index)),
            length-append p k,
            element_length spot name.text w 0,
            length_around (cells.exch CONTENT (cells.part 1) ∷ [])
                (Code.update_cell o CONTENT (cells.part (2 + need index)) ∷ []),
          )
      by false = found_update_cells o (Item name index) e

  found_swap_cells : (left right : Lvalue) → length (Code.found_swap_cells spot free left right) ≤ swap_size left right
  found_swap_cells (Whole name) right =
      let p = Code.place_cells spot free (Whole name) 0 PLACE in
      let v = Code.place_cells spot free right (Code.place_words (Whole name)) OTHER_PLACE in
      let mid = cells.exch FIRST_WORD PLACE ∷ cells.exch SECOND_WORD OTHER_PLACE
      ∷ cells.exch SECOND_WORD PLACE ∷ cells.exch FIRST_WORD OTHER_PLACE ∷ [] in
      let c = place_cells right (Code.place_words (Whole name)) OTHER_PLACE in
      let l = Code.apart_cells spot right (index_of (Whole name)) (index_of right) in
      let e = apart_cells right (index_of (Whole name)) (index_of right) in
      let u = index_tokens right in
      omega (arith, length_around ((p ++ v) ++ ([] ++ l)) mid, length-append (p ++ v) ([] ++ l), length-append p v)
  found_swap_cells (Item name index) right =
      let left : Lvalue = Item name index in
      let p = Code.place_cells spot free left 0 PLACE in
      let v = Code.place_cells spot free right (Code.place_words left) OTHER_PLACE in
      let mid = cells.exch FIRST_WORD PLACE ∷ cells.exch SECOND_WORD OTHER_PLACE
      ∷ cells.exch SECOND_WORD PLACE ∷ cells.exch FIRST_WORD OTHER_PLACE ∷ [] in
      let a = place_cells left 0 PLACE in
      let c = place_cells right (Code.place_words left) OTHER_PLACE in
      let k = Code.apart_cells spot left (index_of left) (index_of right) in
      let l = Code.apart_cells spot right (index_of left) (index_of right) in
      let d = apart_cells left (index_of left) (index_of right) in
      let e = apart_cells right (index_of left) (index_of right) in
      let t = index_tokens left in
      let u = index_tokens right in
      omega (
        arith,
        length_around ((p ++ v) ++ (k ++ l)) mid,
        length-append (p ++ v) (k ++ l),
        length-append p v,
        length-append k l,
      )

  beyond_length : (x y : Spot) → length (Code.beyond_cells x y) ≡ 4
  beyond_length x y = length_around (Code.onward_cell x y ∷ []) (cells.exch SECOND_WORD (cells.base_of y)
      ∷ cells.exch FIRST_WORD (cells.base_of y) ∷ [])

  by_one_length : (x y : Spot) → length (Code.swap_by_one x y) ≡ 8
  by_one_length x y =
      let w = cells.exch FIRST_WORD (cells.base_of x) ∷ Code.beyond_cells x y in
      let last = cells.exch SECOND_WORD (cells.base_of x) ∷ [] in
      omega (
        arith,
        length_around (cells.addi (cells.base_of x) (offset_of x) ∷ []) (w ++ last),
        length-append w last,
        beyond_length x y,
      )

  at_length : (x y : Spot) → length (Code.swap_at x y) ≡ 8
  at_length x y = length_around (cells.addi (cells.base_of x) (offset_of x) ∷ Code.onward_cell x y ∷ [])
      (Code.four_exchanges (cells.base_of x) (cells.base_of y))

  spots_length : (t : Bool) (x y : Spot) → length (if t then Code.swap_by_one x y else Code.swap_at x y) ≡ 8
  spots_length true x y = by_one_length x y
  spots_length false x y = at_length x y

  near_swap : (p q : ℕ) (x : Spot) (name : List ℕ) (index : Expression)
      → length (Code.near_swap_cells spot free p q x name index) ≤ 80 * (4 + token_count index)
  near_swap p q x name index =
      let a = prepare_cells index 0 in
      let c = checked_cells name index 0 in
      let w = Code.prepare_cells spot free index 0 in
      let r = Code.checked_cells spot free name index 0 in
      let last = cells.addi (cells.base_of x) (offset_of x) ∷ [] in
      omega (
        arith,
        length_around (Code.near_place_cells spot free name index ++ last) (Code.four_exchanges p q),
        length-append (Code.near_place_cells spot free name index) last,
        length-append w (r ++ cells.point_cells),
        length-append r cells.point_cells,
      )

  pub swap_cells : (left right : Lvalue) → length (Code.swap_cells spot free left right) ≤ swap_size left right
  swap_cells (Whole name) (Whole other) =
      let x = spot name.text in
      let y = spot other.text in
      omega (arith, spots_length (Code.have_one_base x y) x y)
  swap_cells (Whole name) (Item other index) = by (is_near_index index)
    where
      by : (t : Bool) → length (if t then Code.near_swap_cells spot free (cells.base_of (spot name.text))
          RIGHT (spot name.text) other.text index
          else Code.found_swap_cells spot free (Whole name) (Item other index))
          ≤ swap_size (Whole name) (Item other index)
      by true =
          let a = near_swap (cells.base_of (spot name.text)) RIGHT (spot name.text) other.text index in
          omega arith
      by false = found_swap_cells (Whole name) (Item other index)
  swap_cells (Item name index) (Whole other) = by (is_near_index index)
    where
      by : (t : Bool) → length (if t then Code.near_swap_cells spot free RIGHT
          (cells.base_of (spot other.text)) (spot other.text) name.text index
          else Code.found_swap_cells spot free (Item name index) (Whole other))
          ≤ swap_size (Item name index) (Whole other)
      by true =
          let a = near_swap RIGHT (cells.base_of (spot other.text)) (spot other.text) name.text index in
          omega arith
      by false = found_swap_cells (Item name index) (Whole other)
  swap_cells (Item name index) (Item other k) = found_swap_cells (Item name index) (Item other k)

-- ---- and at least how many: a step is worth at most three cost units

prepare_least : (e : Expression) → nodes e ≤ prepare_steps e + 1
prepare_least (Number at word) = omega arith
prepare_least (Null at) = omega arith
prepare_least (Variable name) = omega arith
prepare_least (Element name index) = let a = prepare_least index in omega arith
prepare_least (Binary at o left right) = let a = prepare_least left in let b = prepare_least right in omega arith

parts_least : (e : Expression) → nodes e ≤ parts_steps e + 3
parts_least (Number at word) = omega arith
parts_least (Null at) = omega arith
parts_least (Variable name) = omega arith
parts_least (Element name index) = let a = prepare_least index in omega arith
parts_least (Binary at o left right) = let a = prepare_least left in let b = prepare_least right in omega arith

prepared_value_least : (e : Expression) → nodes e ≤ 3 * prepared_value_steps e
prepared_value_least e = let a = parts_least e in omega arith

pub value_least : (e : Expression) → nodes e ≤ 3 * value_steps e
value_least e = by (is_held e) refl
  where
    by : (t : Bool) → is_held e ≡ t → nodes e ≤ 3 * (if t then held_value_steps e else prepared_value_steps e)
    by true q = let few = held_few e q in let a = held_value_least e few in omega arith
    by false q = prepared_value_least e

prepared_test_least : (e : Expression) → nodes e ≤ prepared_test_steps e
prepared_test_least e = let a = parts_least e in omega arith

pub test_least : (e : Expression) → nodes e ≤ test_steps e
test_least e = by (is_held e) refl
  where
    by : (t : Bool) → is_held e ≡ t → nodes e ≤ (if t then held_test_steps e else prepared_test_steps e)
    by true q = let few = held_few e q in let a = held_test_least e few in omega arith
    by false q = prepared_test_least e

pub place_least : (target : Lvalue) → index_nodes target ≤ place_steps target
place_least (Whole name) = omega arith
place_least (Item name index) = let a = prepare_least index in omega arith

found_update_least : (target : Lvalue) (e : Expression) → 1 + index_nodes target + nodes e + read_cost
    (own_element target) (index_elements target ++ elements e) ≤ found_update_steps target e
found_update_least target e = let a = place_least target in let b = parts_least e in let c = apart_is target e in
    omega arith

pub update_least : (target : Lvalue) (e : Expression) → 1 + index_nodes target + nodes e + read_cost
    (own_element target) (index_elements target ++ elements e) ≤ update_steps target e
update_least (Whole name) (Number at word) = omega arith
update_least (Whole name) (Variable other) = omega arith
update_least (Whole name) (Null at) = found_update_least (Whole name) (Null at)
update_least (Whole name) (Element array index) = found_update_least (Whole name) (Element array index)
update_least (Whole name) (Binary at o left right) =
    by (Binary at o left right) (is_opened_once (Binary at o left right)) refl
  where
    by : (e : Expression) (t : Bool) → is_opened_once e ≡ t → 1 + index_nodes (Whole name) + nodes e
        + read_cost (own_element (Whole name)) (index_elements (Whole name) ++ elements e)
        ≤ (if t then around_steps (held_steps e) 5 else found_update_steps (Whole name) e)
    by e true q =
        let few = once_few e q in
        let less = few.0 in
        let a = held_least e few.0 in
        let c = apart_is (Whole name) e in
        let d = compare_none e few.1 in
        omega arith
    by e false q = found_update_least (Whole name) e
update_least (Item name index) e = by (is_near index e) refl
  where
    by : (t : Bool) → is_near index e ≡ t → 1 + nodes index + nodes e + read_cost (own_element (Item name index))
        (elements index ++ elements e) ≤ (if t then near_update_steps index e
        else found_update_steps (Item name index) e)
    by true q =
        let few = near_few index e q in
        let less = few.0 in
        let a = held_least index (omega arith) in
        let c = held_least e (omega arith) in
        let d = compare_none index few.2 in
        let g = compare_none e few.1 in
        let k = apart_is (Item name index) e in
        omega arith
    by false q = found_update_least (Item name index) e

-- what is found around a middle
pub found_place_least : (target : Lvalue) → index_nodes target + read_cost (own_element target) (index_elements target)
    ≤ found_place_steps target
found_place_least (Whole name) = omega arith
found_place_least (Item name index) = let a = place_least (Item name index) in let b = compare_is index in omega arith

pub found_value_least : (target : Lvalue) (e : Expression)
    → index_nodes target + nodes e + read_cost (own_element target) (index_elements target ++ elements e) ≤
    found_value_steps target e + 3
found_value_least target e = let a = place_least target in let b = parts_least e in let c = apart_is target e in
    omega arith

pub found_places_least : (source target : Lvalue) → index_nodes source + index_nodes target + read_cost
    (own_element target) (index_elements source ++ index_elements target) ≤ found_places_steps source target
found_places_least source (Whole name) = let a = place_least source in omega arith
found_places_least source (Item name index) =
    let a = place_least source in
    let b = place_least (Item name index) in
    let c = index_compare_is source in
    let d = compare_is index in
    omega (arith, length-append (index_elements source) (elements index))

found_swap_least : (left right : Lvalue) → 1 + index_nodes left + index_nodes right + read_cost
    (own_element left ++ own_element right) (index_elements left ++ index_elements right) ≤ found_swap_steps left right
found_swap_least left right = let a = place_least left in let b = place_least right in let c =
    both_apart_least left right in
    omega arith

pub swap_least : (left right : Lvalue) → 1 + index_nodes left + index_nodes right + read_cost
    (own_element left ++ own_element right) (index_elements left ++ index_elements right) ≤ swap_steps left right
swap_least (Whole name) (Whole other) = omega arith
swap_least (Whole name) (Item other index) = by (is_near_index index) refl
  where
    by : (t : Bool) → is_near_index index ≡ t
        → 1 + 0 + nodes index + read_cost (own_element (Item other index)) (elements index)
        ≤ (if t then near_swap_steps index else found_swap_steps (Whole name) (Item other index))
    by true q =
        let few = near_index_few index q in
        let a = prepare_least index in
        let c = compare_none index few in
        let d = compare_is index in
        omega arith
    by false q = found_swap_least (Whole name) (Item other index)
swap_least (Item name index) (Whole other) = by (is_near_index index) refl
  where
    by : (t : Bool) → is_near_index index ≡ t
        → 1 + nodes index + 0 + read_cost (own_element (Item name index)) (elements index ++ [])
        ≤ (if t then near_swap_steps index else found_swap_steps (Item name index) (Whole other))
    by true q =
        let few = near_index_few index q in
        let a = prepare_least index in
        let c = compare_none index few in
        let d = compare_is index in
        omega (arith, length-append (elements index) [])
    by false q = found_swap_least (Item name index) (Whole other)
swap_least (Item name index) (Item other k) = found_swap_least (Item name index) (Item other k)
