-- How many steps operators and expressions in registers make.
use Rattle.std.specs.Prelude.{ℕ, ◌+◌, Bool, true, false, if◌then◌else◌}
use Rattle.code_scope.specs.rpp_tree.declared.tree.BinOp.{BinOp}
use Rattle.code_scope.specs.rpp_tree.declared.tree.BinOp.TheVariants as op
use Rattle.code_scope.specs.rpp_tree.Tree.{Expression, Number, Null, Variable, Element, Binary}
use Rattle.register_expressions.specs.declared.held.Kind.{Kind}
use Rattle.register_expressions.specs.declared.held.Kind.TheVariants.{Changes, Gives, Joins}
use Rattle.register_expressions.specs.declared.held.Kind.TheVariants.{Neither}
use Rattle.register_expressions.specs.Held.{kind, is_variable, is_literal, is_zero_literal, is_truth}

abbrev pub operator_steps : BinOp → ℕ
operator_steps op.Add = 1
operator_steps op.Sub = 1
operator_steps op.Xor = 1
operator_steps op.And = 1
operator_steps op.Or = 1
operator_steps op.AndAlso = 5
operator_steps op.OrElse = 5
operator_steps op.Less = 1
operator_steps op.Greater = 1
operator_steps op.AtMost = 2
operator_steps op.AtLeast = 2
operator_steps op.Equal = 3
operator_steps op.NotEqual = 2
operator_steps op.Mul = 0
operator_steps op.Div = 0
operator_steps op.Rem = 0

-- there, so many steps, and back
abbrev pub around_steps : ℕ → ℕ → ℕ
around_steps w mid = w + (mid + w)

-- ---- parts in registers

abbrev pub before_steps : (z l r : Bool) → (w v : ℕ) → ℕ
before_steps z l r w v = if z then (if l then 0 else w)
    else (if r then w else (if l then v else w + v))

abbrev pub core_steps : (z l r : Bool) → (mid : ℕ) → ℕ
core_steps z l r mid = if z then (if l then around_steps 2 mid else mid)
    else (if r then around_steps 2 mid else (if l then around_steps 2 mid else mid))

-- a truth that is no value has its own cells
abbrev pub told_steps : Bool → ℕ → ℕ
told_steps true w = w
told_steps false w = w + 2

-- an operator by the steps that open its operands
abbrev pub operated_steps : Kind → BinOp → (left right : Expression) → (w v : ℕ) → ℕ
operated_steps Changes o left right w v = before_steps (is_literal right) false (is_variable right)
    w v
    + (if is_literal right then 1 else core_steps false false (is_variable right)
    (operator_steps o))
operated_steps Gives o left right w v =
    before_steps (is_zero_literal right) (is_variable left) (is_variable right) w v
    + core_steps (is_zero_literal right) (is_variable left) (is_variable right) (operator_steps o)
operated_steps Joins o left right w v =
    (told_steps (is_truth left) w + told_steps (is_truth right) v) + 1
operated_steps Neither o left right w v = 0

-- an element's address by its index: its array, two checks
abbrev pub element_steps : ℕ → ℕ
element_steps w = ((w + 5) + (2 + 7)) + 2

abbrev pub held_steps : Expression → ℕ
held_steps (Number at word) = 1
held_steps (Null at) = 1
held_steps (Variable name) = 5
held_steps (Element name index) = element_steps (held_steps index) + 3
held_steps (Binary at o left right) =
    operated_steps (kind o) o left right (held_steps left) (held_steps right)

abbrev pub given_steps : Kind → BinOp → (left right : Expression) → (opened : ℕ) → ℕ
given_steps Gives o left right opened =
    around_steps (before_steps (is_zero_literal right) (is_variable left) (is_variable right)
    (held_steps left) (held_steps right))
    (core_steps (is_zero_literal right) (is_variable left) (is_variable right) (operator_steps o))
given_steps Joins o left right opened = around_steps (told_steps (is_truth left) (held_steps left)
    + told_steps (is_truth right) (held_steps right)) 1
given_steps _ o left right opened = around_steps opened 1

abbrev pub held_value_steps : Expression → ℕ
held_value_steps (Binary at o left right) = given_steps (kind o) o left right
    (held_steps (Binary at o left right))
held_value_steps (Number at word) = 1
held_value_steps (Variable name) = 5
held_value_steps e = around_steps (held_steps e) 1

abbrev pub held_truth_steps : Expression → ℕ
held_truth_steps e = if is_variable e then around_steps 2 2 else around_steps (held_steps e) 2

abbrev pub held_test_steps : Expression → ℕ
held_test_steps e = if is_truth e then held_value_steps e else held_truth_steps e

-- the least number of tokens that an expression has: no parentheses round operands
abbrev pub token_count : Expression → ℕ
token_count (Number at word) = 1
token_count (Null at) = 1
token_count (Variable name) = 1
token_count (Element name index) = 3 + token_count index
token_count (Binary at op left right) = 1 + (token_count left + token_count right)
