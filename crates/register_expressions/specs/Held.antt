-- Expressions with few operators, whose subexpressions are in registers.
use Rattle.std.specs.Prelude.{ℕ, ◌+◌, nat_eq, nat_lt, Bool, true, false, ◌&&◌, ◌||◌, not, List}
use Rattle.code_scope.specs.rpp_tree.declared.tree.BinOp.{BinOp}
use Rattle.code_scope.specs.rpp_tree.declared.tree.BinOp.TheVariants as op
use Rattle.code_scope.specs.rpp_tree.Tree.{Expression, Number, Null, Variable, Element, Binary}
use Rattle.code_scope.specs.refine_form.declared.spot.Spot.{Spot}
use Rattle.code_scope.specs.refine_form.declared.spot.Spot.TheVariants.{Frame}
use Rattle.register_expressions.specs.declared.held.Kind.{Kind}
use Rattle.register_expressions.specs.declared.held.Kind.TheVariants.{Changes, Gives, Joins}
use Rattle.register_expressions.specs.declared.held.Kind.TheVariants.{Neither}

abbrev pub kind : BinOp → Kind
kind op.Add = Changes
kind op.Sub = Changes
kind op.Xor = Changes
kind op.And = Gives
kind op.Or = Gives
kind op.AndAlso = Joins
kind op.OrElse = Joins
kind op.Less = Gives
kind op.Greater = Gives
kind op.AtMost = Gives
kind op.AtLeast = Gives
kind op.Equal = Gives
kind op.NotEqual = Gives
kind op.Mul = Neither
kind op.Div = Neither
kind op.Rem = Neither

-- what these operators give is its own truth
abbrev pub gives_truth : BinOp → Bool
gives_truth op.AndAlso = true
gives_truth op.OrElse = true
gives_truth op.Less = true
gives_truth op.Greater = true
gives_truth op.AtMost = true
gives_truth op.AtLeast = true
gives_truth op.Equal = true
gives_truth op.NotEqual = true
gives_truth _ = false

abbrev pub is_truth : Expression → Bool
is_truth (Binary at o left right) = gives_truth o
is_truth _ = false

-- a value that is no truth value has a register in addition to that of its truth value, and is
-- opened past it
abbrev pub beside : Bool → ℕ
beside true = 0
beside false = 1

abbrev pub past : Bool → ℕ → ℕ
past true k = k
past false k = k + 1

-- how many registers an operator needs in addition to those of its operands, by whether these are
-- truth values: more than there are if its expression is none of these
abbrev pub own : Kind → (p q : Bool) → ℕ
own Changes p q = 0
own Gives p q = 1
own Joins p q = 1 + (beside p + beside q)
own Neither p q = 10

abbrev pub need : Expression → ℕ
need (Number at word) = 1
need (Null at) = 1
need (Variable name) = 1
need (Element name index) = 2 + need index
need (Binary at o left right) =
    own (kind o) (is_truth left) (is_truth right) + (need left + need right)

-- the registers of a truth
abbrev pub told_need : Expression → ℕ
told_need e = beside (is_truth e) + need e

-- the first registers of its operands
abbrev pub left_at : Kind → (p : Bool) → (k : ℕ) → ℕ
left_at Changes p k = k
left_at Gives p k = k + 1
left_at Joins p k = past p (k + 1)
left_at Neither p k = k

abbrev pub right_at : Kind → (p q : Bool) → (n k : ℕ) → ℕ
right_at Changes p q n k = k + n
right_at Gives p q n k = k + 1 + n
right_at Joins p q n k = past q (k + 1 + (beside p + n))
right_at Neither p q n k = k + n

-- an index with parts would have words of the frame
abbrev pub has_parts : Expression → Bool
has_parts (Element name index) = true
has_parts (Binary at o left right) = true
has_parts _ = false

-- nil needs none, and an element with a leaf as index needs no word of the frame
abbrev pub is_held : Expression → Bool
is_held (Number at word) = true
is_held (Variable name) = true
is_held (Element name index) = nat_lt (need (Element name index)) 10 && has_parts index
is_held (Binary at o left right) = nat_lt (need (Binary at o left right)) 10
is_held _ = false

-- an update may change the array of an element that its value reads, so that such a value is found
-- and closed before
abbrev pub has_element : Expression → Bool
has_element (Element name index) = true
has_element (Binary at o left right) = has_element left || has_element right
has_element _ = false

-- a value that an update opens once
abbrev pub is_opened_once : Expression → Bool
is_opened_once e = is_held e && not (has_element e)

-- if an element changes, its address stays in a register, its index is above that, and the value
-- above both; neither index nor value reads an element
abbrev pub is_near : (index value : Expression) → Bool
is_near index value = (nat_lt (2 + need index + need value) 10 && not (has_element value))
    && not (has_element index)

-- an element that is swapped with a variable is found once, if its index reads no element
abbrev pub is_near_index : Expression → Bool
is_near_index index = not (has_element index)

-- an operand that is a variable is read if its word is taken out, and needs no register
abbrev pub is_variable : Expression → Bool
is_variable (Variable name) = true
is_variable _ = false

-- a number as a right operand is an operator's own word, and one that is 0 is in the register of 0
abbrev pub is_literal : Expression → Bool
is_literal (Number at word) = true
is_literal _ = false

abbrev pub literal_in : Expression → ℕ
literal_in (Number at word) = word
literal_in _ = 0

abbrev pub is_zero_literal : Expression → Bool
is_zero_literal (Number at word) = nat_eq word 0
is_zero_literal (Null at) = true
is_zero_literal _ = false

abbrev pub expression_spot : (List ℕ → Spot) → Expression → Spot
expression_spot spot (Variable name) = spot name.text
expression_spot spot _ = Frame 0
