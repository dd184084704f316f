-- What code of expressions does, only by the memory.
use Rattle.std.specs.Prelude.{◌≡◌, ℕ, Bool, true, false, List, slice_index, slice_set}
use Rattle.register_expressions.specs.rpp_tree.declared.tree.UpdateOp.{UpdateOp}
use Rattle.register_expressions.specs.rpp_tree.Tree.{Expression, Lvalue}
use Rattle.register_expressions.specs.inverse_rules.Inverse.{inverse_operator}
use Rattle.register_expressions.specs.roopl_semantics.Operators.{updated}
use Rattle.register_expressions.specs.refine_form.declared.spot.Spot.{Spot}
use Rattle.register_expressions.specs.Number.{Bases, lvalue_read, update_shares, swap_shares, Sees}
use Rattle.register_expressions.specs.Number.{Same, SamePlace}

-- what an update does in a direction
abbrev pub turned_operator : Bool → UpdateOp → UpdateOp
turned_operator false op = op
turned_operator true op = inverse_operator op

-- the cells with the word at an address updated
abbrev pub updated_at : Bool → UpdateOp → (a v : ℕ) → List ℕ → List ℕ
updated_at d op a v cells = slice_set cells a (updated (turned_operator d op) (slice_index cells a) v)

-- the cells with two words swapped; if they are one, nothing changes
abbrev pub swapped_at : (p q : ℕ) → List ℕ → List ℕ
swapped_at p q cells = slice_set (slice_set cells p (slice_index cells q)) q (slice_index cells p)

-- after a write all that the place and the value read is where it was, and says the same, and no
-- array is shared
pub record UpdateStays (spot : List ℕ → Spot) (b : Bases) (low : ℕ) (target : Lvalue) (value : Expression)
    (cells cells' : List ℕ) : Type 0 where
  pub place_sees : Sees spot b low cells' (lvalue_read target)
  pub value_sees : Sees spot b low cells' value
  pub place_same : SamePlace spot b cells cells' target
  pub value_same : Same spot b cells cells' value
  pub apart : update_shares spot b cells' target value ≡ false

-- the same of two places
pub record BothStay (spot : List ℕ → Spot) (b : Bases) (low : ℕ) (left right : Lvalue)
    (cells cells' : List ℕ) : Type 0 where
  pub left_sees : Sees spot b low cells' (lvalue_read left)
  pub right_sees : Sees spot b low cells' (lvalue_read right)
  pub left_same : SamePlace spot b cells cells' left
  pub right_same : SamePlace spot b cells cells' right
  pub apart : swap_shares spot b cells' left right ≡ false
