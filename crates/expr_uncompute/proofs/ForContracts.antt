-- The laws that contracts state.
use Rattle.std.proofs.Common.{ℕ, List}
use Rattle.register_expressions.specs.rpp_tree.declared.tree.UpdateOp.{UpdateOp}
use Rattle.register_expressions.specs.rpp_tree.Tree.{Expression, Lvalue}
use Rattle.register_expressions.specs.refine_form.declared.spot.Spot.{Spot}
use Rattle.register_expressions.specs.Code.{Target}
use Rattle.expr_uncompute.specs.Code.{value_cells, test_cells, update_cells, swap_cells}
use Rattle.expr_uncompute.specs.Promises.{ExpressionLaw, ConditionLaw, UpdateLaw, SwapLaw}
use Rattle.expr_uncompute.proofs.Whole
use Rattle.expr_uncompute.proofs.Statements

module _ (spot : List ℕ → Spot) (free : ℕ) where
  pub value_law : (into : ℕ) (e : Expression) → Target into
      → ExpressionLaw spot free into e (value_cells spot free e into)
  value_law into e t = record { xors = λ im d m r s. Whole.value_law spot free into e m t r s im d }

  pub test_law : (into : ℕ) (e : Expression) → Target into → ConditionLaw spot free into e (test_cells spot free e into)
  test_law into e t = record { xors = λ im d m r s. Whole.test_law spot free into e m t r s im d }

  pub update_law : (op : UpdateOp) (target : Lvalue) (value : Expression)
      → UpdateLaw spot free op target value (update_cells spot free op target value)
  update_law op target value = record {
    updates = λ im d m r a v na nv h s. Statements.update_law spot free m op target value r.ready r.first r.second im d
        a v na nv h s;
    place_faults = λ im d m r c n. Statements.update_place_fault spot free m op target value r.ready r.first r.second im
        d c n;
    value_faults = λ im d m r a c na n. Statements.update_value_fault spot free m op target value r.ready r.first
        r.second im d a c na n;
    sharing_faults = λ im d m r a v na nv h. Statements.update_sharing_fault spot free m op target value r.ready r.first
        r.second im d a v na nv h;
  }

  pub swap_law : (left right : Lvalue) → SwapLaw spot free left right (swap_cells spot free left right)
  swap_law left right = record {
    swaps = λ im d m r p q np nq h s. Statements.swap_law spot free m left right r.ready r.first r.second im d p q np nq
        h s;
    left_faults = λ im d m r c n. Statements.swap_left_fault spot free m left right r.ready r.first r.second im d c n;
    right_faults = λ im d m r p c np n. Statements.swap_right_fault spot free m left right r.ready r.first r.second im d
        p c np n;
    sharing_faults = λ im d m r p q np nq h. Statements.swap_sharing_fault spot free m left right r.ready r.first
        r.second im d p q np nq h;
  }
