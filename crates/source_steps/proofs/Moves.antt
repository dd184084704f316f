-- The moves of values into a call and back.
use Rattle.std.proofs.Common.{◌≡◌, ℕ, zero, suc, ◌+◌, refl, ap, arith, List, [], ◌∷◌, ◌++◌}
use Rattle.std.proofs.Common.{length, map, take, Bool, true, false}
use Rattle.std.specs.Prelude.{min}
use Rattle.class_table.specs.rpp_tree.declared.tree.Var.{Var}
use Rattle.class_table.specs.rpp_tree.Tree.{Procedure}
use Rattle.source_store.specs.roopl_semantics.Store.{State, Value, cleared}
use Rattle.source_store.specs.roopl_semantics.Value.{Cell, read, written}
use Rattle.source_store.specs.roopl_semantics.Execution.{Setting, Runner, bound, moved_out}
use Rattle.source_steps.specs.StateView.{bindings}

pub moved_out_both : (xs ys : List Cell) (st : State) → moved_out (xs ++ ys) st ≡ moved_out ys (moved_out xs st)
moved_out_both [] ys st = refl
moved_out_both (x ∷ xs) ys st = moved_out_both xs ys (written st x (cleared (read st x)))

-- as many variables as there are values, and as many values as there are variables
pub bound_cut : (params : List Var) (values : List Value) (count : ℕ) → count ≡ min (length params) (length values)
    → bound params values ≡ bindings (map (λ var. var.name.text) (take count params)) (take count values)
bound_cut [] values zero e = refl
bound_cut [] values (suc count) e = absurd (omega arith)
bound_cut (var ∷ params) [] zero e = refl
bound_cut (var ∷ params) [] (suc count) e = absurd (omega arith)
bound_cut (var ∷ params) (v ∷ values) zero e = absurd (omega arith)
bound_cut (var ∷ params) (v ∷ values) (suc count) e =
    ap (λ rest. record { name = var.name.text; value = v } ∷ rest) (bound_cut params values count (omega arith))

-- ---- the call of a method

module _ (setting : Setting) (run : Runner) (back : Bool) (method : Procedure) (self : ℕ) (receiver args : List Cell)
    (st mid : State) (inside : List Value) where
  abbrev pub start : State
  start = record {
    frame = bound method.params inside;
    self = self;
    depth = 1 + st.depth;
    store = mid.store;
    log = mid.log;
  }

-- ---- the values of a receiver, and then those of arguments
