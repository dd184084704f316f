-- What a statement that makes and deletes nothing did, its inverse undoes exactly, names and all.
use Rattle.std.proofs.Common.{◌≡◌, ℕ, refl, subst}
use Rattle.meaning_reached.specs.rpp_tree.declared.tree.UpdateOp.{UpdateOp}
use Rattle.meaning_reached.specs.rpp_tree.declared.tree.VarType.{VarType}
use Rattle.meaning_reached.specs.rpp_tree.Tree.{Expression, Lvalue, Statement, Update, Swap, Copy, Uncopy, End, Then}
use Rattle.meaning_reached.specs.inverse_rules.Inverse.{inverse_statement}
use Rattle.meaning_reached.specs.roopl_semantics.Run.{Done}
use Rattle.meaning_reached.specs.roopl_semantics.Store.{State}
use Rattle.meaning_reached.specs.roopl_semantics.Execution.{Setting, statement, exec}
use Rattle.meaning_inverse.proofs.Runs.{Does}
use Rattle.meaning_inverse.proofs.Ground.{Ground}
use Rattle.meaning_inverse.proofs.Undone.{UndoneExactly, update_exactly, swap_exactly}
use Rattle.meaning_inverse.proofs.Copies.{copy_exactly, uncopy_exactly}
use Rattle.meaning_inverse.proofs.Whole.{same_map, sees_itself}

no_other : (name : ℕ) → same_map.there name ≡ name
unfolding same_map
no_other name = refl

back_exactly : (setting : Setting) (s : Statement) (a b : State) (c : ℕ) → UndoneExactly setting s same_map a b b c
    → Does setting (inverse_statement s) b a c
back_exactly setting s a b c u =
    subst (λ (x : State). Does setting (inverse_statement s) b x c) (u.exact refl no_other) u.undone.does

module _ (setting : Setting) (G : Ground setting) (n : ℕ) (C : G.Context) (at : ℕ) (a b : State) (c : ℕ)
    (good : G.Good C a) (good_b : G.Good C b) where
  pub update_equal : (op : UpdateOp) (target : Lvalue) (value : Expression)
      → G.Typed C (Then (Update at op target value) End)
      → statement setting n (exec setting n) (Update at op target value) a ≡ Done b c
      → Does setting (inverse_statement (Update at op target value)) b a c
  update_equal op target value typed e =
      back_exactly setting (Update at op target value) a b c
      (update_exactly setting G n C at op target value a b c typed good good_b e same_map b
      (sees_itself setting.limits.heap b (G.sound C b good_b)))

  pub swap_equal : (left right : Lvalue) → G.Typed C (Then (Swap at left right) End)
      → statement setting n (exec setting n) (Swap at left right) a ≡ Done b c
      → Does setting (inverse_statement (Swap at left right)) b a c
  swap_equal left right typed e =
      back_exactly setting (Swap at left right) a b c
      (swap_exactly setting G n C at left right a b c typed good good_b e same_map b
      (sees_itself setting.limits.heap b (G.sound C b good_b)))

  pub copy_equal : (kind : VarType) (source target : Lvalue) → G.Typed C (Then (Copy at kind source target) End)
      → statement setting n (exec setting n) (Copy at kind source target) a ≡ Done b c
      → Does setting (inverse_statement (Copy at kind source target)) b a c
  copy_equal kind source target typed e =
      back_exactly setting (Copy at kind source target) a b c
      (copy_exactly setting G n C at kind source target a b c typed good good_b e same_map b
      (sees_itself setting.limits.heap b (G.sound C b good_b)))

  pub uncopy_equal : (kind : VarType) (source target : Lvalue) → G.Typed C (Then (Uncopy at kind source target) End)
      → statement setting n (exec setting n) (Uncopy at kind source target) a ≡ Done b c
      → Does setting (inverse_statement (Uncopy at kind source target)) b a c
  uncopy_equal kind source target typed e =
      back_exactly setting (Uncopy at kind source target) a b c
      (uncopy_exactly setting G n C at kind source target a b c typed good good_b e same_map b
      (sees_itself setting.limits.heap b (G.sound C b good_b)))
