-- Blocks with a local variable.
use Rattle.std.proofs.Common.{◌≡◌, ℕ, sym, subst, ◌∙◌, ◌∷◌}
use Rattle.class_table.specs.rpp_tree.Tree.{Expression, Lvalue, Source}
use Rattle.source_store.specs.roopl_semantics.Run.{Run, ◌>>=◌}
use Rattle.source_store.specs.roopl_semantics.Store.{State, Value}
use Rattle.source_store.specs.roopl_semantics.Value.{Cell, evaluated, found}
use Rattle.source_steps.specs.declared.stop.Stop.{Stop}
use Rattle.source_steps.specs.Metered.{Went, metered, Failed}
use Rattle.source_steps.proofs.Fuelled.{goes, fails}

-- two places and then their check
module _ (program : Source) (source target : Lvalue) (st : State) (check : Run (Unit {0}))
    (next : Cell → Cell → Run State) (fuel g : ℕ) (a : Cell) (one : metered fuel (found program source st) ≡ Went a g)
  where
    abbrev behind_first : Cell → Run State
    behind_first a = found program target st >>= (λ b. check >>= (λ u. next a b))

    pub target_fails : (left : ℕ) (why : Stop) → Failed why left (metered g (found program target st))
        → Failed why left (metered fuel (found program source st >>= behind_first))
    target_fails left why f = subst (λ m. Failed why left m)
        (sym (goes fuel g (found program source st) a behind_first one))
        (fails g left (found program target st) (λ b. check >>= (λ u. next a b)) why f)

    module _ (g' : ℕ) (b : Cell) (two : metered g (found program target st) ≡ Went b g') where
      behind_both : metered fuel (found program source st >>= behind_first) ≡ metered g' (check >>= (λ u. next a b))
      behind_both = goes fuel g (found program source st) a behind_first one
          ∙ goes g g' (found program target st) b (λ b. check >>= (λ u. next a b)) two

      pub check_fails : (left : ℕ) (why : Stop) → Failed why left (metered g' check)
          → Failed why left (metered fuel (found program source st >>= behind_first))
      check_fails left why f = subst (λ m. Failed why left m) (sym behind_both)
          (fails g' left check (λ u. next a b) why f)

      pub pair_goes : (g'' : ℕ) → metered g' check ≡ Went tt g''
          → metered fuel (found program source st >>= behind_first) ≡ metered g'' (next a b)
      pair_goes g'' three = behind_both ∙ goes g' g'' check tt (λ u. next a b) three

-- a place and then a length
pub sized_goes : (program : Source) (target : Lvalue) (size : Expression) (st : State) (fuel g g' : ℕ) (cell : Cell)
    (v : Value) (next : Cell → Value → Run State)
    → metered fuel (found program target st) ≡ Went cell g → metered g (evaluated program size st) ≡ Went v g'
    → metered fuel (found program target st >>= (λ cell. evaluated program size st >>= (λ v. next cell v)))
    ≡ metered g' (next cell v)
sized_goes program target size st fuel g g' cell v next one two =
    goes fuel g (found program target st) cell (λ cell. evaluated program size st >>= (λ v. next cell v)) one
    ∙ goes g g' (evaluated program size st) v (λ v. next cell v) two

-- a place and then its check
pub apart_goes : (program : Source) (target : Lvalue) (st : State) (fuel g g' : ℕ) (cell : Cell)
    (check : Run (Unit {0})) (next : Cell → Run State)
    → metered fuel (found program target st) ≡ Went cell g → metered g check ≡ Went tt g'
    → metered fuel (found program target st >>= (λ cell. check >>= (λ u. next cell))) ≡ metered g' (next cell)
apart_goes program target st fuel g g' cell check next one two =
    goes fuel g (found program target st) cell (λ cell. check >>= (λ u. next cell)) one
    ∙ goes g g' check tt (λ u. next cell) two
