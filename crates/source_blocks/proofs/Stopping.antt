-- Where a run may run out of memory.
use Rattle.std.proofs.Common.{◌≡◌, sym, subst}
use Rattle.std.specs.Prelude.{Result, Ok, Err, IfErr}
use Rattle.source_steps.specs.rpp_tree.Tree.{Whole, Item, Statement, Update, Swap, If, From, Construct, Local, New, Delete}
use Rattle.source_steps.specs.rpp_tree.Tree.{Copy, Uncopy, Call, Skip}
use Rattle.source_steps.specs.declared.stop.Stop.{Stop}
use Rattle.source_steps.specs.Metered.{IsOwn, IsOwnOrFull}
use Rattle.source_steps.proofs.Fuelled.{either}
use Rattle.source_blocks.specs.Stops.{MayStop}

-- any statement may stop by itself
pub own_may : (s : Statement) (why : Stop) → IsOwn why → MayStop s why
own_may (Update at op target value) why own = own
own_may (Swap at (Whole name) right) why own = λ named. own
own_may (Swap at (Item name index) right) why own = own
own_may (If at test taken other after) why own = tt
own_may (From at entry first again exit) why own = tt
own_may (Construct at class name body end) why own = tt
own_may (Local at var value body end_var end_value) why own = tt
own_may (New at made target) why own = tt
own_may (Delete at made target) why own = tt
own_may (Copy at kind source target) why own = either why own
own_may (Uncopy at kind source target) why own = own
own_may (Call at back receiver method args) why own = tt
own_may (Skip at) why own = own

module _ {E : Type 0} (result : Result E Stop) (s : Statement) where
  pub own_so : IfErr result IsOwn → IfErr result (λ why. MayStop s why)
  own_so own = by result own
    where
      by : (r : Result E Stop) → IfErr r IsOwn → IfErr r (λ why. MayStop s why)
      by (Ok e) own = tt
      by (Err why) own = own_may s why own

  -- the same statement
  module _ (t : Statement) (same : s ≡ t) where
    pub may_as : IfErr result (λ why. MayStop t why) → IfErr result (λ why. MayStop s why)
    may_as may = subst (λ (x : Statement). IfErr result (λ why. MayStop x why)) (sym same) may

    pub may_so : (P : Stop → Type 0) → ((why : Stop) → P why → MayStop t why) → IfErr result P
        → IfErr result (λ why. MayStop s why)
    may_so P may own = may_as (by result own)
      where
        by : (r : Result E Stop) → IfErr r P → IfErr r (λ why. MayStop t why)
        by (Ok e) own = tt
        by (Err why) own = may why own

    pub anyhow : ((why : Stop) → MayStop t why) → IfErr result (λ why. MayStop s why)
    anyhow may = may_as (by result)
      where
        by : (r : Result E Stop) → IfErr r (λ why. MayStop t why)
        by (Ok e) = tt
        by (Err why) = may why
