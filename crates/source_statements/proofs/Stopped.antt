-- Where a step may run out of memory, and what a fault leaves.
use Rattle.std.proofs.Common.{◌≡◌, ◌<◌, ◌≤◌, sym, ap, subst, true}
use Rattle.std.proofs.lemmas.Bool.{false≢true}
use Rattle.std.specs.Prelude.{Result, Ok, Err, IfErr, MatchResult}
use Rattle.source_blocks.specs.rpp_tree.Tree.{Statement, Statements, Update, Swap, If, From, Construct, Local, New, Delete, Copy}
use Rattle.source_blocks.specs.rpp_tree.Tree.{Uncopy, Call, Skip}
use Rattle.source_blocks.specs.source_steps.declared.stop.Stop.{Stop}
use Rattle.source_blocks.specs.source_steps.declared.stop.Stop.TheVariants as stop
use Rattle.source_blocks.specs.source_store.declared.lack.Lack.TheVariants as lacking
use Rattle.source_blocks.specs.source_steps.Metered.{IsOwn, IsOwnOrFull, IsFault, OnFault}
use Rattle.source_blocks.specs.declared.run.Run.{Run}
use Rattle.source_blocks.specs.Blocks.{statement_count}
use Rattle.source_blocks.specs.Tasks.{task_of}
use Rattle.source_blocks.specs.Requests.{is_request}
use Rattle.source_blocks.specs.Runs.{IsSound, RunStays, config_of, here_in}
use Rattle.source_blocks.specs.Stops.{MayStop}
use Rattle.source_blocks.proofs.Blocks.{rest_here, rest_end}
use Rattle.source_blocks.proofs.Stopping.{own_may}
use Rattle.source_statements.specs.Steps.{MayStopAt}

-- a request may stop anyhow
pub asked_may : (s : Statement) (why : Stop) → is_request s ≡ true → MayStop s why
asked_may (Update at op target value) why e = absurd (false≢true e)
asked_may (Swap at left right) why e = absurd (false≢true e)
asked_may (If at test taken other after) why e = absurd (false≢true e)
asked_may (From at entry first again exit) why e = absurd (false≢true e)
asked_may (Construct at class name body end) why e = absurd (false≢true e)
asked_may (Local at var value body end_var end_value) why e = absurd (false≢true e)
asked_may (New at made target) why e = tt
asked_may (Delete at made target) why e = tt
asked_may (Copy at kind source target) why e = absurd (false≢true e)
asked_may (Uncopy at kind source target) why e = absurd (false≢true e)
asked_may (Call at back receiver method args) why e = absurd (false≢true e)
asked_may (Skip at) why e = absurd (false≢true e)

module _ (run : Run) where
  pub ends_so : {E : Type 0} (result : Result E Stop) → statement_count (task_of run.task) ≤ run.at
      → IfErr result IsOwnOrFull → IfErr result (λ why. MayStopAt (config_of run).rest why)
  ends_so (Ok e) h own = tt
  ends_so (Err why) h own = subst (λ (rest : Statements). MayStopAt rest why)
      (sym (rest_end run.at (task_of run.task) h)) own

  pub begins_so : {E : Type 0} (result : Result E Stop) (s : Statement) → run.at < statement_count (task_of run.task)
      → here_in run ≡ s → IfErr result (λ why. MayStop s why) → IfErr result (λ why. MayStopAt (config_of run).rest why)
  begins_so (Ok e) s h here may = tt
  begins_so (Err why) s h here may =
      subst (λ (rest : Statements). MayStopAt rest why) (sym (rest_here run.at (task_of run.task) h))
      (subst (λ (t : Statement). MayStop t why) (sym here) may)

  pub unpaid_so : (why : Stop) → run.at < statement_count (task_of run.task) → IsOwn why
      → MayStopAt (config_of run).rest why
  unpaid_so why h own = subst (λ (rest : Statements). MayStopAt rest why) (sym (rest_here run.at (task_of run.task) h))
      (own_may (here_in run) why own)

-- what stops only if memory runs out meets no fault
pub no_fault : {E : Type 0} (result : Result E Stop) (P : E → Type 0) (it : Type 0)
    → MatchResult result P (λ why. why ≡ stop.Lacks lacking.NoMemory) → OnFault result it
no_fault (Ok e) P it m = tt
no_fault (Err why) P it m = λ fault. absurd (subst IsFault m fault)

-- a run that is as it was is where it was
pub stays_so : {E : Type 0} (result : Result E Stop) (old new : Run) → IsSound old → OnFault result (new ≡ old)
    → OnFault result (RunStays old new)
stays_so (Ok e) old new sound h = tt
stays_so (Err why) old new sound h = λ fault. record {
  place = ap config_of (h fault);
  sound = subst IsSound (sym (h fault)) sound;
}
