-- Blocks in both directions, and the induction over fuel that joins all routines.
use Rattle.std.proofs.Common.{◌≡◌, ℕ, zero, suc, ◌+◌, ◌-◌, ◌≤◌, ⊎_elim, true, false, List, [], ◌∷◌, ◌++◌, sym, ◌∙◌}
use Rattle.std.proofs.Common.{subst, arith, append-nil}
use Rattle.std.proofs.lemmas.Bool.{cases_lt}
use Rattle.refine_frame.specs.rpp_tree.Tree.{Statement, Statements, End, Then}
use Rattle.refine_frame.specs.inverse_rules.Inverse.{inverse, inverse_statement}
use Rattle.refine_frame.specs.pisa_isa.Machine.{Memory}
use Rattle.paired_code.specs.declared.part.Symbol.{Symbol}
use Rattle.paired_code.specs.Pieces.{Done, Will}
use Rattle.paired_code.specs.Does.{RunResult, told_then, Meets, fine, more, in_order}
use Rattle.paired_code.proofs.Laws.{will_of, will_more}
use Rattle.paired_code.proofs.Small.{runs_still, runs_empty}
use Rattle.paired_code.proofs.Does.{will_last}
use Rattle.refine_frame.specs.roopl_semantics.Store.{State}
use Rattle.refine_frame.specs.roopl_semantics.Execution.{exec, statement}
use Rattle.refine_form.specs.Form.{World, Scope, HasOpenFrame, Owes, RunsBody, StmtLaw, BlockLaw, AllMethods}
use Rattle.refine_form.specs.Form.{run_result, one}
use Rattle.refine_form.proofs.Told.{alone, told_block, told_joined, count, cost_counts, plus_fine, told_after}
use Rattle.refine_form.proofs.Rules.{meets_less, meets_told, meets_then}

-- what is assumed for less fuel
pub owes_less : (w : World) (n n' : ℕ) → n' ≤ n → Owes w n → Owes w n'
owes_less w n n' h owes = λ k l r lr. owes k (omega arith) r lr

-- nothing is done, and nothing is said
pub end_law : (w : World) (s : Scope) → BlockLaw w s End []
end_law w s n owes false u = record {
  does = λ st m h. will_of w.im [] false m (Done m 0) _ (runs_empty w.im false m)
      (fine h (omega arith) (omega arith));
}
end_law w s n owes true u = record {
  does = λ st m h. will_of w.im [] true m (Done m 0) _ (runs_empty w.im true m)
      (fine h (omega arith) (omega arith));
}

module _ (w : World) (s : Scope) (first : Statement) (rest : Statements) (p q : List Symbol) (hp : StmtLaw w s first p)
    (hq : BlockLaw w s rest q) where
  abbrev Here : w.Under → State → Memory → Type 0
  Here u st m = HasOpenFrame w s u st m

  -- along
  ahead : (n : ℕ) → Owes w n → (u : w.Under) (st : State) (m : Memory) → Here u st m
      → Will w.im (p ++ q) false m (Meets (Here u) w.rates n 0 (run_result (exec w.setting n (Then first rest) st)))
  ahead zero owes u st m h = will_of w.im _ false m _ _ (runs_still w.im _ false m) (more (omega arith))
  ahead (suc n) owes u st m h =
      let g : ℕ → State → RunResult State = λ c a. run_result (exec w.setting n rest a) in
      let all : Will w.im (in_order false (p ∷ q ∷ [])) false m
      (Meets (Here u) w.rates (suc n) (0 + 0) (told_then (run_result (one w.setting n first st)) g)) =
      meets_then w.im false (Here u) (Here u) w.rates (suc n) 0 0 p (q ∷ []) m (run_result (one w.setting n first st)) g
      ((hp n owes false u).does st m h) (λ c a m1 e r.
      let one_count : 1 ≤ c = plus_fine 1 (run_result (statement w.setting n (exec w.setting n) first st)) a c
      (sym (told_after 1 (statement w.setting n (exec w.setting n) first st)) ∙ e) in
      will_last w.im false q m1 _ (will_more w.im q false m1 _ _ (λ o t. meets_less (suc n - c) (omega arith) t)
      ((hq n (owes_less w (suc n) n (omega arith) owes) false u).does a m1 r))) in
      subst (λ z. Will w.im (p ++ z) false m (Meets (Here u) w.rates (suc n) 0
      (run_result (exec w.setting (suc n) (Then first rest) st)))) (append-nil q)
      (will_more w.im _ false m _ _ (λ o t. meets_told _ _ (sym (told_block w.setting n first rest st)) t) all)

  -- back, the statement comes last, with the fuel that the others leave
  last : (n j : ℕ) → j ≤ n → Owes w n → (u : w.Under) (st : State) (m : Memory) → Here u st m
      → Will w.im p true m (Meets (Here u) w.rates j 0 (run_result
      (exec w.setting j (Then (inverse_statement first) End) st)))
  last n zero l owes u st m h = will_of w.im _ true m _ _ (runs_still w.im _ true m) (more (omega arith))
  last n (suc j) l owes u st m h =
      will_more w.im p true m _ _ (λ o t. meets_told _ _ (sym
      (told_block w.setting j (inverse_statement first) End st
      ∙ alone (run_result (one w.setting j (inverse_statement first) st)))) t)
      ((hp j (owes_less w n (suc j) l owes) true u).does st m h)

  backward : (n : ℕ) → Owes w n → (u : w.Under) (st : State) (m : Memory) → Here u st m
      → Will w.im (p ++ q) true m (Meets (Here u) w.rates n 0
      (run_result (exec w.setting n (inverse (Then first rest)) st)))
  backward n owes u st m h =
      let before = inverse rest in
      let g : ℕ → State → RunResult State = λ c a. run_result (exec w.setting (n - count before)
      (Then (inverse_statement first) End) a) in
      let all : Will w.im (in_order true (q ∷ p ∷ [])) true m
      (Meets (Here u) w.rates n (0 + 0) (told_then (run_result (exec w.setting n before st)) g)) =
      meets_then w.im true (Here u) (Here u) w.rates n 0 0 q (p ∷ []) m (run_result (exec w.setting n before st)) g
      ((hq n owes true u).does st m h) (λ c a m1 e r.
      let counted : count before ≤ c = cost_counts w.setting n before st a c e in
      will_last w.im true p m1 _ (will_more w.im p true m1 _ _ (λ o t. meets_less (n - c) (omega arith) t)
      (last n (n - count before) (omega arith) owes u a m1 r))) in
      will_more w.im (p ++ q) true m _ _ (λ o t. meets_told _ _
      (sym (told_joined w.setting n before (Then (inverse_statement first) End) st)) t) all

  -- a statement and a block
  pub then_law : BlockLaw w s (Then first rest) (p ++ q)
  then_law n owes false u = record { does = λ st m h. ahead n owes u st m h }
  then_law n owes true u = record { does = λ st m h. backward n owes u st m h }

-- ---- the induction

-- so the routines satisfy the assumptions about them, for any fuel
pub all_owe : (w : World) → AllMethods w → (n : ℕ) → Owes w n
all_owe w laws zero k l r lr = absurd (omega arith)
all_owe w laws (suc n) k l r lr = ⊎_elim (λ h. all_owe w laws n k h r lr)
    (λ h. let e : n ≡ k = omega arith in subst (λ z. RunsBody w (w.routines.scope r) (w.routines.method r)
    (w.routines.body r) z) e (laws r lr n (all_owe w laws n))) (cases_lt k n)
