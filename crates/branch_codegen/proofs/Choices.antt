-- Conditionals in both directions, only from the laws of their conditions and blocks.
use Rattle.std.proofs.Common.{◌≡◌, ℕ, suc, ◌+◌, ◌-◌, ◌<◌, ◌≤◌, Bool, true, false, List, [], ◌∷◌, refl, sym, ap, ◌∙◌}
use Rattle.std.proofs.Common.{subst, arith}
use Rattle.std.specs.Prelude.{not, if◌then◌else◌}
use Rattle.refine_expressions.specs.code_conventions.declared.registers.TheConstants.{FLAG, NOUGHT}
use Rattle.refine_expressions.specs.rpp_tree.Tree.{Expression, Statements, If}
use Rattle.refine_expressions.specs.inverse_rules.Inverse.{inverse}
use Rattle.refine_expressions.specs.pisa_isa.Machine.{Memory}
use Rattle.refine_expressions.specs.paired_code.declared.part.Symbol.{Symbol}
use Rattle.refine_expressions.specs.paired_code.Machine.{memory_reg}
use Rattle.refine_expressions.specs.paired_code.Layout.{bool_xor}
use Rattle.refine_expressions.specs.paired_code.Pieces.{Outcome, Will}
use Rattle.refine_expressions.specs.paired_code.Rows.{line}
use Rattle.refine_expressions.specs.paired_code.Does.{RunResult, Fine, plus, told_then, Meets, fine, faults, more, Does}
use Rattle.refine_expressions.specs.paired_code.Does.{XorsTruth, chosen, agreed}
use Rattle.refine_expressions.specs.paired_code.Does.{if_told}
use Rattle.refine_expressions.proofs.paired_code_laws.Laws.{will_more}
use Rattle.refine_expressions.proofs.paired_code_laws.Does.{bit as flag_bit}
use Rattle.refine_expressions.specs.roopl_semantics.Run.{Run, Done as DoneRun, Fault as FaultRun, More as MoreRun}
use Rattle.refine_expressions.specs.roopl_semantics.Run.{◌>>=◌, give, fault_if}
use Rattle.refine_expressions.specs.roopl_semantics.Store.{Value, State}
use Rattle.refine_expressions.specs.roopl_semantics.Value.{evaluated}
use Rattle.refine_expressions.specs.roopl_semantics.Execution.{Setting, exec, holds, FI}
use Rattle.refine_form.specs.Form.{World, Scope, HasOpenFrame, Owes, StmtLaw, BlockLaw, TestLaw, tested, run_result}
use Rattle.refine_form.specs.Form.{one, turned_statement}
use Rattle.branch_codegen.specs.Branches.{flips, part_code, if_code}
use Rattle.refine_form.proofs.Told.{alone, told_after, told_bind, same_then}
use Rattle.refine_form.proofs.Rules.{as_known, meets_rate, wraps, meets_told, meets_slack, meets_less}
use Rattle.refine_form.proofs.Rows.{here, next, will_row}
use Rattle.branch_codegen.proofs.Flags.{Flagged, FlagLaw, test_flags}
use Rattle.branch_codegen.proofs.Ifs.{if_does, if_undoes}
use Rattle.refine_form.proofs.Memories.{mk}

-- a value of which only the truth value is used
pub told_holds : {B : Type 0} (r : Run Value) (g : Bool → RunResult B)
    → told_then (run_result (r >>= λ v. give (holds v))) (λ c b. g b) ≡ told_then (run_result r) (λ c v. g (holds v))
told_holds (DoneRun v c) g = let e : c + 0 ≡ c = omega arith in ap (λ k. plus k (g (holds v))) e
told_holds (FaultRun w c) g = refl
told_holds MoreRun g = refl

module _ (setting : Setting) (n : ℕ) (at : ℕ) (test : Expression) (taken other : Statements) (after : Expression) where
  abbrev says_if : State → RunResult State
  says_if st =
      if_told (λ n a. run_result (tested setting test a)) (λ n a. run_result (tested setting after a))
      (λ k a. run_result (exec setting n taken a)) (λ k a. run_result (exec setting n other a)) (suc n) st

  choice_is : (b : Bool) (st : State) → run_result (exec setting n (if b then taken else other) st)
      ≡ chosen b (run_result (exec setting n taken st)) (run_result (exec setting n other st))
  choice_is true st = refl
  choice_is false st = refl

  agreed_is : (b x : Bool) (end : State) → run_result (fault_if FI (if b then not x else x) >>= λ z. give end)
      ≡ agreed (bool_xor b x) end
  agreed_is true true end = refl
  agreed_is true false end = refl
  agreed_is false true end = refl
  agreed_is false false end = refl

  pub told_if : (st : State) → run_result (one setting n (If at test taken other after) st) ≡ says_if st
  told_if st =
      let last : Bool → State → Value → Run State = λ b end x. fault_if FI (if b then not (holds x) else holds x)
      >>= λ z. give end in
      let rest : Bool → State → Run State = λ b end. evaluated setting.program after end >>= last b end in
      let mid : Value → Run State = λ v. exec setting n (if holds v then taken else other) st >>= rest (holds v) in
      let H : Bool → RunResult State = λ b. told_then (chosen b (run_result (exec setting n taken st))
      (run_result (exec setting n other st))) (λ c2 a1. told_then (run_result (tested setting after a1))
      (λ c3 x. agreed (bool_xor b x) a1)) in
      told_after 1 (evaluated setting.program test st >>= mid)
      ∙ ap (plus 1) (
      told_bind (evaluated setting.program test st) mid
      ∙ same_then (run_result (evaluated setting.program test st)) (λ v. run_result (mid v)) (λ v. H (holds v)) (λ v.
      told_bind (exec setting n (if holds v then taken else other) st) (rest (holds v))
      ∙ ap (λ t. told_then t (λ c end. run_result (rest (holds v) end))) (choice_is (holds v) st)
      ∙ same_then (chosen (holds v) (run_result (exec setting n taken st)) (run_result (exec setting n other st)))
      (λ end. run_result (rest (holds v) end)) (λ end. told_then (run_result (tested setting after end))
      (λ c3 x. agreed (bool_xor (holds v) x) end)) (λ end.
      told_bind (evaluated setting.program after end) (last (holds v) end)
      ∙ same_then (run_result (evaluated setting.program after end)) (λ x. run_result (last (holds v) end x))
      (λ x. agreed (bool_xor (holds v) (holds x)) end) (λ x. agreed_is (holds v) (holds x) end)
      ∙ sym (told_holds (evaluated setting.program after end) (λ x. agreed (bool_xor (holds v) x) end))))
      ∙ sym (told_holds (evaluated setting.program test st) H)
      )

module _ (w : World) (thousand : w.rates.steps ≡ 1000) (counts : 1 ≤ w.rates.counts) (s : Scope) (u : w.Under) where
  abbrev R : Bool → State → Memory → Type 0
  R v st m = Flagged w s u v st m

  flag_is : (v : Bool) (st : State) (m : Memory) → R v st m → memory_reg m FLAG ≡ flag_bit v
  flag_is true st m h = ap (λ z. memory_reg z FLAG) (as_known m _ h.regs_are)
  flag_is false st m h = ap (λ z. memory_reg z FLAG) (as_known m _ h.regs_are)

  nought_is : (v : Bool) (st : State) (m : Memory) → R v st m → memory_reg m NOUGHT ≡ 0
  nought_is v st m h = ap (λ z. memory_reg z NOUGHT) (as_known m _ h.regs_are)

  -- a condition at the rates of statements
  pub tells : (d : Bool) (e : Expression) (p : List Symbol) → FlagLaw w s e p
      → XorsTruth w.im p d R w.rates 50 (λ n a. run_result (tested w.setting e a))
  tells d e p h = record {
    tells = λ n v a m g. will_more w.im p d m _ _ (λ o q. meets_rate (omega (arith, thousand)) q)
        (h n d u v a m g);
  }

  -- a part, with the flag saved
  pub part_does : (d : Bool) (p : List Symbol) (n : ℕ) (g : State → RunResult State)
      → Does w.im p d (HasOpenFrame w s u) (HasOpenFrame w s u) w.rates n 0 g
      → Does w.im (part_code p) d (R true) (R true) w.rates n 2 g
  part_does d p n g h = record {
    does = λ st m i.
        let ob = w.object_of u in
        let fr = w.frame_of u in
        let cs = m.cells in
        let all = wraps w.im d (line (flips ∷ [])) p (mk 0 ob fr 0 0 0 1 0 cs) (mk 0 ob fr 0 0 0 0 0 cs)
        (HasOpenFrame w s u)
        (R true) w.rates n 0 1 1 (g st) (λ a. Fine a 0)
        (will_row w.im false (flips ∷ []) 1 _ _ (next refl (omega arith) refl here))
        (h.does st _ (record { regs_are = refl; open_frame = i.open_frame }))
        (λ a m2 c e r. subst (λ z. Will w.im (line (flips ∷ [])) true z (Meets (R true) w.rates (n - c) 1 (Fine a 0)))
        (sym (as_known m2 _ r.regs_are))
        (will_more w.im _ true _ _ _ (λ o q. subst (Meets (R true) w.rates (n - c) 1 (Fine a 0)) (sym q)
        (fine (record { regs_are = refl; open_frame = r.open_frame }) (omega arith) (omega arith)))
        (will_row w.im true (flips ∷ []) 1 _ _ (next refl (omega arith) refl here)))) in
        subst (λ z. Will w.im (part_code p) d z (Meets (R true) w.rates n 2 (g st))) (sym (as_known m _ i.regs_are))
        (will_more w.im (part_code p) d _ _ _ (λ o q. meets_told _ _ (alone (g st)) (meets_slack 2 (omega arith) q))
        all);
  }

  does_less : (p : List Symbol) (d : Bool) (R1 : State → Memory → Type 0) (n k y : ℕ) (g : State → RunResult State)
      → k ≤ n
      → Does w.im p d R1 R1 w.rates n y g → Does w.im p d R1 R1 w.rates k y g
  does_less p d R1 n k y g l h = record {
    does = λ a m i. will_more w.im p d m _ _ (λ o q. meets_less k l q)
        (h.does a m i);
  }

  to_flagged : (p : List Symbol) (d : Bool) (n : ℕ) (g : State → RunResult State)
      → Does w.im p d (HasOpenFrame w s u) (HasOpenFrame w s u) w.rates n 0 g
      → Does w.im p d (R false) (R false) w.rates n 2 g
  to_flagged p d n g h = record {
    does = λ a m i. will_more w.im p d m _ _ (λ o q. go q)
        (h.does a m (record { regs_are = i.regs_are; open_frame = i.open_frame }));
  }
    where
      go : {t : RunResult State} {o : Outcome} → Meets (HasOpenFrame w s u) w.rates n 0 t o
          → Meets (R false) w.rates n 2 t o
      go (fine r l x) = fine (record { regs_are = r.regs_are; open_frame = r.open_frame }) l (omega arith)
      go (faults x) = faults (omega arith)
      go (more l) = more l

  from_flagged : {n x : ℕ} {t : RunResult State} {o : Outcome} → Meets (R false) w.rates n x t o
      → Meets (HasOpenFrame w s u) w.rates n x t o
  from_flagged (fine r l x) = fine (record { regs_are = r.regs_are; open_frame = r.open_frame }) l x
  from_flagged (faults x) = faults x
  from_flagged (more l) = more l

  module _ (at : ℕ) (test : Expression) (taken other : Statements) (after : Expression) (tp pp qq ap_code : List Symbol)
      (ht : FlagLaw w s test tp) (ha : FlagLaw w s after ap_code) (hp : BlockLaw w s taken pp)
      (hq : BlockLaw w s other qq) where
    runs_if : (n : ℕ) → Owes w (suc n) → (d : Bool) (st : State) (m : Memory) → HasOpenFrame w s u st m
        → Will w.im (if_code tp pp qq ap_code) d m (Meets (HasOpenFrame w s u) w.rates (suc n) 0
        (run_result (one w.setting n (turned_statement d (If at test taken other after)) st)))
    runs_if n owes false st m h =
        let less : Owes w n = λ k l. owes k (omega arith) in
        let p : (k : ℕ) → k < suc n → Does w.im (part_code pp) false (R true) (R true) w.rates k 2
        (λ a. run_result (exec w.setting n taken a)) = λ k l. does_less (part_code pp) false (R true) n k 2 _
        (omega arith) (part_does false pp n _ (hp n less false u)) in
        let q : (k : ℕ) → k < suc n → Does w.im qq false (R false) (R false) w.rates k 2
        (λ a. run_result (exec w.setting n other a)) = λ k l. does_less qq false (R false) n k 2 _ (omega arith)
        (to_flagged qq false n _ (hq n less false u)) in
        will_more w.im _ false m _ _ (λ o x. meets_told _ _ (sym (told_if w.setting n at test taken other after st))
        (from_flagged x))
        ((if_does w.im R flag_is nought_is w.rates counts 50 2 (omega (arith, thousand)) tp ap_code (part_code pp) qq
        (λ n a. run_result (tested w.setting test a)) (λ n a. run_result (tested w.setting after a))
        (λ k a. run_result (exec w.setting n taken a)) (λ k a. run_result (exec w.setting n other a))
        (tells false test tp ht) (tells false after ap_code ha) (suc n) p q).does st m
        (record { regs_are = h.regs_are; open_frame = h.open_frame }))
    runs_if n owes true st m h =
        let less : Owes w n = λ k l. owes k (omega arith) in
        let p : (k : ℕ) → k < suc n → Does w.im (part_code pp) true (R true) (R true) w.rates k 2
        (λ a. run_result (exec w.setting n (inverse taken) a)) =
        λ k l. does_less (part_code pp) true (R true) n k 2 _ (omega arith)
        (part_does true pp n _ (hp n less true u)) in
        let q : (k : ℕ) → k < suc n → Does w.im qq true (R false) (R false) w.rates k 2
        (λ a. run_result (exec w.setting n (inverse other) a)) =
        λ k l. does_less qq true (R false) n k 2 _ (omega arith) (to_flagged qq true n _ (hq n less true u)) in
        will_more w.im _ true m _ _ (λ o x. meets_told _ _ (sym
        (told_if w.setting n at after (inverse taken) (inverse other) test st)) (from_flagged x))
        ((if_undoes w.im R flag_is nought_is w.rates counts 50 2 (omega (arith, thousand)) tp ap_code (part_code pp) qq
        (λ n a. run_result (tested w.setting test a)) (λ n a. run_result (tested w.setting after a))
        (λ k a. run_result (exec w.setting n (inverse taken) a))
        (λ k a. run_result (exec w.setting n (inverse other) a))
        (tells true test tp ht) (tells true after ap_code ha) (suc n) p q).does st m
        (record { regs_are = h.regs_are; open_frame = h.open_frame }))

-- the code of a conditional
pub if_law : (w : World) → w.rates.steps ≡ 1000 → 1 ≤ w.rates.counts
    → (s : Scope) (at : ℕ) (test : Expression) (taken other : Statements) (after : Expression)
    (tp pp qq ap_code : List Symbol) → TestLaw w s test tp → TestLaw w s after ap_code → BlockLaw w s taken pp
    → BlockLaw w s other qq → StmtLaw w s (If at test taken other after) (if_code tp pp qq ap_code)
if_law w thousand counts s at test taken other after tp pp qq ap_code ht ha hp hq n owes d u =
    record {
      does = λ st m h. runs_if w thousand counts s u at test taken other after tp pp qq ap_code
          (test_flags w s test tp ht) (test_flags w s after ap_code ha) hp hq n owes d st m h;
    }
