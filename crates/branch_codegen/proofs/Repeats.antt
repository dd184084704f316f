-- Loops in both directions: each condition occurs once, and is computed once for each cost unit.
use Rattle.std.proofs.Common.{◌≡◌, ◌≢◌, ℕ, zero, suc, ◌+◌, ◌-◌, ◌*◌, ◌≤◌, inl, inr, Bool, true, false, List, [], ◌∷◌}
use Rattle.std.proofs.Common.{◌++◌, refl, sym, ap, ◌∙◌, subst, arith, append-nil, append_assoc}
use Rattle.std.specs.Prelude.{not}
use Rattle.std.proofs.Math.Nat.{mul-add, mul-le-mul_right}
use Rattle.refine_expressions.specs.code_conventions.declared.faults.TheConstants.{LOOP}
use Rattle.refine_expressions.specs.code_conventions.declared.registers.TheConstants.{FLAG, NOUGHT}
use Rattle.refine_expressions.specs.rpp_tree.Tree.{Expression, Number, Null, Variable, Element, Binary, Statements, From, nodes}
use Rattle.refine_expressions.specs.inverse_rules.Inverse.{inverse}
use Rattle.refine_expressions.specs.pisa_isa.Machine.{Memory}
use Rattle.refine_expressions.specs.paired_code.declared.part.Symbol.{Symbol}
use Rattle.refine_expressions.specs.paired_code.Machine.{Image, memory_reg}
use Rattle.refine_expressions.specs.paired_code.Layout.{bool_xor, loop_cells, Equal}
use Rattle.refine_expressions.specs.paired_code.Pieces.{Outcome, Done, Trapped, Still, Will, outcome_after, to_tail}
use Rattle.refine_expressions.specs.paired_code.Pieces.{to_head}
use Rattle.refine_expressions.specs.paired_code.Does.{Rates, RunResult, Fine, Fault, More, plus, told_then, Meets, fine}
use Rattle.refine_expressions.specs.paired_code.Does.{faults, more, Does}
use Rattle.refine_expressions.specs.paired_code.Does.{in_order}
use Rattle.refine_expressions.proofs.paired_code_laws.Laws.{Next, will_of, will_more}
use Rattle.refine_expressions.proofs.paired_code_laws.Checks.{runs_passes, runs_fails}
use Rattle.refine_expressions.proofs.paired_code_laws.Does.{will_first, will_last, Quiet, quiet}
use Rattle.refine_expressions.proofs.paired_code_laws.Loop.{Turns, turn, turns_more, will_loop, After_head}
use Rattle.refine_expressions.specs.roopl_semantics.Run.{Run, Done as DoneRun, Fault as FaultRun, More as MoreRun}
use Rattle.refine_expressions.specs.roopl_semantics.Run.{◌>>=◌, give, fault_if}
use Rattle.refine_expressions.specs.roopl_semantics.Run.{given, after_cost}
use Rattle.refine_expressions.specs.roopl_semantics.Store.{Value, State}
use Rattle.refine_expressions.specs.roopl_semantics.Value.{evaluated, value}
use Rattle.refine_expressions.specs.roopl_semantics.Execution.{Setting, exec, holds, turns, turn_end}
use Rattle.refine_form.specs.Form.{World, Scope, HasOpenFrame, Owes, StmtLaw, BlockLaw, TestLaw, test_rates, tested}
use Rattle.refine_form.specs.Form.{run_result}
use Rattle.refine_form.specs.Form.{one, turned_statement}
use Rattle.refine_expressions.specs.paired_code.Rows.{line}
use Rattle.refine_form.specs.Cells.{around}
use Rattle.branch_codegen.specs.Branches.{flips, check, from_code}
use Rattle.refine_expressions.proofs.paired_code_laws.Small.{runs_still}
use Rattle.refine_form.proofs.Told.{alone, told_after, told_bind, same_then, plus_none, plus_plus}
use Rattle.refine_form.proofs.Rules.{as_known, wraps_spent, meets_told}
use Rattle.refine_form.proofs.Rows.{here, next, will_row}
use Rattle.branch_codegen.proofs.Flags.{Flagged, FlagLaw, test_flags}
use Rattle.branch_codegen.proofs.Choices.{told_holds}
use Rattle.refine_form.proofs.Memories.{mk}

-- ---- rules that leave open what is to hold at the end

-- a part that meets the source, and the others, by what is known where it is left
pub step_then : {A : Type 0} (im : Image) (d : Bool) (R : A → Memory → Type 0) (b : Rates) (n x : ℕ) (p : List Symbol)
    (ps : List (List Symbol)) (m : Memory) (t : RunResult A) (Q : Outcome → Type 0) → Will im p d m (Meets R b n x t)
    → ((a : A) (m1 : Memory) (c k : ℕ) → t ≡ Fine a c → R a m1 → c ≤ b.counts * k → k ≤ b.steps * c + x
    → Will im (in_order d ps) d m1 (λ o. Q (outcome_after k o)))
    → ((v c k : ℕ) → t ≡ Fault v c → k ≤ b.steps * c + x → Q (Trapped v k))
    → ((k : ℕ) → t ≡ More → n ≤ b.counts * (k + 1) → Q (Still k)) → Will im (in_order d (p ∷ ps)) d m Q
step_then im d R b n x p ps m t Q w go trap stay = will_first im d p ps m Q
    (will_more im p d m _ _ (λ o h. by o t refl h) w)
  where
    by : (o : Outcome) (t' : RunResult _) → t ≡ t' → Meets R b n x t' o
        → Next (λ m1 k. Will im (in_order d ps) d m1 (λ o. Q (outcome_after k o))) Q o
    by _ _ e (fine {a = a} {m = m1} {c = c} {k = k} r l u) = go a m1 c k e r l u
    by _ _ e (faults {w = v} {c = c} {k = k} u) = trap v c k e u
    by _ _ e (more {k = k} l) = stay k e l

-- the last part
pub step_last : {A : Type 0} (im : Image) (d : Bool) (R : A → Memory → Type 0) (b : Rates) (n x : ℕ) (p : List Symbol)
    (m : Memory) (t : RunResult A) (Q : Outcome → Type 0) → Will im p d m (Meets R b n x t)
    → ((a : A) (m1 : Memory) (c k : ℕ) → t ≡ Fine a c → R a m1 → c ≤ b.counts * k → k ≤ b.steps * c + x → Q (Done m1 k))
    → ((v c k : ℕ) → t ≡ Fault v c → k ≤ b.steps * c + x → Q (Trapped v k))
    → ((k : ℕ) → t ≡ More → n ≤ b.counts * (k + 1) → Q (Still k)) → Will im (in_order d (p ∷ [])) d m Q
step_last im d R b n x p m t Q w go trap stay = will_last im d p m Q (will_more im p d m _ _ (λ o h. by o t refl h) w)
  where
    by : (o : Outcome) (t' : RunResult _) → t ≡ t' → Meets R b n x t' o → Q o
    by _ _ e (fine {a = a} {m = m1} {c = c} {k = k} r l u) = go a m1 c k e r l u
    by _ _ e (faults {w = v} {c = c} {k = k} u) = trap v c k e u
    by _ _ e (more {k = k} l) = stay k e l

pub quiet_then : (im : Image) (d : Bool) (P : Memory → Type 0) (x : ℕ) (p : List Symbol) (ps : List (List Symbol))
    (m : Memory) (Q : Outcome → Type 0) → Will im p d m (Quiet P x)
    → ((m1 : Memory) (k : ℕ) → P m1 → k ≤ x → Will im (in_order d ps) d m1 (λ o. Q (outcome_after k o)))
    → Will im (in_order d (p ∷ ps)) d m Q
quiet_then im d P x p ps m Q w go = will_first im d p ps m Q (will_more im p d m _ _ (λ o h. by o h) w)
  where
    by : (o : Outcome) → Quiet P x o → Next (λ m1 k. Will im (in_order d ps) d m1 (λ o. Q (outcome_after k o))) Q o
    by _ (quiet {m = m1} {k = k} r l) = go m1 k r l

then_at : {A B : Type 0} (t : RunResult A) (a : A) (c : ℕ) (g : A → RunResult B) → t ≡ Fine a c
    → told_then t (λ c a. g a) ≡ plus c (g a)
then_at t a c g e = ap (λ z. told_then z (λ c a. g a)) e

then_fault : {A B : Type 0} (t : RunResult A) (v c : ℕ) (g : A → RunResult B) → t ≡ Fault v c
    → told_then t (λ c a. g a) ≡ Fault v c
then_fault t v c g e = ap (λ z. told_then z (λ c a. g a)) e

then_more : {A B : Type 0} (t : RunResult A) (g : A → RunResult B) → t ≡ More → told_then t (λ c a. g a) ≡ More
then_more t g e = ap (λ z. told_then z (λ c a. g a)) e

-- a condition costs something
nodes_one : (e : Expression) → 1 ≤ nodes e
nodes_one (Number at word) = omega arith
nodes_one (Null at) = omega arith
nodes_one (Variable name) = omega arith
nodes_one (Element name index) = omega arith
nodes_one (Binary at op left right) = omega arith

pub test_costs : (setting : Setting) (e : Expression) (st : State) (b : Bool) (c : ℕ)
    → run_result (tested setting e st) ≡ Fine b c → 1 ≤ c
test_costs setting e st b c h = by (given (value setting.program st e)) h
  where
    by : (r : Run Value) → run_result (after_cost (nodes e) r >>= λ v. give (holds v)) ≡ Fine b c → 1 ≤ c
    by (DoneRun v k) h = let q : nodes e + k + 0 ≡ c = cc in omega (arith, nodes_one e, q)
    by (FaultRun v k) h = absurd (cc)
    by MoreRun h = absurd (cc)

pub fault_costs : (setting : Setting) (e : Expression) (st : State) (x c : ℕ)
    → run_result (tested setting e st) ≡ Fault x c
    → 1 ≤ c
fault_costs setting e st x c h = by (given (value setting.program st e)) h
  where
    by : (r : Run Value) → run_result (after_cost (nodes e) r >>= λ v. give (holds v)) ≡ Fault x c → 1 ≤ c
    by (DoneRun v k) h = absurd (cc)
    by (FaultRun v k) h = let q : nodes e + k ≡ c = cc in omega (arith, nodes_one e, q)
    by MoreRun h = absurd (cc)

-- ---- counts

more_steps : (b c k k' : ℕ) → c ≤ b * k → k ≤ k' → c ≤ b * k'
more_steps b c k k' h l = let g : b * k ≤ b * k' = (let q : k * b ≤ k' * b = mul-le-mul_right b l in grind (arith, q))
    in omega (arith, h, g)

two_counts : (b c c' k k' : ℕ) → c ≤ b * k → c' ≤ b * k' → c + c' ≤ b * (k + k')
two_counts b c c' k k' h g = omega (arith, h, g, mul-add b k k')

-- ---- the iterations

module _ (w : World) (thousand : w.rates.steps ≡ 1000) (counts : 1 ≤ w.rates.counts) (s : Scope) (u : w.Under)
    (d : Bool) (e1 e2 : Expression) (first again : Statements) (n : ℕ) where
  abbrev looped : Bool → RunResult State → RunResult State
  looped true t = Fault LOOP 0
  looped false t = t

  abbrev ended : Bool → RunResult State → RunResult State → RunResult State
  ended true a b = a
  ended false a b = b

  -- what the source says of at most j iterations
  abbrev says : ℕ → State → RunResult State
  says zero st = More
  says (suc j) st =
      told_then (run_result (exec w.setting n first st)) (λ c end. told_then (run_result (tested w.setting e2 end))
      (λ c b. ended b (Fine end 0) (told_then (run_result (exec w.setting n again end))
      (λ c end2. told_then (run_result (tested w.setting e1 end2)) (λ c b2. looped b2 (says j end2))))))

  looped_is : (j : ℕ) (b : Bool) (end : State) → run_result (turns w.setting j (exec w.setting n) e1 first again e2 end)
      ≡ says j end → run_result (fault_if LOOP b >>= λ z. turns w.setting j (exec w.setting n) e1 first again e2 end)
      ≡ looped b (says j end)
  looped_is j true end ih = refl
  looped_is j false end ih = told_after 0 (turns w.setting j (exec w.setting n) e1 first again e2 end)
      ∙ plus_none (run_result (turns w.setting j (exec w.setting n) e1 first again e2 end)) ∙ ih

  end_is : (j : ℕ) (b : Bool) (end : State) → ((st : State)
      → run_result (turns w.setting j (exec w.setting n) e1 first again e2 st) ≡ says j st)
      → run_result (turn_end w.setting (exec w.setting n) e1 again
      (turns w.setting j (exec w.setting n) e1 first again e2) b
      end) ≡ ended b (Fine end 0) (told_then (run_result (exec w.setting n again end))
      (λ c end2. told_then (run_result (tested w.setting e1 end2)) (λ c b2. looped b2 (says j end2))))
  end_is j true end ih = refl
  end_is j false end ih =
      let go : State → Value → Run State = λ end2 v. fault_if LOOP (holds v) >>= λ z. turns w.setting j
      (exec w.setting n) e1 first again e2 end2 in
      told_bind (exec w.setting n again end) (λ end2. evaluated w.setting.program e1 end2 >>= go end2)
      ∙ same_then (run_result (exec w.setting n again end))
      (λ end2. run_result (evaluated w.setting.program e1 end2 >>= go end2))
      (λ end2. told_then (run_result (tested w.setting e1 end2)) (λ c b2. looped b2 (says j end2))) (λ end2.
      told_bind (evaluated w.setting.program e1 end2) (go end2)
      ∙ same_then (run_result (evaluated w.setting.program e1 end2)) (λ v. run_result (go end2 v))
      (λ v. looped (holds v) (says j end2)) (λ v. looped_is j (holds v) end2 (ih end2))
      ∙ sym (told_holds (evaluated w.setting.program e1 end2) (λ b2. looped b2 (says j end2))))

  pub told_turns : (j : ℕ) (st : State) → run_result (turns w.setting j (exec w.setting n) e1 first again e2 st)
      ≡ says j st
  told_turns zero st = refl
  told_turns (suc j) st =
      let G : State → Bool → RunResult State = λ end b. ended b (Fine end 0)
      (told_then (run_result (exec w.setting n again end)) (λ c end2. told_then (run_result (tested w.setting e1 end2))
      (λ c b2. looped b2 (says j end2)))) in
      let K : State → Value → Run State = λ end v. turn_end w.setting (exec w.setting n) e1 again
      (turns w.setting j (exec w.setting n) e1 first again e2) (holds v) end in
      told_bind (exec w.setting n first st) (λ end. evaluated w.setting.program e2 end >>= K end)
      ∙ same_then (run_result (exec w.setting n first st))
      (λ end. run_result (evaluated w.setting.program e2 end >>= K end))
      (λ end. told_then (run_result (tested w.setting e2 end)) (λ c b. G end b)) (λ end.
      told_bind (evaluated w.setting.program e2 end) (K end)
      ∙ same_then (run_result (evaluated w.setting.program e2 end)) (λ v. run_result (K end v)) (λ v. G end (holds v))
      (λ v. end_is j (holds v) end (λ st. told_turns j st))
      ∙ sym (told_holds (evaluated w.setting.program e2 end) (G end)))

  -- with the entry's condition, which is to hold at the first entry and not later
  abbrev enters : Bool → ℕ → State → RunResult State
  enters v j st = told_then (run_result (tested w.setting e1 st)) (λ c b. looped (bool_xor v b) (says j st))

  abbrev after_first : ℕ → State → RunResult State
  after_first j end = told_then (run_result (tested w.setting e2 end))
      (λ c b. ended b (Fine end 0) (told_then (run_result (exec w.setting n again end))
      (λ c end2. enters false j end2)))

  flag_zero : (st : State) (m : Memory) → Flagged w s u false st m → memory_reg m FLAG ≡ 0
  flag_zero st m h = ap (λ z. memory_reg z FLAG) (as_known m _ h.regs_are)

  flag_one : (st : State) (m : Memory) → Flagged w s u true st m → memory_reg m FLAG ≢ 0
  flag_one st m h e = let q : memory_reg m FLAG ≡ 1 = ap (λ z. memory_reg z FLAG) (as_known m _ h.regs_are) in
      omega (arith, e, q)

  nought_zero : (v : Bool) (st : State) (m : Memory) → Flagged w s u v st m → memory_reg m NOUGHT ≡ 0
  nought_zero v st m h = ap (λ z. memory_reg z NOUGHT) (as_known m _ h.regs_are)

  check_passes : (st : State) (m : Memory) → Flagged w s u false st m
      → Will w.im (check LOOP) d m (Quiet (Flagged w s u false st) 2)
  check_passes st m h = will_of w.im _ d m _ _ (runs_passes w.im d (Equal FLAG NOUGHT) LOOP m
      (flag_zero st m h ∙ sym (nought_zero false st m h))) (quiet h (omega arith))

  turn_small : to_tail d + to_head d ≡ 6
  turn_small = go d
    where
      go : (d : Bool) → to_tail d + to_head d ≡ 6
      go false = refl
      go true = refl

  thousand_is : (k c : ℕ) → k ≤ w.rates.steps * c + 0 → k ≤ 1000 * c
  thousand_is k c l = let q : w.rates.steps * c ≡ 1000 * c = ap (λ z. z * c) thousand in omega (arith, q, l)

  of_thousand : (k c x : ℕ) → k ≤ 1000 * c + x → k ≤ w.rates.steps * c + x
  of_thousand k c x l = let q : w.rates.steps * c ≡ 1000 * c = ap (λ z. z * c) thousand in omega (arith, q, l)

  some_steps : (b c k : ℕ) → 1 ≤ c → c ≤ b * k → 1 ≤ k
  some_steps b c zero h l = absurd (omega (arith, h, l))
  some_steps b c (suc k) h l = omega arith

  abbrev Left : ℕ → RunResult State → Outcome → Type 0
  Left j t o = Meets (Flagged w s u true) w.rates j 0 t o

  -- the iterations after an iteration
  onward : {j : ℕ} {t : RunResult State} {o : Outcome} (c k0 : ℕ) → c ≤ w.rates.counts * k0 → 1 ≤ k0 → k0 ≤ 1000 * c
      → Left j t o → Left (suc j) (plus c t) (outcome_after k0 o)
  onward c k0 h one l (fine {c = c'} {k = k} g hc hk) =
      let hk' : k ≤ 1000 * c' = thousand_is k c' hk in
      fine g (two_counts w.rates.counts c c' k0 k h hc) (of_thousand (k0 + k) (c + c') 0 (omega (arith, l, hk')))
  onward c k0 h one l (faults {c = c'} {k = k} hk) = let hk' : k ≤ 1000 * c' = thousand_is k c' hk in
      faults (of_thousand (k0 + k) (c + c') 0 (omega (arith, l, hk')))
  onward {j = j} c k0 h one l (more {k = k} hk) = more (let q : 1 ≤ w.rates.counts * k0 = more_steps w.rates.counts 1 1
      k0 (omega (arith, counts)) one in omega (
        arith,
        hk,
        q,
        mul-add w.rates.counts k0 k,
        mul-add w.rates.counts k 1,
        mul-add w.rates.counts (k0 + k) 1,
      ))

  module _ (pa pb ps pt hd : List Symbol) (h1 : FlagLaw w s e1 pa) (h2 : FlagLaw w s e2 pb)
      (first_does : Does w.im ps d (HasOpenFrame w s u) (HasOpenFrame w s u) w.rates n 0
      (λ st. run_result (exec w.setting n first st)))
      (again_does : Does w.im pt d (HasOpenFrame w s u) (HasOpenFrame w s u) w.rates n 0
      (λ st. run_result (exec w.setting n again st)))
      (hd_is : in_order d (pa ∷ check LOOP ∷ ps ∷ check LOOP ∷ pb ∷ []) ≡ hd) where
    abbrev Rounds : ℕ → Type 0
    Rounds j = (v : Bool) (st : State) (m : Memory) → Flagged w s u v st m
        → Turns w.im FLAG hd pt d m (Left j (enters v j st))

    module _ (j : ℕ) (ih : Rounds j) (fuel : suc j ≤ n) (t : RunResult State) (c1 cs c2 k : ℕ) (st2 : State)
        (t_is : t ≡ plus (c1 + (cs + c2)) (told_then (run_result (exec w.setting n again st2))
        (λ c end2. enters false j end2))) (some : 1 ≤ c1) (counted : c1 + (cs + c2) ≤ w.rates.counts * k)
        (moves : 1 ≤ k) (steps : k ≤ 400 * c1 + (1000 * cs + 400 * c2) + 104) where
      abbrev Q : Outcome → Type 0
      Q o = Left (suc j) t o

      abbrev N : Outcome → Type 0
      N o = Next (λ m2 k2. (memory_reg m2 FLAG ≡ 0) × Turns w.im FLAG hd pt d m2
          (λ o. Q (outcome_after (k + to_tail d + (k2 + to_head d)) o))) (λ o. Q (outcome_after (k + to_tail d) o)) o

      small_tail : to_tail d ≤ 4
      small_tail = let q = turn_small in go d
        where
          go : (d : Bool) → to_tail d ≤ 4
          go false = omega arith
          go true = omega arith

      tail_by : (o : Outcome) (t2 : RunResult State) → run_result (exec w.setting n again st2) ≡ t2
          → Meets (HasOpenFrame w s u) w.rates n 0 t2 o → N o
      tail_by _ _ e (fine {a = end2} {m = m2} {c = ct} {k = kt} r l x) =
          let i : Flagged w s u false end2 m2 = record { regs_are = r.regs_are; open_frame = r.open_frame } in
          let told_is : t ≡ plus (c1 + (cs + c2) + ct) (enters false j end2) = t_is
          ∙ ap (plus (c1 + (cs + c2))) (then_at _ end2 ct (λ end2. enters false j end2) e)
          ∙ plus_plus (c1 + (cs + c2)) ct (enters false j end2) in
          let k0 = k + to_tail d + (kt + to_head d) in
          let paid : c1 + (cs + c2) + ct ≤ w.rates.counts * k0 =
          more_steps w.rates.counts (c1 + (cs + c2) + ct) (k + kt) k0
          (two_counts w.rates.counts (c1 + (cs + c2)) ct k kt counted l) (omega arith) in
          let x' : kt ≤ 1000 * ct = thousand_is kt ct x in (
            flag_zero end2 m2 i,
            turns_more w.im d FLAG hd pt m2 _ _
                (λ o q. subst (λ z. Left (suc j) z (outcome_after k0 o)) (sym told_is)
                (onward (c1 + (cs + c2) + ct) k0 paid (omega (arith, moves))
                (omega (arith, turn_small, x', steps, some)) q)) (ih false end2 m2 i),
          )
      tail_by _ _ e (faults {w = v} {c = ct} {k = kt} x) =
          let told_is : t ≡ Fault v (c1 + (cs + c2) + ct) = t_is
          ∙ ap (plus (c1 + (cs + c2))) (then_fault _ v ct (λ end2. enters false j end2) e) in
          let x' : kt ≤ 1000 * ct = thousand_is kt ct x in
          meets_told _ _ (sym told_is) (faults (of_thousand (k + to_tail d + kt) (c1 + (cs + c2) + ct) 0
          (omega (arith, small_tail, x', steps, some))))
      tail_by _ _ e (more {k = kt} l) =
          let told_is : t ≡ More = t_is ∙ ap (plus (c1 + (cs + c2))) (then_more _ (λ end2. enters false j end2) e) in
          meets_told _ _ (sym told_is) (more (more_steps w.rates.counts (suc j) (kt + 1) (k + to_tail d + kt + 1)
          (omega (arith, fuel, l)) (omega arith)))

      tail_does : (m : Memory) → Flagged w s u false st2 m → Will w.im pt d m N
      tail_does m h =
          will_more w.im pt d m _ _ (λ o q. tail_by o _ refl q)
          (again_does.does st2 m (record { regs_are = h.regs_are; open_frame = h.open_frame }))

    -- after the first condition, if the flag says that it is as it must be
    module _ (v : Bool) (st : State) (c1 k1 : ℕ) (e1_is : run_result (tested w.setting e1 st) ≡ Fine v c1)
        (n1 : c1 ≤ w.rates.counts * k1) (l1 : k1 ≤ 400 * c1 + 50) where
      xor_same : (v : Bool) → bool_xor v v ≡ false
      xor_same true = refl
      xor_same false = refl

      some : 1 ≤ c1
      some = test_costs w.setting e1 st v c1 e1_is

      enters_is : (j : ℕ) → enters v j st ≡ plus c1 (says j st)
      enters_is j = then_at _ v c1 (λ b. looped (bool_xor v b) (says j st)) e1_is
          ∙ ap (λ b. plus c1 (looped b (says j st))) (xor_same v)

      module _ (j : ℕ) (ih : Rounds j) (fuel : suc j ≤ n) where
        abbrev QH : Outcome → Type 0
        QH o = Left (suc j) (enters v (suc j) st) o

        abbrev P : Outcome → Type 0
        P o = Next (After_head w.im FLAG hd pt d QH) QH o

        heading : (a1 k2 a2 k3 cs c2 : ℕ) (st2 : State) (m3 : Memory) (b : Bool)
            → run_result (exec w.setting n first st) ≡ Fine st2 cs → run_result (tested w.setting e2 st2) ≡ Fine b c2
            → Flagged w s u b st2 m3 → a1 ≤ 2 → a2 ≤ 2 → cs ≤ w.rates.counts * k2 → k2 ≤ 1000 * cs
            → c2 ≤ w.rates.counts * k3 → k3 ≤ 400 * c2 + 50 → P (Done m3 (k1 + (a1 + (k2 + (a2 + k3)))))
        heading a1 k2 a2 k3 cs c2 st2 m3 true es e2_is h la lb n2 l2 n3 l3 =
            let told_is : enters v (suc j) st ≡ Fine st2 (c1 + (cs + (c2 + 0))) = enters_is (suc j)
            ∙ ap (plus c1) (then_at _ st2 cs (after_first j) es
            ∙ ap (plus cs) (then_at _ true c2 (λ b. ended b (Fine st2 0)
            (told_then (run_result (exec w.setting n again st2)) (λ c end2. enters false j end2))) e2_is)) in
            let z : c2 + 0 ≤ w.rates.counts * k3 = omega (arith, n3) in
            let paid = two_counts w.rates.counts c1 (cs + (c2 + 0)) k1 (k2 + k3) n1
            (two_counts w.rates.counts cs (c2 + 0) k2 k3 n2 z) in
            inl (
              flag_one st2 m3 h,
              meets_told _ _ (sym told_is) (fine h (more_steps w.rates.counts (c1 + (cs + (c2 + 0))) (k1 + (k2 + k3))
                  (k1 + (a1 + (k2 + (a2 + k3))) + 3) paid (omega arith))
                  (of_thousand _ (c1 + (cs + (c2 + 0))) 0 (omega (arith, some, la, lb, l1, l2, l3)))),
            )
        heading a1 k2 a2 k3 cs c2 st2 m3 false es e2_is h la lb n2 l2 n3 l3 =
            let told_is : enters v (suc j) st ≡ plus (c1 + (cs + c2))
            (told_then (run_result (exec w.setting n again st2)) (λ c end2. enters false j end2)) = enters_is (suc j)
            ∙ ap (plus c1) (then_at _ st2 cs (after_first j) es
            ∙ ap (plus cs) (then_at _ false c2 (λ b. ended b (Fine st2 0)
            (told_then (run_result (exec w.setting n again st2)) (λ c end2. enters false j end2))) e2_is)
            ∙ plus_plus cs c2 _) ∙ plus_plus c1 (cs + c2) _ in
            let paid = two_counts w.rates.counts c1 (cs + c2) k1 (k2 + k3) n1
            (two_counts w.rates.counts cs c2 k2 k3 n2 n3) in
            let moves : 1 ≤ k1 = some_steps w.rates.counts c1 k1 some n1 in
            let k = k1 + (a1 + (k2 + (a2 + k3))) in
            inr (
              flag_zero st2 m3 h,
              tail_does j ih fuel (enters v (suc j) st) c1 cs c2 k st2 told_is some
                  (more_steps w.rates.counts (c1 + (cs + c2)) (k1 + (k2 + k3)) k paid (omega arith))
                  (omega (arith, moves)) (omega (arith, la, lb, l1, l2, l3)) m3 h,
            )

        rest_does : (m : Memory) → Flagged w s u false st m
            → Will w.im (in_order d (check LOOP ∷ ps ∷ check LOOP ∷ pb ∷ [])) d m
            (λ o. P (outcome_after k1 o))
        rest_does m h =
            quiet_then w.im d (Flagged w s u false st) 2 (check LOOP) (ps ∷ check LOOP ∷ pb ∷ [])
            m
            (λ o. P (outcome_after k1 o)) (check_passes st m h) (λ m1 a1 i la.
            step_then w.im d (HasOpenFrame w s u) w.rates n 0 ps (check LOOP ∷ pb ∷ []) m1
            (run_result (exec w.setting n first st)) (λ o. P (outcome_after k1 (outcome_after a1 o)))
            (first_does.does st m1 (record { regs_are = i.regs_are; open_frame = i.open_frame }))
            (λ st2 m2 cs k2 es o2 n2 l2.
            quiet_then w.im d (Flagged w s u false st2) 2 (check LOOP) (pb ∷ []) m2
            (λ o. P (outcome_after k1 (outcome_after a1 (outcome_after k2 o)))) (check_passes st2 m2
            (record { regs_are = o2.regs_are; open_frame = o2.open_frame })) (λ m3 a2 i3 lb.
            step_last w.im d (λ b m4. Flagged w s u b st2 m4) (test_rates w) n 50 pb m3
            (run_result (tested w.setting e2 st2))
            (λ o. P (outcome_after k1 (outcome_after a1 (outcome_after k2 (outcome_after a2 o)))))
            (h2 n d u false st2 m3 i3)
            (λ b m4 c2 k3 e2_is f4 n3 l3. heading a1 k2 a2 k3 cs c2 st2 m4 b es e2_is f4 la lb n2 (thousand_is k2 cs l2)
            n3 l3)
            (λ x c3 k e l.
            let told_is : enters v (suc j) st ≡ Fault x (c1 + (cs + c3)) = enters_is (suc j)
            ∙ ap (plus c1) (then_at _ st2 cs (after_first j) es
            ∙ ap (plus cs) (then_fault _ x c3 (λ b. ended b (Fine st2 0)
            (told_then (run_result (exec w.setting n again st2)) (λ c end2. enters false j end2))) e)) in
            let l2' = thousand_is k2 cs l2 in
            meets_told _ _ (sym told_is) (faults (of_thousand _ (c1 + (cs + c3)) 0
            (omega (arith, some, la, lb, l1, l2', l)))))
            (λ k e l.
            let told_is : enters v (suc j) st ≡ More = enters_is (suc j)
            ∙ ap (plus c1) (then_at _ st2 cs (after_first j) es
            ∙ ap (plus cs) (then_more _ (λ b. ended b (Fine st2 0)
            (told_then (run_result (exec w.setting n again st2)) (λ c end2. enters false j end2))) e)) in
            meets_told _ _ (sym told_is) (more (more_steps w.rates.counts (suc j) (k + 1)
            (k1 + (a1 + (k2 + (a2 + k))) + 1) (omega (arith, fuel, l)) (omega arith))))))
            (λ x cs k e l.
            let told_is : enters v (suc j) st ≡ Fault x (c1 + cs) = enters_is (suc j)
            ∙ ap (plus c1) (then_fault _ x cs (after_first j) e) in
            let l' = thousand_is k cs l in
            meets_told _ _ (sym told_is) (faults (of_thousand _ (c1 + cs) 0 (omega (arith, some, la, l1, l')))))
            (λ k e l.
            let told_is : enters v (suc j) st ≡ More = enters_is (suc j)
            ∙ ap (plus c1) (then_more _ (after_first j) e) in
            meets_told _ _ (sym told_is) (more (more_steps w.rates.counts (suc j) (k + 1) (k1 + (a1 + k) + 1)
            (omega (arith, fuel, l)) (omega arith)))))

    xor_false : (v b : Bool) → bool_xor v b ≡ false → b ≡ v
    xor_false true true e = refl
    xor_false true false e = absurd (cc)
    xor_false false true e = absurd (cc)
    xor_false false false e = refl

    module _ (jj : ℕ) (few : jj ≤ n) (v : Bool) (st : State) where
      abbrev QA : Outcome → Type 0
      QA o = Left jj (enters v jj st) o

      abbrev PA : Outcome → Type 0
      PA o = Next (After_head w.im FLAG hd pt d QA) QA o

      abbrev Rest : Type 0
      Rest = (c1 k1 : ℕ) → run_result (tested w.setting e1 st) ≡ Fine v c1 → c1 ≤ w.rates.counts * k1
          → k1 ≤ 400 * c1 + 50
          → (m : Memory) → Flagged w s u false st m → Will w.im
          (in_order d (check LOOP ∷ ps ∷ check LOOP ∷ pb ∷ [])) d m (λ o. PA (outcome_after k1 o))

      tried : Rest → (f b : Bool) → bool_xor v b ≡ f → (c1 k1 : ℕ) → run_result (tested w.setting e1 st) ≡ Fine b c1
          → c1 ≤ w.rates.counts * k1 → k1 ≤ 400 * c1 + 50 → (m : Memory) → Flagged w s u (bool_xor v b) st m
          → Will w.im (in_order d (check LOOP ∷ ps ∷ check LOOP ∷ pb ∷ [])) d m
          (λ o. PA (outcome_after k1 o))
      tried go true b f_is c1 k1 e n1 l1 m h =
          let i : Flagged w s u true st m = subst (λ z. Flagged w s u z st m) f_is h in
          let told_is : enters v jj st ≡ Fault LOOP (c1 + 0) =
          then_at _ b c1 (λ b. looped (bool_xor v b) (says jj st)) e
          ∙ ap (λ z. plus c1 (looped z (says jj st))) f_is in
          let some = test_costs w.setting e1 st b c1 e in
          let Q1 : Outcome → Type 0 = λ o. PA (outcome_after k1 o) in
          let W1 : Memory → ℕ → Type 0 = λ m1 k. Will w.im (in_order d (ps ∷ check LOOP ∷ pb ∷ [])) d m1
          (λ o. Q1 (outcome_after k o)) in
          will_first w.im d (check LOOP) (ps ∷ check LOOP ∷ pb ∷ []) m Q1
          (will_of w.im _ d m (Trapped LOOP 1) (Next W1 Q1) (runs_fails w.im d (Equal FLAG NOUGHT) LOOP m
          (λ e. flag_one st m i (e ∙ nought_zero true st m i)))
          (meets_told _ _ (sym told_is) (faults (of_thousand _ (c1 + 0) 0
          (omega (arith, some, l1))))))
      tried go false b f_is c1 k1 e n1 l1 m h =
          go c1 k1 (subst (λ z. run_result (tested w.setting e1 st) ≡ Fine z c1) (xor_false v b f_is) e) n1 l1 m
          (subst (λ z. Flagged w s u z st m) f_is h)

      begins : Rest → (m : Memory) → Flagged w s u v st m → Will w.im hd d m PA
      begins go m h =
          subst (λ z. Will w.im z d m PA) hd_is
          (step_then w.im d (λ b m1. Flagged w s u (bool_xor v b) st m1) (test_rates w) n 50 pa
          (check LOOP ∷ ps ∷ check LOOP ∷ pb ∷ []) m (run_result (tested w.setting e1 st)) PA
          (h1 n d u v st m h)
          (λ b m1 c1 k1 e i n1 l1. tried go (bool_xor v b) b refl c1 k1 e n1 l1 m1 i)
          (λ x c k e l.
          let told_is : enters v jj st ≡ Fault x c = then_fault _ x c (λ b. looped (bool_xor v b) (says jj st)) e in
          let cost : 1 ≤ c = fault_costs w.setting e1 st x c e in
          meets_told _ _ (sym told_is) (faults (of_thousand k c 0 (omega (arith, cost, l)))))
          (λ k e l.
          let told_is : enters v jj st ≡ More = then_more _ (λ b. looped (bool_xor v b) (says jj st)) e in
          meets_told _ _ (sym told_is) (more (omega (arith, few, l)))))

    rounds : (j : ℕ) → j ≤ n → Rounds j
    rounds zero l v st m h =
        turn w.im d FLAG hd pt m _ (begins zero l v st (λ c1 k1 e n1 l1 m1 i.
        let told_is : enters v zero st ≡ More = enters_is v st c1 k1 e n1 l1 zero in
        will_of w.im _ d m1 _ _ (runs_still w.im _ d m1) (meets_told _ _ (sym told_is) (more (omega arith)))) m h)
    rounds (suc j) l v st m h =
        turn w.im d FLAG hd pt m _ (begins (suc j) l v st (λ c1 k1 e n1 l1 m1 i. rest_does v st c1 k1 e n1 l1 j
        (rounds j (omega arith)) l m1 i) m h)

    -- the loop, entered with the flag 1
    loop_does : (st : State) (m : Memory) → Flagged w s u true st m
        → Will w.im (loop_cells FLAG hd pt) d m (Meets (Flagged w s u true) w.rates n 3 (enters true n st))
    loop_does st m h = will_loop w.im d FLAG hd pt m _ (flag_one st m h)
        (turns_more w.im d FLAG hd pt m _ _ (λ o q. entered q) (rounds n (omega arith) true st m h))
      where
        entered : {t : RunResult State} {o : Outcome} → Meets (Flagged w s u true) w.rates n 0 t o
            → Meets (Flagged w s u true) w.rates n 3 t (outcome_after 3 o)
        entered (fine {k = k} g x y) = fine g (omega (arith, mul-add w.rates.counts 3 k, x)) (omega (arith, y))
        entered (faults y) = faults (omega (arith, y))
        entered (more {k = k} x) = more (omega (
          arith,
          mul-add w.rates.counts 3 k,
          mul-add w.rates.counts k 1,
          mul-add w.rates.counts (3 + k) 1,
          x,
        ))

    pub whole_loop : (st : State) (m : Memory) → HasOpenFrame w s u st m
        → Will w.im (around (line (flips ∷ [])) (loop_cells FLAG hd pt)) d m
        (Meets (HasOpenFrame w s u) w.rates (suc n) 0 (plus 1 (enters true n st)))
    whole_loop st m h =
        let ob = w.object_of u in
        let fr = w.frame_of u in
        let cs = m.cells in
        let t = enters true n st in
        let all = wraps_spent w.im d (line (flips ∷ [])) (loop_cells FLAG hd pt) (mk 0 ob fr 0 0 0 0 0 cs)
        (mk 0 ob fr 0 0 0 1 0 cs) (Flagged w s u true) (HasOpenFrame w s u) w.rates n 3 1 1 1 0 t (λ a. Fine a 0) counts
        (omega arith) (omega (arith, thousand))
        (will_row w.im false (flips ∷ []) 1 _ _ (next refl (omega arith) refl here))
        (loop_does st _ (record { regs_are = refl; open_frame = h.open_frame }))
        (λ a m2 c e r. subst (λ z. Will w.im (line (flips ∷ [])) true z
        (Meets (HasOpenFrame w s u) w.rates (n - c) 1 (Fine a 0))) (sym (as_known m2 _ r.regs_are))
        (will_more w.im _ true _ _ _ (λ o q. subst (Meets (HasOpenFrame w s u) w.rates (n - c) 1 (Fine a 0)) (sym q)
        (fine (record { regs_are = refl; open_frame = r.open_frame }) (omega arith) (omega arith)))
        (will_row w.im true (flips ∷ []) 1 _ _ (next refl (omega arith) refl here)))) in
        let one_more : n + 1 ≡ suc n = omega arith in
        subst (λ z. Will w.im (around (line (flips ∷ [])) (loop_cells FLAG hd pt)) d z
        (Meets (HasOpenFrame w s u) w.rates (suc n) 0 (plus 1 t))) (sym (as_known m _ h.regs_are))
        (will_more w.im _ d _ _ _ (λ o q. meets_told _ _ (ap (plus 1) (alone t))
        (subst (λ k. Meets (HasOpenFrame w s u) w.rates k 0 (plus 1 (told_then t (λ c a. Fine a 0))) o) one_more q))
        all)

-- ---- the law

module _ (w : World) (thousand : w.rates.steps ≡ 1000) (counts : 1 ≤ w.rates.counts) (s : Scope) (at : ℕ)
    (entry : Expression) (first again : Statements) (exit : Expression) (pe pf pg px : List Symbol)
    (te : TestLaw w s entry pe) (tx : TestLaw w s exit px) (hf : BlockLaw w s first pf) (hg : BlockLaw w s again pg)
  where
    he : FlagLaw w s entry pe
    he = test_flags w s entry pe te

    hx : FlagLaw w s exit px
    hx = test_flags w s exit px tx

    abbrev chk : List Symbol
    chk = check LOOP

    abbrev head_code : List Symbol
    head_code = pe ++ (chk ++ (pf ++ (chk ++ px)))

    -- what one statement says
    told_from : (n : ℕ) (d : Bool) (u : w.Under) (e1 e2 : Expression) (body1 body2 : Statements) (st : State)
        → run_result (one w.setting n (From at e1 body1 body2 e2) st)
        ≡ plus 1 (enters w thousand counts s u d e1 e2 body1 body2 n true n st)
    told_from n d u e1 e2 body1 body2 st =
        let go : Value → Run State = λ v. fault_if LOOP (not (holds v)) >>= λ z. turns w.setting n
        (exec w.setting n) e1 body1 body2 e2 st in
        told_after 1 (evaluated w.setting.program e1 st >>= go)
        ∙ ap (plus 1) (
        told_bind (evaluated w.setting.program e1 st) go
        ∙ same_then (run_result (evaluated w.setting.program e1 st)) (λ v. run_result (go v))
        (λ v. looped w thousand counts s u d e1 e2 body1 body2 n (not (holds v))
        (says w thousand counts s u d e1 e2 body1 body2 n n st))
        (λ v. looped_is w thousand counts s u d e1 e2 body1 body2 n n (not (holds v)) st
        (told_turns w thousand counts s u d e1 e2 body1 body2 n n st))
        ∙ sym (told_holds (evaluated w.setting.program e1 st)
        (λ b. looped w thousand counts s u d e1 e2 body1 body2 n (not b)
        (says w thousand counts s u d e1 e2 body1 body2 n n st)))
        )

    runs_from : (n : ℕ) → Owes w (suc n) → (d : Bool) (u : w.Under) (st : State) (m : Memory) → HasOpenFrame w s u st m
        → Will w.im (from_code pe pf pg px) d m (Meets (HasOpenFrame w s u) w.rates (suc n) 0
        (run_result (one w.setting n (turned_statement d (From at entry first again exit)) st)))
    runs_from n owes false u st m h =
        let less : Owes w n = λ k l. owes k (omega arith) in
        let hd_is : in_order false (pe ∷ chk ∷ pf ∷ chk ∷ px ∷ []) ≡ head_code =
        ap (λ z. pe ++ (chk ++ (pf ++ (chk ++ z)))) (append-nil px) in
        will_more w.im _ false m _ _ (λ o q. meets_told _ _ (sym (told_from n false u entry exit first again st)) q)
        (whole_loop w thousand counts s u false entry exit first again n pe px pf pg head_code he hx (hf n less false u)
        (hg n less false u) hd_is st m h)
    runs_from n owes true u st m h =
        let less : Owes w n = λ k l. owes k (omega arith) in
        let hd_is : in_order true (px ∷ chk ∷ pf ∷ chk ∷ pe ∷ []) ≡ head_code =
        append_assoc ((pe ++ chk) ++ pf) chk px ∙ append_assoc (pe ++ chk) pf (chk ++ px)
        ∙ append_assoc pe chk (pf ++ (chk ++ px)) in
        will_more w.im _ true m _ _ (λ o q. meets_told _ _ (sym
        (told_from n true u exit entry (inverse first) (inverse again) st)) q)
        (whole_loop w thousand counts s u true exit entry (inverse first) (inverse again) n px pe pf pg head_code hx he
        (hf n less true u) (hg n less true u) hd_is st m h)

    -- the code of a loop
    pub from_law : StmtLaw w s (From at entry first again exit) (from_code pe pf pg px)
    from_law n owes d u = record { does = λ st m h. runs_from n owes d u st m h }
