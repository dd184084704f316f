-- An image whose main fragment does what the program says follows it.
use Rattle.std.proofs.Common.{◌≡◌, ◌≢◌, ℕ, zero, suc, ◌+◌, ◌-◌, ◌*◌, ◌<◌, ◌≤◌, List, length, Option, Some, None, refl}
use Rattle.std.proofs.Common.{sym, ap, ◌∙◌, subst, arith}
use Rattle.std.specs.Prelude.{pos, ◌^◌, false}
use Rattle.refine_calls.specs.rpp_words.declared.input.FieldWord.{FieldWord}
use Rattle.refine_calls.specs.rpp_words.declared.input.Limits.{Limits}
use Rattle.refine_calls.specs.rpp_tree.Tree.{Source}
use Rattle.refine_calls.specs.pisa_isa.declared.cell.Cell.{Cell}
use Rattle.refine_calls.specs.pisa_isa.declared.machine.Stop.{Stop}
use Rattle.refine_calls.specs.pisa_isa.declared.machine.Stop.TheVariants.{Finished, Returned, Trap, BadAddress, OffCode}
use Rattle.refine_calls.specs.pisa_isa.declared.machine.Stop.TheVariants.{Bound}
use Rattle.refine_calls.specs.pisa_isa.Machine.{State as MachineState, fetch, stop, stop_at, next, Memory}
use Rattle.refine_calls.specs.pisa_isa.Image.{Segments}
use Rattle.refine_calls.specs.pisa_isa.Loaded.{loaded, loaded_state}
use Rattle.refine_calls.specs.pisa_isa.Runs.{End, run, steps, unless_stop, after_step, at_bound}
use Rattle.refine_calls.specs.pisa_isa.Ends.{MeetsEndsOnce}
use Rattle.refine_calls.proofs.pisa_isa_laws.Longer.{run-longer, clean_of_ends}
use Rattle.refine_calls.specs.paired_code.declared.part.Symbol.{Symbol}
use Rattle.refine_calls.specs.paired_code.Machine.{Image, state}
use Rattle.refine_calls.specs.paired_code.Pieces.{Outcome, Done, Trapped, Bad, Still, Will}
use Rattle.refine_calls.specs.paired_code.Link.{IsToldBy, Whole, Linked}
use Rattle.refine_calls.specs.paired_code.Does.{Rates, RunResult, Fine, Fault, More, Meets, fine, faults, more}
use Rattle.refine_calls.proofs.paired_code_laws.Whole.{whole_will}
use Rattle.static_layout.specs.roopl_semantics.Run.{Run, Done as DoneRun, Fault as FaultRun, More as MoreRun}
use Rattle.static_layout.specs.roopl_semantics.Store.{State}
use Rattle.static_layout.specs.roopl_semantics.Execution.{Setting, exec}
use Rattle.static_layout.specs.roopl_semantics.Source.{main_body, starting, within, GivesDone, GivesFault}
use Rattle.static_layout.specs.roopl_semantics.Layout.{layout}
use Rattle.static_layout.specs.roopl_semantics.StandsFor.{Follows, run_of, IsFinalState, EndsAt, IsEnough, cost_of}
use Rattle.static_layout.proofs.roopl_semantics_laws.MoreFuel.{within_done, within_fault, done_within, fault_within}
use Rattle.static_layout.proofs.roopl_semantics_laws.CostBound.{exec_done_within, exec_fault_within}
use Rattle.refine_calls.specs.refine_form.Form.{run_result}
use Rattle.refine_calls.specs.refine_form.Worlds.{rates_of}
use Rattle.refine_calls.specs.method_calls.Laws.{quiet}

-- ---- runs

none_of : (o : Option Stop) (x : Option MachineState) (s : MachineState) → unless_stop o x ≡ Some s
    → (o ≡ None) × (x ≡ Some s)
none_of None x s e = (refl, e)
none_of (Some w) x s e = absurd (cc)

here_is : (o : Option Cell) (s : MachineState) → stop_at o s ≡ None → (at_bound o s).why ≡ Bound
here_is None s e = absurd (cc)
here_is (Some c) s e = refl

-- a run that makes more steps is cut by a lower bound
bound_before : (code : List Cell) (m j : ℕ) (s s' : MachineState) → steps code (m + suc j) s ≡ Some s'
    → (run code m s).why ≡ Bound
bound_before code zero j s s' e =
    let z : 0 + suc j ≡ suc j = omega arith in
    here_is (fetch code s.pc) s (none_of (stop code s) (steps code j (next code s)) s'
    (ap (λ k. steps code k s) (sym z) ∙ e)).0
bound_before code (suc m) j s s' e =
    let z : suc m + suc j ≡ suc (m + suc j) = omega arith in
    let q = none_of (stop code s) (steps code (m + suc j) (next code s)) s' (ap (λ k. steps code k s) (sym z) ∙ e) in
    ap (λ o. (after_step o s (run code m (next code s))).why) q.0 ∙ bound_before code m j (next code s) s' q.1

-- ---- what the source gives

told_done : {A : Type 0} (r : Run A) (a : A) (c : ℕ) → run_result r ≡ Fine a c → r ≡ DoneRun a c
told_done (DoneRun a2 c2) a c e = let h : a2 ≡ a = cc in let k : c2 ≡ c = cc in ap (λ z. DoneRun z c2) h
    ∙ ap (DoneRun a) k
told_done (FaultRun w c2) a c e = absurd (cc)
told_done MoreRun a c e = absurd (cc)

told_fault : {A : Type 0} (r : Run A) (w c : ℕ) → run_result r ≡ Fault w c → r ≡ FaultRun w c
told_fault (DoneRun a2 c2) w c e = absurd (cc)
told_fault (FaultRun w2 c2) w c e = let h : w2 ≡ w = cc in let k : c2 ≡ c = cc in ap (λ z. FaultRun z c2) h
    ∙ ap (FaultRun w) k
told_fault MoreRun w c e = absurd (cc)

told_more : {A : Type 0} (r : Run A) → run_result r ≡ More → r ≡ MoreRun
told_more (DoneRun a2 c2) e = absurd (cc)
told_more (FaultRun w2 c2) e = absurd (cc)
told_more MoreRun e = refl

-- the cost of a run that is over within some fuel is its own
done_cost : (fuel cost : ℕ) (r : Run State) (a : State) (c : ℕ) → r ≡ DoneRun a c → cost_of (within fuel r) ≡ Some cost
    → c ≡ cost
done_cost fuel cost r a c e h = by (within fuel r) refl
  where
    by : (x : Run State) → within fuel r ≡ x → c ≡ cost
    by (DoneRun a2 c2) y = let q = within_done fuel r a2 c2 y in let i : Some c2 ≡ Some cost = sym (ap cost_of y)
        ∙ h in let j : c2 ≡ cost = cc in let k : DoneRun a c ≡ DoneRun a2 c2 = sym e ∙ q.is in let l : c ≡ c2 = cc in l
        ∙ j
    by (FaultRun w2 c2) y = let q = within_fault fuel r w2 c2 y in let k : DoneRun a c ≡ FaultRun w2 c2 = sym e
        ∙ q.is in absurd (cc)
    by MoreRun y = let i : None ≡ Some cost = sym (ap cost_of y) ∙ h in absurd (cc)

fault_cost : (fuel cost : ℕ) (r : Run State) (w c : ℕ) → r ≡ FaultRun w c → cost_of (within fuel r) ≡ Some cost
    → c ≡ cost
fault_cost fuel cost r w c e h = by (within fuel r) refl
  where
    by : (x : Run State) → within fuel r ≡ x → c ≡ cost
    by (DoneRun a2 c2) y = let q = within_done fuel r a2 c2 y in let k : FaultRun w c ≡ DoneRun a2 c2 = sym e
        ∙ q.is in absurd (cc)
    by (FaultRun w2 c2) y = let q = within_fault fuel r w2 c2 y in let i : Some c2 ≡ Some cost = sym (ap cost_of y)
        ∙ h in let j : c2 ≡ cost = cc in let k : FaultRun w c ≡ FaultRun w2 c2 = sym e
        ∙ q.is in let l : c ≡ c2 = cc in l ∙ j
    by MoreRun y = let i : None ≡ Some cost = sym (ap cost_of y) ∙ h in absurd (cc)

module _ (program : Source) (image : Segments) (places : List ℕ) (main : List Symbol) (routines : List (List Symbol))
    (linked : Linked main routines (record { code = image.code; routines = places })) (short : 1 + length main < 2 ^ 30)
    (limits : Limits) (input : List FieldWord) where
  abbrev im : Image
  im = record { code = image.code; routines = places }

  abbrev setting : Setting
  setting = record { program = program; limits = limits }

  abbrev b : Rates
  b = rates_of setting

  abbrev first : Memory
  first = quiet (loaded image.statics limits input)

  -- what main's fragment leaves
  abbrev pub Final : State → Memory → Type 0
  Final end m = m ≡ quiet (layout program limits image.statics end.store end.log)

  abbrev said : ℕ → Run State
  said n = exec setting n (main_body program) (starting program input)

  module _ (main_does : (n : ℕ) → Will im main false first (Meets Final b n 900 (run_result (said n)))) where
    -- how the image's run goes, by what the source says with fuel n
    data Case (n : ℕ) : Type 0 where
      finishes : (end : State) (m' : Memory) (c k : ℕ) → said n ≡ DoneRun end c → Final end m' → k ≤ 1000 * c + 900
          → ((j : ℕ) → run_of image limits input (k + 2 + j)
          ≡ record { why = Finished; spent = k + 2; last = state (pos (1 + length main)) 0 false m' }) → Case n
      traps : (w c k : ℕ) (s : MachineState) → said n ≡ FaultRun w c → k ≤ 1000 * c + 900
          → ((j : ℕ) → run_of image limits input (k + 2 + j) ≡ record { why = Trap w; spent = k + 2; last = s })
          → Case n
      goes_on : (k : ℕ) (s : MachineState) → said n ≡ MoreRun → n ≤ b.counts * (k + 1)
          → steps image.code (k + 1) (loaded_state image limits input) ≡ Some s → Case n

    case_of : (n : ℕ) (t : RunResult State) → run_result (said n) ≡ t → (o : Outcome)
        → Whole image.code (1 + length main) first o
        → Meets Final b n 900 t o → Case n
    case_of n _ e _ wh (fine {a = end} {m = m'} {c = c} {k = k} f l u) =
        finishes end m' c k (told_done (said n) end c e) f u (λ j. wh.goes j)
    case_of n _ e _ wh (faults {w = w} {c = c} {k = k} u) =
        traps w c k wh.goes.0 (told_fault (said n) w c e) u (λ j. wh.goes.1 j)
    case_of n _ e _ wh (more {k = k} l) = goes_on k wh.goes.0 (told_more (said n) e) l wh.goes.1

    whole_for : (n : ℕ) → (o : Outcome) × Whole image.code (1 + length main) first o
        × Meets Final b n 900 (run_result (said n)) o
    whole_for n = whole_will main routines im first (Meets Final b n 900 (run_result (said n))) linked short
        (main_does n)

    case : (n : ℕ) → Case n
    case n = let q = whole_for n in case_of n (run_result (said n)) refl q.0 q.1 q.2

    -- enough fuel to decide a run of m steps
    abbrev fuel_for : ℕ → ℕ
    fuel_for m = b.counts * (m + 2) + 1

    far : (q m k : ℕ) → q * (m + 2) + 1 ≤ q * (k + 1) → m + 1 ≤ k
    far q m k h = grind arith

    longer : (m i : ℕ) → (run_of image limits input m).why ≢ Bound
        → run_of image limits input (m + i) ≡ run_of image limits input m
    longer m i h = run-longer image.code m i (loaded_state image limits input) h

    -- a run that is not cut, is one of two
    data Over (m : ℕ) : Type 0 where
      finished : (end : State) (m' : Memory) (n c : ℕ) → said n ≡ DoneRun end c → Final end m'
          → (run_of image limits input m).why ≡ Finished → (run_of image limits input m).last
          ≡ state (pos (1 + length main)) 0 false m' → Over m
      trapped : (w n c : ℕ) → said n ≡ FaultRun w c → (run_of image limits input m).why ≡ Trap w → Over m

    over_by : (m : ℕ) → (run_of image limits input m).why ≢ Bound → Case (fuel_for m) → Over m
    over_by m h (finishes end m' c k d f u r) =
        let z : k + 2 + m ≡ m + (k + 2) = omega arith in
        let e = sym (longer m (k + 2) h) ∙ ap (run_of image limits input) (sym z) ∙ r m in
        finished end m' (fuel_for m) c d f (ap (λ x. x.why) e) (ap (λ x. x.last) e)
    over_by m h (traps w c k s d u r) =
        let z : k + 2 + m ≡ m + (k + 2) = omega arith in
        let e = sym (longer m (k + 2) h) ∙ ap (run_of image limits input) (sym z) ∙ r m in
        trapped w (fuel_for m) c d (ap (λ x. x.why) e)
    over_by m h (goes_on k s d l st) =
        let deep : m + 1 ≤ k = far b.counts m k l in
        let z : m + suc (k - m) ≡ k + 1 = omega arith in
        absurd (h (bound_before image.code m (k - m) (loaded_state image limits input) s
        (ap (λ i. steps image.code i (loaded_state image limits input)) z ∙ st)))

    over : (m : ℕ) → (run_of image limits input m).why ≢ Bound → Over m
    over m h = over_by m h (case (fuel_for m))

    -- ---- START and FINISH are met once

    told_long : (m : ℕ) (t : RunResult State) (o : Outcome) → Meets Final b (fuel_for m) 900 t o → IsToldBy o m
    told_long m t (Done m' k) h = tt
    told_long m t (Trapped v k) h = tt
    told_long m t (Bad v k) h = tt
    told_long m t (Still k) (more l) = let deep : m + 1 ≤ k = far b.counts m k l in omega (arith, deep)

    met : (m : ℕ) → MeetsEndsOnce image.code m (loaded_state image limits input)
    met m = let q = whole_for (fuel_for m) in q.1.ends_once m (told_long m (run_result (said (fuel_for m))) q.0 q.2)

    -- ---- what the source gives

    gives_done : (end : State) (n c : ℕ) → said n ≡ DoneRun end c → GivesDone program limits input end
    gives_done end n c e = record {
      fuel = c;
      cost = c;
      done = done_within c (said c) end c
          (exec_done_within setting n c (main_body program) (starting program input) end c e (omega arith))
          (omega arith);
    }

    gives_fault : (w n c : ℕ) → said n ≡ FaultRun w c → GivesFault program limits input w
    gives_fault w n c e = record {
      fuel = c;
      cost = c;
      faults = fault_within c (said c) w c
          (exec_fault_within setting n c (main_body program) (starting program input) w c e (omega arith))
          (omega arith);
    }

    not_bound : (m : ℕ) (why : Stop) → (run_of image limits input m).why ≡ why → why ≢ Bound
        → (run_of image limits input m).why ≢ Bound
    not_bound m why e n h = n (sym e ∙ h)

    -- ---- the steps that are enough

    enough_by : (k cost : ℕ) (e : End) → k ≤ 1000 * cost + 900 → ((j : ℕ) → run_of image limits input (k + 2 + j) ≡ e)
        → e.why ≢ Bound → IsEnough image limits input (1000 * cost + 1000)
    enough_by k cost e u r n = record {
      ends = λ m h x.
          let z : k + 2 + (m - (k + 2)) ≡ m = omega arith in
          n (sym (ap (λ q. q.why) (r (m - (k + 2)))) ∙ ap (λ i. (run_of image limits input i).why) z ∙ x);
    }

    in_time : (cost : ℕ) → (at : EndsAt program limits input cost) → Case at.fuel
        → IsEnough image limits input (1000 * cost + 1000)
    in_time cost at (finishes end m' c k d f u r) = let e = done_cost at.fuel cost (said at.fuel) end c d at.over in
        enough_by k cost _ (omega (arith, e, u)) r (λ h. cc)
    in_time cost at (traps w c k s d u r) = let e = fault_cost at.fuel cost (said at.fuel) w c d at.over in
        enough_by k cost _ (omega (arith, e, u)) r (λ h. cc)
    in_time cost at (goes_on k s d l st) = let i : None ≡ Some cost = ap (λ r. cost_of (within at.fuel r)) (sym d)
        ∙ at.over in absurd (cc)

    -- ---- how it ends

    final_of : (m : ℕ) → (run_of image limits input m).why ≡ Finished → Over m
        → IsFinalState program image limits input (run_of image limits input m).last
    final_of m h (finished end m' n c d f y l) = record {
      end = end;
      gives = gives_done end n c d;
      cells = ap (λ s. s.cells) l ∙ ap (λ (x : Memory). x.cells) f;
      registers = ap (λ s. s.regs) l ∙ ap (λ (x : Memory). x.regs) f;
      branch = ap (λ s. s.br) l;
    }
    final_of m h (trapped w n c d y) = absurd (cc)

    fault_of : (m code : ℕ) → (run_of image limits input m).why ≡ Trap code → Over m
        → GivesFault program limits input code
    fault_of m code h (finished end m' n c d f y l) = absurd (cc)
    fault_of m code h (trapped w n c d y) = let e : Trap w ≡ Trap code = sym y
        ∙ h in let k : w ≡ code = cc in subst (GivesFault program limits input) k (gives_fault w n c d)

    other : (m : ℕ) (why : Stop) → (run_of image limits input m).why ≡ why → Finished ≢ why → ((w : ℕ) → Trap w ≢ why)
        → Over m → ⊥
    other m why h nf nt (finished end m' n c d f y l) = nf (sym y ∙ h)
    other m why h nf nt (trapped w n c d y) = nt w (sym y ∙ h)

    pub follows : Follows program image limits input
    follows = record {
      finished = λ m h. final_of m h (over m (not_bound m Finished h (λ e. cc)));
      clean = λ m h. clean_of_ends image.code m (loaded_state image limits input) h (met m);
      trapped = λ m code h. fault_of m code h (over m (not_bound m (Trap code) h (λ e. cc)));
      not_returned = λ m h. other m Returned h (λ e. cc) (λ w e. cc) (over m (not_bound m Returned h (λ e. cc)));
      in_code = λ m at h. other m (OffCode at) h (λ e. cc) (λ w e. cc) (over m (not_bound m (OffCode at) h (λ e. cc)));
      in_memory = λ m a h. other m (BadAddress a) h (λ e. cc) (λ w e. cc)
          (over m (not_bound m (BadAddress a) h (λ e. cc)));
      in_time = λ cost at. in_time cost at (case at.fuel);
      meets_ends_once = met;
    }
