-- The runs of programs on the machine are the source.
use Rattle.std.proofs.Common.{◌≡◌, ◌<◌, ◌≤◌, ℕ, zero, suc, ◌+◌, refl, sym, ap, subst, ◌∙◌, arith, List, [], ◌⊎◌, inl}
use Rattle.std.proofs.Common.{inr}
use Rattle.meaning_points.specs.rpp_words.declared.input.FieldWord.{FieldWord}
use Rattle.meaning_points.specs.rpp_words.declared.input.Limits.{Limits}
use Rattle.meaning_points.specs.rpp_tree.Tree.{Source, End}
use Rattle.meaning_points.specs.roopl_semantics.Run.{Run, Done, Fault, More, after_cost, ◌>>=◌, give}
use Rattle.meaning_points.specs.roopl_semantics.Store.{State}
use Rattle.meaning_points.specs.roopl_semantics.Source.{main_body, starting, source}
use Rattle.meaning_points.specs.roopl_semantics.Execution.{Setting, exec}
use Rattle.meaning_points.proofs.roopl_semantics_laws.CostBound.{exec_done_within, exec_fault_within}
use Rattle.meaning_points.proofs.roopl_semantics_laws.MoreFuel.{within_done, within_fault, done_within, fault_within}
use Rattle.meaning_points.proofs.roopl_semantics_laws.MoreFuel.{cost_or_zero}
use Rattle.meaning_points.specs.Points.{points}
use Rattle.meaning_points.specs.Trail.{trail}
use Rattle.meaning_machine.specs.Machine.{Config, closing, stepped, next, walk}
use Rattle.meaning_machine.specs.MachineLaws.{Arrives, Breaks, MachineFollows}
use Rattle.meaning_machine.specs.SourceLaws.{set_for, start_config, end_config, Exceeds, Outlasts, SourceIsMachine}
use Rattle.meaning_machine.proofs.Steps.{plus, after_zero, walk_plus}
use Rattle.meaning_machine.proofs.Following.{followed}

-- ---- parts of runs

abbrev code_of : {A : Type 0} → Run A → ℕ
code_of (Done result cost) = 0
code_of (Fault code cost) = code
code_of More = 0

abbrev state_or : State → Run Config → State
state_or st (Done x cost) = x.state
state_or st (Fault code cost) = st
state_or st More = st

-- ---- of two numbers of steps one goes on from the other

data Onwards (a b : ℕ) : Type 0 where
  up : (d : ℕ) → b ≡ plus a d → Onwards a b
  down : (d : ℕ) → a ≡ plus b d → Onwards a b

onwards_suc : (a b : ℕ) → Onwards a b → Onwards (suc a) (suc b)
onwards_suc a b (up d e) = up d (ap suc e)
onwards_suc a b (down d e) = down d (ap suc e)

onwards : (a b : ℕ) → Onwards a b
onwards zero b = up b refl
onwards (suc a) zero = down (suc a) refl
onwards (suc a) (suc b) = onwards_suc a b (onwards a b)

-- ---- runs that are over stay as they are

abbrev pub IsEnd : Run Config → Type 0
IsEnd (Done x cost) = (x.rest ≡ End) × (x.around ≡ [])
IsEnd (Fault code cost) = Unit {0}
IsEnd More = ⊥

exceeds_after : (fuel c : ℕ) (r : Run Config) → IsEnd (after_cost c r) → fuel < c → Exceeds fuel (after_cost c r)
exceeds_after fuel c (Done x cost) end h = omega arith
exceeds_after fuel c (Fault code cost) end h = omega arith
exceeds_after fuel c More end h = end

exceeds_on : (fuel : ℕ) (r : Run Config) (f : Config → Run Config) → IsEnd (r >>= f) → Exceeds fuel r
    → Exceeds fuel (r >>= f)
exceeds_on fuel (Done x cost) f end h = exceeds_after fuel cost (f x) end h
exceeds_on fuel (Fault code cost) f end h = h
exceeds_on fuel More f end h = h

within_or_above : (a b : ℕ) → (a ≤ b) ⊎ (b < a)
within_or_above zero b = inl (omega arith)
within_or_above (suc a) zero = inr (omega arith)
within_or_above (suc a) (suc b) = elim (within_or_above a b) [ inl h ↦ inl (omega arith) | inr h ↦ inr (omega arith) ]

module _ (setting : Setting) where
  pub stays_next : (x : Config) → x.rest ≡ End → x.around ≡ [] → next setting x ≡ give x
  stays_next x rest around = ap (stepped setting x) rest ∙ ap (closing setting x) around

  stays : (d : ℕ) (x : Config) → x.rest ≡ End → x.around ≡ [] → walk setting d x ≡ give x
  stays zero x rest around = refl
  stays (suc d) x rest around =
      ap (λ r. r >>= walk setting d) (stays_next x rest around) ∙ after_zero (walk setting d x) ∙ stays d x rest around

  end_stays : (d : ℕ) (r : Run Config) → IsEnd r → r >>= walk setting d ≡ r
  end_stays d (Done x cost) end =
      ap (after_cost cost) (stays d x end.0 end.1) ∙ ap (λ n. Done x n)
      (let same : cost + 0 ≡ cost = omega arith in same)
  end_stays d (Fault code cost) end = refl
  end_stays d More end = absurd end

  -- from a run that is over no steps lead on
  pub ended_by : (m k d : ℕ) (x : Config) → k ≡ plus m d → IsEnd (walk setting m x)
      → walk setting k x ≡ walk setting m x
  ended_by m k d x e end =
      ap (λ n. walk setting n x) e ∙ walk_plus setting m d x ∙ end_stays d (walk setting m x) end

  same_end : (m k : ℕ) (x : Config) → IsEnd (walk setting m x) → IsEnd (walk setting k x)
      → walk setting m x ≡ walk setting k x
  same_end m k x one two = elim (onwards m k) [
    | up d e ↦ sym (ended_by m k d x e one)
    | down d e ↦ ended_by k m d x e two
  ]

  -- and none costs more
  within_end : (fuel m k : ℕ) (x : Config) → IsEnd (walk setting m x) → Exceeds fuel (walk setting k x)
      → Exceeds fuel (walk setting m x)
  within_end fuel m k x end h = elim (onwards m k) [
    | up d e ↦ subst (Exceeds fuel) (ended_by m k d x e end) h
    | down d e ↦
        let on : walk setting m x ≡ walk setting k x >>= walk setting d = ap (λ n. walk setting n x) e
        ∙ walk_plus setting k d x in
        subst (Exceeds fuel) (sym on)
        (exceeds_on fuel (walk setting k x) (walk setting d) (subst IsEnd on end) h)
  ]

  -- and none is aborted
  not_broken : (m k : ℕ) (x : Config) → IsEnd (walk setting m x) → walk setting k x ≡ More → ⊥
  not_broken m k x end h = elim (onwards m k) [
    | up d e ↦ subst IsEnd (sym (ended_by m k d x e end) ∙ h) end
    | down d e ↦
        let off : walk setting m x ≡ More = ap (λ n. walk setting n x) e ∙ walk_plus setting k d x
        ∙ ap (λ r. r >>= walk setting d) h in
        subst IsEnd off end
  ]

  pub ends_at : (m : ℕ) (x : Config) (r : Run Config) → walk setting m x ≡ r → IsEnd r → IsEnd (walk setting m x)
  ends_at m x r e end = subst IsEnd (sym e) end

-- ---- the law

module _ (program : Source) (limits : Limits) (input : List FieldWord) (fuel : ℕ) where
  abbrev here : Setting
  here = set_for program limits

  abbrev start : Config
  start = start_config program input

  abbrev first : State
  first = starting program input

  abbrev pub run : ℕ → Run State
  run n = exec here n (main_body program) first

  pub follows : (n : ℕ) → MachineFollows here n start (end_config program) (run n)
      (points here n 0 (main_body program) first)
  follows n = followed here n 0 End (main_body program) [] first

  pub follows_as : (n : ℕ) (r : Run State) → run n ≡ r
      → MachineFollows here n start (end_config program) r (points here n 0 (main_body program) first)
  follows_as n r e =
      let P : Run State → Type 0 = λ r. MachineFollows here n start (end_config program) r
      (points here n 0 (main_body program) first) in
      subst P e (follows n)

  done : (end : State) (cost : ℕ) → source program limits input fuel ≡ Done end cost
      → Arrives here start (end_config program end) cost (trail program limits input fuel).points
  done end cost e = follows_as fuel (Done end cost) (within_done fuel (run fuel) end cost e).is

  fault : (code cost : ℕ) → source program limits input fuel ≡ Fault code cost
      → Breaks here start code cost (trail program limits input fuel).points
  fault code cost e = follows_as fuel (Fault code cost) (within_fault fuel (run fuel) code cost e).is

  -- what is over with more fuel is over with this, if it costs no more
  done_sooner : (end : State) (cost : ℕ) → run (suc fuel) ≡ Done end cost → cost ≤ fuel
      → source program limits input fuel ≡ Done end cost
  done_sooner end cost e h = done_within fuel (run fuel) end cost
      (exec_done_within here (suc fuel) fuel (main_body program) first end cost e h) h

  fault_sooner : (code cost : ℕ) → run (suc fuel) ≡ Fault code cost → cost ≤ fuel
      → source program limits input fuel ≡ Fault code cost
  fault_sooner code cost e h = fault_within fuel (run fuel) code cost
      (exec_fault_within here (suc fuel) fuel (main_body program) first code cost e h) h

  outlasts : (steps : ℕ) (r : Run Config) → walk here steps start ≡ r → Exceeds fuel r → Outlasts here start fuel
  outlasts steps r e h = record { steps = steps; exceeds = subst (Exceeds fuel) (sym e) h }

  more_by : (r : Run State) → run (suc fuel) ≡ r
      → MachineFollows here (suc fuel) start (end_config program) r (points here (suc fuel) 0 (main_body program) first)
      → source program limits input fuel ≡ More → Outlasts here start fuel
  more_by (Done end cost) is f e = elim (within_or_above cost fuel) [
    | inl h ↦ let no : Done end cost ≡ More = sym (done_sooner end cost is h) ∙ e in cc
    | inr h ↦ outlasts f.steps _ f.walks h
  ]
  more_by (Fault code cost) is f e = elim (within_or_above cost fuel) [
    | inl h ↦ let no : Fault code cost ≡ More = sym (fault_sooner code cost is h) ∙ e in cc
    | inr h ↦ outlasts f.steps _ f.walks h
  ]
  more_by More is f e = outlasts f.steps _ f.walks (let l = f.enough in omega arith)

  -- two runs that are over are one
  met : (m k : ℕ) (r s : Run Config) → walk here m start ≡ r → walk here k start ≡ s → IsEnd r → IsEnd s → r ≡ s
  met m k r s e d one two =
      sym e ∙ same_end here m k start (ends_at here m start r e one) (ends_at here k start s d two) ∙ d

  -- a run that is over is not outlasted within its cost
  not_outlasted : (m k : ℕ) (r s : Run Config) → walk here m start ≡ r → walk here k start ≡ s → IsEnd r
      → Exceeds fuel s → Exceeds fuel r
  not_outlasted m k r s e d one h =
      subst (Exceeds fuel) e
      (within_end here fuel m k start (ends_at here m start r e one) (subst (Exceeds fuel) (sym d) h))

  over_by : (r : Run State) → run (suc fuel) ≡ r
      → MachineFollows here (suc fuel) start (end_config program) r (points here (suc fuel) 0 (main_body program) first)
      → (steps : ℕ) (to : Config) (cost : ℕ) → walk here steps start ≡ Done to cost → to.rest ≡ End
      → to.around ≡ [] → cost ≤ fuel → source program limits input fuel ≡ Done to.state cost
  over_by (Done last c) is f steps to cost e rest around h =
      let same = met f.steps steps _ _ f.walks e (refl, refl) (rest, around) in
      let state : last ≡ to.state = ap (state_or first) same in
      let paid : c ≡ cost = ap cost_or_zero same in
      done_sooner to.state cost (is ∙ ap (λ st. Done st c) state ∙ ap (λ n. Done to.state n) paid) h
  over_by (Fault code c) is f steps to cost e rest around h =
      let no = met f.steps steps _ _ f.walks e tt (rest, around) in cc
  over_by More is f steps to cost e rest around h =
      let l = f.enough in
      let above : fuel < cost = not_outlasted steps f.steps _ _ e f.walks (rest, around) (omega arith) in
      absurd (omega arith)

  over : (steps : ℕ) (to : Config) (cost : ℕ) → walk here steps start ≡ Done to cost → to.rest ≡ End
      → to.around ≡ [] → cost ≤ fuel → source program limits input fuel ≡ Done to.state cost
  over = over_by (run (suc fuel)) refl (follows (suc fuel))

  fault_by : (r : Run State) → run (suc fuel) ≡ r
      → MachineFollows here (suc fuel) start (end_config program) r (points here (suc fuel) 0 (main_body program) first)
      → (steps code cost : ℕ) → walk here steps start ≡ Fault code cost → cost ≤ fuel
      → source program limits input fuel ≡ Fault code cost
  fault_by (Done last c) is f steps code cost e h =
      let no = met f.steps steps _ _ f.walks e (refl, refl) tt in cc
  fault_by (Fault last c) is f steps code cost e h =
      let same = met f.steps steps _ _ f.walks e tt tt in
      let why : last ≡ code = ap code_of same in
      let paid : c ≡ cost = ap cost_or_zero same in
      fault_sooner code cost (is ∙ ap (λ k. Fault k c) why ∙ ap (λ n. Fault code n) paid) h
  fault_by More is f steps code cost e h =
      let l = f.enough in
      let above : fuel < cost = not_outlasted steps f.steps _ _ e f.walks tt (omega arith) in
      absurd (omega arith)

  more_only_by : (r : Run State) → source program limits input fuel ≡ r → Outlasts here start fuel
      → source program limits input fuel ≡ More
  more_only_by (Done end cost) is o =
      let a = done end cost is in
      let above : fuel < cost = not_outlasted a.steps o.steps _ _ a.walks refl (refl, refl) o.exceeds in
      let h = (within_done fuel (run fuel) end cost is).in_fuel in
      absurd (omega arith)
  more_only_by (Fault code cost) is o =
      let a = fault code cost is in
      let above : fuel < cost = not_outlasted a.steps o.steps _ _ a.walks refl tt o.exceeds in
      let h = (within_fault fuel (run fuel) code cost is).in_fuel in
      absurd (omega arith)
  more_only_by More is o = is

  not_over_by : (r : Run State) → source program limits input fuel ≡ r → (steps : ℕ) → walk here steps start ≡ More
      → source program limits input fuel ≡ More
  not_over_by (Done end cost) is steps e =
      let a = done end cost is in
      absurd (not_broken here a.steps steps start (ends_at here a.steps start _ a.walks (refl, refl)) e)
  not_over_by (Fault code cost) is steps e =
      let a = fault code cost is in
      absurd (not_broken here a.steps steps start (ends_at here a.steps start _ a.walks tt) e)
  not_over_by More is steps e = is

  pub joined : SourceIsMachine program limits input fuel
  joined = record {
    done = done;
    fault = fault;
    more = more_by (run (suc fuel)) refl (follows (suc fuel));
    done_only = λ steps end cost e h. over steps (end_config program end) cost e refl refl h;
    fault_only = fault_by (run (suc fuel)) refl (follows (suc fuel));
    more_only = more_only_by (source program limits input fuel) refl;
    over = over;
    not_over = not_over_by (source program limits input fuel) refl;
  }
