-- The first step of a run that stops with a fault.
use Rattle.std.proofs.Common.{◌≡◌, ℕ, zero, suc, ◌+◌, ◌-◌, ◌<◌, ◌≤◌, refl, sym, ap, ◌∙◌, arith, List, false, Some, None}
use Rattle.std.specs.Prelude.{Option}
use Rattle.source_checks.specs.rpp_words.declared.input.FieldWord.{FieldWord}
use Rattle.source_checks.specs.rpp_words.declared.input.Limits.{Limits}
use Rattle.source_statements.specs.rpp_tree.Tree.{Source}
use Rattle.source_checks.specs.roopl_semantics.Run.{Run, Done, Fault, More, ◌>>=◌, after_cost}
use Rattle.source_checks.specs.roopl_semantics.Execution.{Setting}
use Rattle.source_checks.specs.meaning_machine.Machine.{Config, next, walk, stepped, closing}
use Rattle.source_checks.specs.meaning_machine.SourceLaws.{set_for, start_config}
use Rattle.source_checks.proofs.meaning_machine_laws.Steps.{plus}
use Rattle.source_checks.specs.source_steps.Metered.{Went, Stopped, metered, went, stopped_metered, left_of}
use Rattle.source_checks.proofs.source_steps_laws.Fuelled.{goes, gives}
use Rattle.source_execution.specs.Standing.{ExecutionStanding, IsOver, config_at, setting_at}
use Rattle.source_checks.specs.Failures.{MOST_STEPS, failing, here_or_on}
use Rattle.source_execution.specs.declared.falling.TheConstants.{MOST_FUEL}
use Rattle.source_execution.specs.Falls.{IsFailing, failing_of}
use Rattle.source_execution.proofs.Walked.{one_step}

-- ---- a run with so much fuel

record IsDone {A : Type 0} (run : Run A) (end : A) : Type 0 where
  pub cost : ℕ
  pub is : run ≡ Done end cost

record IsFault {A : Type 0} (run : Run A) (code : ℕ) : Type 0 where
  pub cost : ℕ
  pub is : run ≡ Fault code cost

went_is : {A : Type 0} (x end : A) (o : Option ℕ) (left : ℕ) → went x o ≡ Went end left → x ≡ end
went_is x end None left e = cc
went_is x end (Some k) left e = cc

not_went : {A : Type 0} (code : ℕ) (end : A) (o : Option ℕ) (left : ℕ) → stopped_metered code o ≡ Went end left → ⊥
not_went code end None left e = cc
not_went code end (Some k) left e = cc

stopped_is : {A : Type 0} (x code : ℕ) (o : Option ℕ) (left : ℕ) → stopped_metered {A = A} x o ≡ Stopped code left
    → x ≡ code
stopped_is x code None left e = cc
stopped_is x code (Some k) left e = cc

not_stopped : {A : Type 0} (x : A) (code : ℕ) (o : Option ℕ) (left : ℕ) → went x o ≡ Stopped code left → ⊥
not_stopped x code None left e = cc
not_stopped x code (Some k) left e = cc

is_done : {A : Type 0} (fuel : ℕ) (run : Run A) (end : A) (left : ℕ) → metered fuel run ≡ Went end left → IsDone run end
is_done fuel (Done x cost) end left e =
    record { cost = cost; is = ap (λ y. Done y cost) (went_is x end (left_of fuel cost) left e) }
is_done fuel (Fault code cost) end left e = absurd (not_went code end (left_of fuel cost) left e)
is_done fuel More end left e = cc

is_fault : {A : Type 0} (fuel : ℕ) (run : Run A) (code left : ℕ) → metered fuel run ≡ Stopped code left
    → IsFault run code
is_fault fuel (Done x cost) code left e = absurd (not_stopped x code (left_of fuel cost) left e)
is_fault {A = A} fuel (Fault x cost) code left e =
    record { cost = cost; is = ap (λ (y : ℕ). Fault y cost) (stopped_is {A = A} x code (left_of fuel cost) left e) }
is_fault fuel More code left e = cc

is_done_before : {A : Type 0} (d : ℕ) (run : Run A) (end : A) (cost : ℕ) → after_cost d run ≡ Done end cost
    → IsDone run end
is_done_before d (Done x c) end cost e = record { cost = c; is = ap (λ y. Done y c) (same x end (d + c) cost e) }
  where
    same : {A : Type 0} (x end : A) (c cost : ℕ) → Done x c ≡ Done end cost → x ≡ end
    same x end c cost e = cc
is_done_before d (Fault code c) end cost e = cc
is_done_before d More end cost e = cc

-- ---- the position from which a step fails

module _ (setting : Setting) where
  step_on : (k m d : ℕ) (x y : Config) (r : Run Config) (c : ℕ)
      → ((z : Config) (e : ℕ) → walk setting k z ≡ Done y e → failing setting (plus k m) z ≡ failing setting m y)
      → (r >>= walk setting k) ≡ Done y c → here_or_on x r (failing setting (plus k m)) ≡ failing setting m y
  step_on k m d x y (Done z n) c on e =
      let done = is_done_before n (walk setting k z) y c e in on z done.cost done.is
  step_on k m d x y (Fault code n) c on e = cc
  step_on k m d x y More c on e = cc

  same_here : (x y : Config) (c : ℕ) → walk setting 0 x ≡ Done y c → x ≡ y
  same_here x y c e = cc

  failing_on : (k m : ℕ) (x y : Config) (c : ℕ) → walk setting k x ≡ Done y c
      → failing setting (plus k m) x ≡ failing setting m y
  failing_on zero m x y c e = ap (failing setting m) (same_here x y c e)
  failing_on (suc k) m x y c e =
      step_on k m 0 x y (next setting x) c (λ z d w. failing_on k m z y d w) e

  stays : (x : Config) → IsOver x → next setting x ≡ Done x 0
  stays x o = ap (stepped setting x) o.rest ∙ ap (closing setting x) o.around

  never : (m : ℕ) (x : Config) → IsOver x → failing setting m x ≡ None
  never zero x o = refl
  never (suc m) x o = ap (λ (r : Run Config). here_or_on x r (failing setting m)) (stays x o) ∙ never m x o

  plus_sum : (a b : ℕ) → plus a b ≡ a + b
  plus_sum zero b = omega arith
  plus_sum (suc a) b = let e = plus_sum a b in ap suc e ∙ omega arith

  first_is : (n k : ℕ) (start x : Config) (c code d : ℕ) → k < n → walk setting k start ≡ Done x c
      → next setting x ≡ Fault code d → failing setting n start ≡ Some x
  first_is n k start x c code d h e f =
      let all : plus k (suc (n - k - 1)) ≡ n = plus_sum k (suc (n - k - 1)) ∙ omega arith in
      sym (ap (λ (i : ℕ). failing setting i start) all)
      ∙ failing_on k (suc (n - k - 1)) start x c e
      ∙ ap (λ (r : Run Config). here_or_on x r (failing setting (n - k - 1))) f

  none_is : (n k : ℕ) (start x : Config) (c : ℕ) → k < n → walk setting k start ≡ Done x c → IsOver x
      → failing setting n start ≡ None
  none_is n k start x c h e o =
      let all : plus k (n - k) ≡ n = plus_sum k (n - k) ∙ omega arith in
      sym (ap (λ (i : ℕ). failing setting i start) all) ∙ failing_on k (n - k) start x c e ∙ never (n - k) x o

-- ---- a run that makes steps

module _ (program : Source) (limits : Limits) (input : List FieldWord) where
  abbrev here : Setting
  here = set_for program limits

  abbrev start : Config
  start = start_config program input

  -- so many steps have come here
  pub record HasStepped (steps : ℕ) (e : ExecutionStanding) (fuel : ℕ) : Type 0 where
    pub came : metered MOST_FUEL (walk here steps start) ≡ Went (config_at e) fuel
    pub same : setting_at e ≡ here
    pub whole : e.broken ≡ false

  pub at_start : (e : ExecutionStanding) → config_at e ≡ start → setting_at e ≡ here → e.broken ≡ false
      → HasStepped 0 e MOST_FUEL
  at_start e c s w = record {
    came = gives MOST_FUEL start ∙ ap (λ (x : Config). Went x MOST_FUEL) (sym c);
    same = s;
    whole = w;
  }

  next_here : (e : ExecutionStanding) (fuel : ℕ) → setting_at e ≡ here
      → metered fuel (next (setting_at e) (config_at e)) ≡ metered fuel (next here (config_at e))
  next_here e fuel s = ap (λ (k : Setting). metered fuel (next k (config_at e))) s

  pub one_further : (steps more : ℕ) (e later : ExecutionStanding) (fuel left : ℕ) → HasStepped steps e fuel
      → metered fuel (next (setting_at e) (config_at e)) ≡ Went (config_at later) left
      → setting_at later ≡ setting_at e → later.broken ≡ false → more ≡ steps + 1 → HasStepped more later left
  one_further steps more e later fuel left h g s w m =
      let run : metered fuel (next here (config_at e)) ≡ Went (config_at later) left =
      sym (next_here e fuel h.same) ∙ g in
      let count : more ≡ plus steps 1 = m ∙ sym (plus_sum here steps 1) in
      record {
        came = ap (λ (k : ℕ). metered MOST_FUEL (walk here k start)) count
            ∙ one_step here steps start (config_at e) MOST_FUEL fuel h.came
            ∙ goes fuel left (next here (config_at e)) (config_at later) (walk here 0) run
            ∙ gives left (config_at later);
        same = s ∙ h.same;
        whole = w;
      }

  -- the next step stops with a fault, and leaves the run where it was
  pub fails_there : (steps : ℕ) (e there : ExecutionStanding) (code fuel left : ℕ) → HasStepped steps e fuel
      → steps < MOST_STEPS
      → metered fuel (next (setting_at e) (config_at e)) ≡ Stopped code left → config_at there ≡ config_at e
      → setting_at there ≡ setting_at e → there.broken ≡ false
      → IsFailing program limits input (record { execution = there; code = code })
  fails_there steps e there code fuel left h few g place same whole =
      let done = is_done MOST_FUEL (walk here steps start) (config_at e) fuel h.came in
      let fault = is_fault fuel (next here (config_at e)) code left (sym (next_here e fuel h.same) ∙ g) in
      record {
        first = first_is here MOST_STEPS steps start (config_at e) done.cost code fault.cost few done.is fault.is
            ∙ ap (λ (x : Config). Some x) (sym place);
        spent = fault.cost;
        stops = ap (next here) place ∙ fault.is;
        same = same ∙ h.same;
        whole = whole;
      }

  pub never_falls : (steps : ℕ) (e : ExecutionStanding) (fuel : ℕ) → HasStepped steps e fuel → steps < MOST_STEPS
      → IsOver (config_at e) → failing_of program limits input ≡ None
  never_falls steps e fuel h few over =
      let done = is_done MOST_FUEL (walk here steps start) (config_at e) fuel h.came in
      none_is here MOST_STEPS steps start (config_at e) done.cost few done.is over
