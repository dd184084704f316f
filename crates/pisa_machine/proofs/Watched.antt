-- A run that probes watch, step by step.
use Rattle.std.proofs.Common.{◌≡◌, ◌∙◌, sym, ap, subst, refl, ℕ, zero, suc, ◌+◌, ◌-◌, ◌<◌, length, take, List, [], ◌∷◌}
use Rattle.std.proofs.Common.{◌++◌, Option, Some, None, map, replicate, zero-add, arith, append_assoc}
use Rattle.std.specs.Prelude.{IsSome}
use Rattle.std.specs.List.{slice_set}
use Rattle.std.proofs.lemmas.List.{map-append, append-nil, take_more_set}
use Rattle.pisa_isa.specs.declared.cell.Cell.{Cell}
use Rattle.pisa_isa.specs.declared.machine.Stop.{Stop}
use Rattle.pisa_isa.specs.declared.machine.Stop.TheVariants.{Finished, Returned, Trap, BadAddress, OffCode, Bound}
use Rattle.pisa_isa.specs.Image.{Segments}
use Rattle.pisa_isa.specs.Machine.{State, stop, stop_at, next, fetch}
use Rattle.pisa_isa.specs.Runs.{End, run, steps, visited, before_step, after_step, counted, counted_by, stop_at_bound}
use Rattle.pisa_isa.specs.Runs.{later, made_in, unless_stop, then_state}
use Rattle.pisa_isa.proofs.Keeps.{first_step}
use Rattle.pisa_isa.proofs.Longer.{run-steps}
use Rattle.pisa_isa.proofs.Runs.{steps-add, run-stop}
use Rattle.rpp_probes.specs.declared.probe.StepAt.{StepAt}
use Rattle.rpp_probes.specs.Tally.{Watch, going, lines_at, left_after, lines_after, IsCutShort}
use Rattle.rpp_probes.proofs.Folds.{left_none, left_more, left_append, lines_more, lines_append, left_one, lines_one}
use Rattle.pisa_machine.specs.Position.{Position, stepped}
use Rattle.pisa_machine.specs.Told.{step_at, counted_steps, BreaksOff}
use Rattle.pisa_isa.proofs.Reached.{counted-stop_at_bound}
use Rattle.pisa_machine.proofs.Legs.{end_of}

-- ---- states that are visited

visited-steps : (code : List Cell) (k n : ℕ) (m e : State) → steps code k m ≡ Some e
    → visited code (k + n) m ≡ visited code k m ++ visited code n e
visited-steps code zero n m e is =
    let z : 0 + n ≡ n = zero-add n in
    let same : m ≡ e = cc in
    ap (λ i. visited code i m) z ∙ ap (visited code n) same
visited-steps code (suc k) n m e is =
    let first = first_step (stop code m) (steps code k (next code m)) e is in
    let s : suc k + n ≡ suc (k + n) = omega arith in
    ap (λ i. visited code i m) s
    ∙ ap (λ o. before_step o m (visited code (k + n) (next code m))) first.0
    ∙ ap (λ l. m ∷ l) (visited-steps code k n (next code m) e first.1)
    ∙ sym (ap (λ o. before_step o m (visited code k (next code m)) ++ visited code n e) first.0)

visited-goes : (code : List Cell) (m : State) → stop code m ≡ None → visited code 1 m ≡ m ∷ []
visited-goes code m is = ap (λ o. before_step o m (visited code 0 (next code m))) is

visited-stops : (code : List Cell) (k : ℕ) (m : State) (why : Stop) → 0 < k → stop code m ≡ Some why
    → visited code k m ≡ replicate (counted why) m
visited-stops code zero m why h is = absurd (omega arith)
visited-stops code (suc k) m why h is = ap (λ o. before_step o m (visited code k (next code m))) is

differ : {A : Type 0} (n : ℕ) → n ≡ 0 → n ≡ 1 → A
differ n none one = absurd (omega (none, one, arith))

-- a counted step is one in the code
pub in_code : (o : Option Cell) (m : State) (why : Option Stop) → stop_at o m ≡ why → counted_by why ≡ 1 → IsSome o
in_code None m why is counts = differ (counted_by why) (sym (ap counted_by is)) counts
in_code (Some c) m why is counts = refl

-- ---- the probes, after they observed some steps

pub record IsTold (code : List Cell) (made : ℕ) (first here : State) (ws now : List Watch)
    (before after : List (List ℕ)) : Type 0 where
  pub reaches : steps code made first ≡ Some here
  pub stands : now ≡ left_after (counted_steps code made first) ws
  pub lines : after ≡ before ++ lines_after (counted_steps code made first) ws

pub not_begun : (code : List Cell) (first : State) (ws : List Watch) (lines : List (List ℕ))
    → IsTold code 0 first first ws ws lines lines
not_begun code first ws lines = record { reaches = refl; stands = sym (left_none ws); lines = sym (append-nil lines) }

-- one step more, which is no stop
pub told_more : (code : List Cell) (made : ℕ) (first here there : State) (step : StepAt) (ws now last : List Watch)
    (before after added : List (List ℕ)) → IsTold code made first here ws now before after
    → stop code here ≡ None → there ≡ next code here → step ≡ step_at here → last ≡ going step now
    → added ≡ after ++ lines_at step now
    → IsTold code (made + 1) first there ws last before added
told_more code made first here there step ws now last before after added h goes moved at left lines =
    let told : counted_steps code (made + 1) first ≡ counted_steps code made first ++ step ∷ [] =
    ap (map step_at) (visited-steps code made 1 first here h.reaches
    ∙ ap (λ l. visited code made first ++ l) (visited-goes code here goes))
    ∙ map-append step_at (visited code made first) (here ∷ [])
    ∙ ap (λ s. counted_steps code made first ++ s ∷ []) (sym at) in
    record {
      reaches = steps-add code made 1 first ∙ ap (λ o. then_state o (steps code 1)) h.reaches
          ∙ ap (λ o. unless_stop o (Some (next code here))) goes ∙ ap Some (sym moved);
      stands = left ∙ ap (going step) h.stands ∙ sym (left_more (counted_steps code made first) step ws)
          ∙ ap (λ l. left_after l ws) (sym told);
      lines = lines ∙ ap (λ l. l ++ lines_at step now) h.lines
          ∙ ap (λ l. (before ++ lines_after (counted_steps code made first) ws) ++ lines_at step l) h.stands
          ∙ append_assoc before (lines_after (counted_steps code made first) ws)
          (lines_at step (left_after (counted_steps code made first) ws))
          ∙ ap (λ l. before ++ l) (sym (lines_more (counted_steps code made first) step ws))
          ∙ ap (λ l. before ++ lines_after l ws) (sym told);
    }

-- ---- how it ends

pub record EndsTold (code : List Cell) (bound : ℕ) (first last : State) (ws now : List Watch)
    (before after : List (List ℕ)) (why : Stop) (spent : ℕ) : Type 0 where
  pub runs : run code bound first ≡ record { why = why; spent = spent; last = last }
  pub stands : now ≡ left_after (counted_steps code bound first) ws
  pub lines : after ≡ before ++ lines_after (counted_steps code bound first) ws

-- where the steps are made that it may make
pub ends_at_bound : (code : List Cell) (bound made : ℕ) (first here : State) (ws now : List Watch)
    (before after : List (List ℕ)) (why : Stop) → IsTold code made first here ws now before after
    → made ≡ bound → why ≡ stop_at_bound (fetch code here.pc) here.pc
    → EndsTold code bound first here ws now before after why bound
ends_at_bound code bound made first here ws now before after why h all is =
    let z : bound + 0 ≡ bound = omega arith in
    let told = subst (λ (n : ℕ). IsTold code n first here ws now before after) all h in
    record {
      runs = ap (λ n. run code n first) (sym z) ∙ run-steps code bound 0 first here told.reaches
          ∙ ap (λ n. end_of (stop_at_bound (fetch code here.pc) here.pc) n here) z
          ∙ ap (λ w. end_of w bound here) (sym is);
      stands = told.stands;
      lines = told.lines;
    }

-- the steps that a stop counts for are none or one
stands_by : (n : ℕ) (step : StepAt) (here : State) (told : List StepAt) (ws now last : List Watch) → n < 2
    → (n ≡ 1 → step ≡ step_at here) → now ≡ left_after told ws
    → last ≡ left_after (replicate n step) now → last ≡ left_after (told ++ map step_at (replicate n here)) ws
stands_by zero step here told ws now last few at stands left = left ∙ left_none now ∙ stands
    ∙ ap (λ l. left_after l ws) (sym (append-nil told))
stands_by (suc zero) step here told ws now last few at stands left =
    left ∙ left_one step now ∙ ap (going step) stands ∙ sym (left_more told step ws)
    ∙ ap (λ s. left_after (told ++ s ∷ []) ws) (at refl)
stands_by (suc (suc n)) step here told ws now last few at stands left = absurd (omega (few, arith))

lines_by : (n : ℕ) (step : StepAt) (here : State) (told : List StepAt) (ws now : List Watch)
    (before after added : List (List ℕ)) → n < 2 → (n ≡ 1 → step ≡ step_at here) → now ≡ left_after told ws
    → after ≡ before ++ lines_after told ws → added ≡ after ++ lines_after (replicate n step) now
    → added ≡ before ++ lines_after (told ++ map step_at (replicate n here)) ws
lines_by zero step here told ws now before after added few at stands lines left =
    left ∙ append-nil after ∙ lines ∙ ap (λ l. before ++ lines_after l ws) (sym (append-nil told))
lines_by (suc zero) step here told ws now before after added few at stands lines left =
    left ∙ ap (λ l. after ++ l) (lines_one step now) ∙ ap (λ l. l ++ lines_at step now) lines
    ∙ ap (λ l. (before ++ lines_after told ws) ++ lines_at step l) stands
    ∙ append_assoc before (lines_after told ws) (lines_at step (left_after told ws))
    ∙ ap (λ l. before ++ l) (sym (lines_more told step ws))
    ∙ ap (λ s. before ++ lines_after (told ++ s ∷ []) ws) (at refl)
lines_by (suc (suc n)) step here told ws now before after added few at stands lines left = absurd (omega (few, arith))

counted_few : (why : Stop) → counted why < 2
counted_few Finished = omega arith
counted_few Returned = omega arith
counted_few (Trap code) = omega arith
counted_few (BadAddress address) = omega arith
counted_few (OffCode at) = omega arith
counted_few Bound = omega arith

-- where the machine stops
pub ends_at_stop : (code : List Cell) (bound made : ℕ) (first here : State) (step : StepAt) (ws now last : List Watch)
    (before after added : List (List ℕ)) (why : Stop) → IsTold code made first here ws now before after
    → made < bound → stop code here ≡ Some why → (counted why ≡ 1 → step ≡ step_at here)
    → last ≡ left_after (replicate (counted why) step) now
    → added ≡ after ++ lines_after (replicate (counted why) step) now
    → EndsTold code bound first here ws last before added why (made + counted why)
ends_at_stop code bound made first here step ws now last before after added why h less is at left lines =
    let k : bound ≡ made + (bound - made) = omega arith in
    let told : counted_steps code bound first ≡ counted_steps code made first
    ++ map step_at (replicate (counted why) here) =
    ap (λ n. counted_steps code n first) k
    ∙ ap (map step_at) (visited-steps code made (bound - made) first here h.reaches
    ∙ ap (λ l. visited code made first ++ l) (visited-stops code (bound - made) here why (omega arith) is))
    ∙ map-append step_at (visited code made first) (replicate (counted why) here) in
    record {
      runs = ap (λ n. run code n first) k ∙ run-steps code made (bound - made) first here h.reaches
          ∙ ap (later made) (run-stop code (bound - made) here why (omega arith) is);
      stands = stands_by (counted why) step here (counted_steps code made first) ws now last (counted_few why) at
          h.stands left ∙ ap (λ l. left_after l ws) (sym told);
      lines = lines_by (counted why) step here (counted_steps code made first) ws now before after added
          (counted_few why) at h.stands h.lines lines ∙ ap (λ l. before ++ lines_after l ws) (sym told);
    }

-- ---- no memory was found

short_state : (code : List Cell) (self : Position) (o : Option Stop) → self.image.code ≡ code → stop code self.state ≡ o
    → (stepped o self).state ≡ (run code 1 self.state).last
short_state code self None image is = ap (λ c. next c self.state) image
    ∙ sym (ap (λ o. (after_step o self.state (run code 0 (next code self.state))).last) is)
short_state code self (Some why) image is = sym (ap (λ o.
    (after_step o self.state (run code 0 (next code self.state))).last) is)

short_made : (code : List Cell) (self : Position) (o : Option Stop) (n base : ℕ) → stop code self.state ≡ o
    → self.made ≡ base + n → (stepped o self).made ≡ base + made_in (later n (run code 1 self.state))
short_made code self None n base is has =
    let e : made_in (later n (run code 1 self.state)) ≡ n + 1 - counted
    (stop_at_bound (fetch code (next code self.state).pc) (next code self.state).pc) =
    ap (λ o. made_in (later n (after_step o self.state (run code 0 (next code self.state))))) is in
    let bound = counted-stop_at_bound (fetch code (next code self.state).pc) (next code self.state).pc in
    omega (arith, e, bound, has)
short_made code self (Some why) n base is has =
    let e : made_in (later n (run code 1 self.state)) ≡ n + counted why - counted why =
    ap (λ o. made_in (later n (after_step o self.state (run code 0 (next code self.state))))) is in
    omega (arith, e, has)

short_visits : (code : List Cell) (m : State) (o : Option Stop) → stop code m ≡ o → counted_by o ≡ 1
    → visited code 1 m ≡ m ∷ []
short_visits code m None is counts = visited-goes code m is
short_visits code m (Some why) is counts = visited-stops code 1 m why (omega arith) is ∙ ap (λ n. replicate n m) counts

pub breaks_off : (bound made : ℕ) (old self new : Position) (o : Option Stop) (count counted_new : ℕ) (step : StepAt)
    (ws now left : List Watch) (before after added : List (List ℕ))
    → IsTold old.image.code made old.state self.state ws now before after → self.image ≡ old.image
    → self.made ≡ old.made + made → made < bound
    → stop self.image.code self.state ≡ o → counted_by o ≡ 1 → new ≡ stepped o self → counted_new ≡ count + (made + 1)
    → step ≡ step_at self.state → IsCutShort step now left after added
    → BreaksOff bound old new count counted_new ws left before added
breaks_off bound made old self new o count counted_new step ws now left before after added h image made_is less stops
    counts moved counter at cut =
    let code = old.image.code in
    let same : self.image.code ≡ code = ap (λ (i : Segments). i.code) image in
    let is : stop code self.state ≡ o = ap (λ (c : List Cell). stop c self.state) (sym same) ∙ stops in
    let rest = run-steps code made 1 old.state self.state h.reaches in
    record {
      whole = made;
      last = self.state;
      within = less;
      visits = visited-steps code made 1 old.state self.state h.reaches
          ∙ ap (λ l. visited code made old.state ++ l) (short_visits code self.state o is counts);
      stands = ap (λ (p : Position). p.state) moved ∙ short_state code self o same is
          ∙ sym (ap (λ (e : End). e.last) rest);
      made = ap (λ (p : Position). p.made) moved ∙ short_made code self o made old.made is made_is
          ∙ sym (ap (λ (e : End). old.made + made_in e) rest);
      counter = counter;
      lines = after;
      lines_before = h.lines;
      cut_short = subst (λ (s : StepAt). IsCutShort s (left_after (counted_steps code made old.state) ws) left after
          added) at
          (subst (λ (l : List Watch). IsCutShort step l left after added) h.stands cut);
    }

-- ---- a stop that is observed, or not

pub untold : (n : ℕ) (step : StepAt) (now : List Watch) → n ≡ 0 → now ≡ left_after (replicate n step) now
untold n step now is = sym (left_none now) ∙ ap (λ n. left_after (replicate n step) now) (sym is)

pub no_lines : (n : ℕ) (step : StepAt) (now : List Watch) (before : List (List ℕ)) → n ≡ 0
    → before ≡ before ++ lines_after (replicate n step) now
no_lines n step now before is = sym (append-nil before)
    ∙ ap (λ n. before ++ lines_after (replicate n step) now) (sym is)

pub told_once : (n : ℕ) (step : StepAt) (now last : List Watch) → n ≡ 1 → last ≡ going step now
    → last ≡ left_after (replicate n step) now
told_once n step now last is left = left ∙ sym (left_one step now)
    ∙ ap (λ n. left_after (replicate n step) now) (sym is)

pub lines_once : (n : ℕ) (step : StepAt) (now : List Watch) (before after : List (List ℕ)) → n ≡ 1
    → after ≡ before ++ lines_at step now → after ≡ before ++ lines_after (replicate n step) now
lines_once n step now before after is lines = lines ∙ ap (λ l. before ++ l) (sym (lines_one step now))
    ∙ ap (λ n. before ++ lines_after (replicate n step) now) (sym is)

-- ---- steps that are observed together

pub counted_more : (code : List Cell) (k n : ℕ) (m e : State) → steps code k m ≡ Some e
    → counted_steps code (k + n) m ≡ counted_steps code k m ++ counted_steps code n e
counted_more code k n m e reaches =
    ap (map step_at) (visited-steps code k n m e reaches) ∙ map-append step_at (visited code k m) (visited code n e)

-- as many steps are counted as are made
pub counted_length : (code : List Cell) (k : ℕ) (m e : State) → steps code k m ≡ Some e
    → length (counted_steps code k m) ≡ k
counted_length code zero m e is = refl
counted_length code (suc k) m e is =
    let first = first_step (stop code m) (steps code k (next code m)) e is in
    ap (λ o. length (map step_at (before_step o m (visited code k (next code m))))) first.0
    ∙ ap (λ n. suc n) (counted_length code k (next code m) e first.1)

-- one more is noted
pub noted_more : (code : List Cell) (n : ℕ) (m here there : State) (noted : List StepAt) → steps code n m ≡ Some here
    → steps code (n + 1) m ≡ Some there
    → take n noted ≡ counted_steps code n m → n < length noted
    → take (n + 1) (slice_set noted n (step_at here)) ≡ counted_steps code (n + 1) m
noted_more code n m here there noted reaches goes notes less =
    let parts = steps-add code n 1 m ∙ ap (λ o. then_state o (steps code 1)) reaches in
    let one = first_step (stop code here) (steps code 0 (next code here)) there (sym parts ∙ goes) in
    take_more_set noted n (step_at here) less ∙ ap (λ l. l ++ step_at here ∷ []) notes
    ∙ sym (counted_more code n 1 m here reaches ∙ ap (λ l. counted_steps code n m ++ map step_at l)
    (visited-goes code here one.0))

-- steps observed together, after those that were observed before
pub told_many : (code code_here : List Cell) (made k : ℕ) (first here there : State) (ws now last : List Watch)
    (before after : List (List ℕ)) → IsTold code made first here ws now before after
    → code_here ≡ code → steps code_here k here ≡ Some there → last ≡ left_after (counted_steps code_here k here) now
    → lines_after (counted_steps code_here k here) now ≡ []
    → IsTold code (made + k) first there ws last before after
told_many code code_here made k first here there ws now last before after h same goes left none =
    let told = counted_more code made k first here h.reaches in
    let at = ap (λ (c : List Cell). counted_steps c k here) same in
    let there_is : steps code k here ≡ Some there = ap (λ (c : List Cell). steps c k here) (sym same) ∙ goes in
    let no_line : lines_after (counted_steps code k here) now ≡ [] = ap (λ l. lines_after l now) (sym at) ∙ none in
    record {
      reaches = steps-add code made k first ∙ ap (λ o. then_state o (steps code k)) h.reaches ∙ there_is;
      stands = left ∙ ap (λ l. left_after l now) at ∙ ap (left_after (counted_steps code k here)) h.stands
          ∙ sym (left_append (counted_steps code made first) (counted_steps code k here) ws)
          ∙ ap (λ l. left_after l ws) (sym told);
      lines = h.lines ∙ ap (λ l. before ++ l)
          (sym (append-nil (lines_after (counted_steps code made first) ws))
          ∙ ap (λ l. lines_after (counted_steps code made first) ws ++ l)
          (sym no_line ∙ ap (lines_after (counted_steps code k here)) h.stands)
          ∙ sym (lines_append (counted_steps code made first) (counted_steps code k here) ws)
          ∙ ap (λ l. lines_after l ws) (sym told));
    }
