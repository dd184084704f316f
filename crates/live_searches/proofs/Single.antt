-- Single commands of a debugger.
use Rattle.std.proofs.Common.{◌≡◌, ◌∙◌, sym, ap, subst, refl, ℕ, List, [], ◌∷◌, ◌++◌, Bool, true, false, Some, None}
use Rattle.std.proofs.Common.{append-nil}
use Rattle.std.specs.Prelude.{Option, nat_eq, if◌then◌else◌}
use Rattle.source_debugger.specs.meaning_points.rpp_tree.Views.{source_of}
use Rattle.live_requests.specs.pisa_scripts.declared.command.Command.{Command}
use Rattle.source_debugger.specs.Shown.{Told, told_by, and_told}
use Rattle.source_debugger.specs.Standing.{Standing, trail_of, CommandsLead}
use Rattle.live_searches.specs.declared.moves.Step.{Step}
use Rattle.live_searches.specs.declared.moves.Step.TheVariants.{Gone, Stuck, Lost}
use Rattle.live_searches.specs.Steps.{IsSameRun, LeadsBy, Goes}

pub one_told : (o : Option Told) (t : Told) → and_told o (λ (k : ℕ). Some (record { position = k; text = [] })) ≡ Some t
    → o ≡ Some t
one_told None t e = cc
one_told (Some s) t e =
    ap (λ (x : List ℕ). Some (record { position = s.position; text = x })) (sym (append-nil s.text)) ∙ e

-- what a single command printed
pub leads_told : (before after : Standing) (way : Command) (line : List ℕ) → CommandsLead before (way ∷ []) after line
    → told_by (source_of before.program) (trail_of before) way before.position
    ≡ Some (record { position = after.position; text = line })
leads_told before after way line leads =
    one_told (told_by (source_of before.program) (trail_of before) way before.position)
    (record { position = after.position; text = line }) leads.told

by_stuck : (before after : Standing) (way : Command) (old new : List ℕ) (stuck : Bool)
    → LeadsBy before way after old new → nat_eq after.position before.position ≡ stuck
    → Goes before way after old new (if stuck then Stuck else Gone)
by_stuck before after way old new true l e = (l, e)
by_stuck before after way old new false l e = (l, e)

pub goes_by : (before after : Standing) (way : Command) (old new line : List ℕ) (from : ℕ) (stuck : Bool) (step : Step)
    → CommandsLead before (way ∷ []) after line → new ≡ old ++ line → from ≡ before.position
    → stuck ≡ nat_eq after.position from → step ≡ (if stuck then Stuck else Gone)
    → Goes before way after old new step
goes_by before after way old new line from stuck step leads added from_is stuck_is step_is =
    subst (λ (s : Step). Goes before way after old new s) (sym step_is)
    (by_stuck before after way old new stuck (record {
      line = line;
      told = leads_told before after way line leads;
      added = added;
      same = leads.same;
    }) (sym (stuck_is ∙ ap (λ (j : ℕ). nat_eq after.position j) from_is)))

-- ---- the same run

pub same_run : (start before after : Standing) → IsSameRun start before → IsSameRun before after
    → IsSameRun start after
same_run start before after one two =
    two ∙ ap (λ (d : Standing). record d { position = after.position }) one

pub same_as : (start before after : Standing) → IsSameRun start before → after ≡ before → IsSameRun start after
same_as start before after one e = subst (λ (d : Standing). IsSameRun start d) (sym e) one

pub stays_same : (before after : Standing) → after ≡ before → IsSameRun before after
stays_same before after e = same_as before before after refl e

pub goes_same : (before after : Standing) (way : Command) (old new : List ℕ) (step : Step)
    → Goes before way after old new step → IsSameRun before after
goes_same before after way old new Gone g = g.0.same
goes_same before after way old new Stuck g = g.0.same
goes_same before after way old new (Lost lack) g = stays_same before after g

-- the run that a command was given in is that of the start
pub told_at_start : (start before : Standing) (way : Command) (t : Told) → IsSameRun start before
    → told_by (source_of before.program) (trail_of before) way before.position ≡ Some t
    → told_by (source_of start.program) (trail_of start) way before.position ≡ Some t
told_at_start start before way t same told =
    subst (λ (d : Standing). told_by (source_of d.program) (trail_of d) way before.position ≡ Some t) same told
