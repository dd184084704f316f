-- What a line asks of files and output, from what its parts ask.
use Rattle.std.proofs.Common.{◌≡◌, refl, sym, subst, ℕ, List, Some, None, inl, inr, arith, string_bytes}
use Rattle.std.specs.Prelude.{Result}
use Rattle.std.specs.declared.option.Option.{Option}
use Rattle.command_line.specs.rpp_ports.Ports.{Texts}
use Rattle.command_line.specs.rpp_ports.Events.{Event}
use Rattle.command_line.specs.rpp_probes.Tally.{Watch}
use Rattle.command_line.specs.command_plan.Plans.{Planned}
use Rattle.command_line.specs.command_plan.command_ends.Statuses.{code_of}
use Rattle.command_line.specs.command_plan.declared.plan.NoPlan.{NoPlan}
use Rattle.command_line.specs.command_plan.declared.plan.NoPlan.TheVariants as none
use Rattle.command_line.specs.command_plan.command_ends.declared.status.Broken.{Broken}
use Rattle.command_line.specs.Lines.{Asked}
use Rattle.rpp_command.specs.Causes.{files_of}
use Rattle.rpp_command.specs.GivenPlans.{IsPlanOf}
use Rattle.plan_serving.specs.Outside.{Shelved, Printed, HasPut}
use Rattle.rpp_command.specs.Answers.{Answers, words_refused}
use Rattle.plan_serving.specs.Finishes.{Finishes}
use Rattle.rpp_command.specs.Serving.{PlansRead, StopsPlan}
use Rattle.plan_serving.specs.Finishes.{put_answer, ended_status}
use Rattle.plan_serving.proofs.Fetched.{some_none}
use Rattle.plan_serving.proofs.Finished.{puts_by}

-- the plan of the texts that were read was carried out
pub carried : (line : Asked) (probes kept : List Watch) (rose : Type 0) (told told' mid : Option Texts)
    (old read new : List Event) (out out' : Printed) (p : Planned) (count made : ℕ) (status : ℕ) → count ≡ 0
    → mid ≡ told
    → PlansRead line probes kept count made told old read p
    → Finishes p.writing p.text (code_of p.verdict) (record { texts = mid; calls = read })
    (record { texts = told'; calls = new }) out out' status
    → Answers (Some line) probes kept rose (record { texts = told; calls = old })
    (record { texts = told'; calls = new })
    out out' status
unfolding Answers
carried line probes kept rose told told' mid old read new out out' p count made status none same plans h = inl (record {
  texts = plans.texts;
  read = read;
  gave = plans.gave;
  plan = p;
  made = made;
  is_plan = subst (λ (n : ℕ). IsPlanOf line probes kept n made plans.texts p) none plans.is_plan;
  finishes = subst (λ (texts : Option Texts). Finishes p.writing p.text (code_of p.verdict)
      (record { texts = texts; calls = read }) (record { texts = told'; calls = new }) out out' status) same h;
})

-- this is the line that says why there is no plan
abbrev pub IsLine : NoPlan → List ℕ → Type 0
IsLine none.NoMemory said = ⊥
IsLine (none.Unread text) said = said ≡ string_bytes text

-- a file could not be read, and the line on it was put
pub lacked : (line : Asked) (probes kept : List Watch) (rose : Type 0) (told told' : Option Texts)
    (old new : List Event) (out out' : Printed) (stop : NoPlan) (said : List ℕ) (r : Result (Unit {0}) Broken)
    → told' ≡ told → IsLine stop said
    → StopsPlan line probes kept rose (record { texts = told; calls = old }) (record { texts = told'; calls = new })
    stop
    → HasPut said (put_answer r) out out'
    → Answers (Some line) probes kept rose (record { texts = told; calls = old })
    (record { texts = told'; calls = new })
    out out' (ended_status 2 r)
unfolding Answers
lacked line probes kept rose told told' old new out out' none.NoMemory said r same is stops h = absurd is
lacked line probes kept rose told told' old new out out' (none.Unread text) said r same is stops h = inr (inl (record {
  text = string_bytes text;
  stops = stops.0;
  puts = puts_by (string_bytes text) 2 out out' r (subst (λ t. HasPut t (put_answer r) out out') is h);
  same = same;
  untold = stops.1;
}))

-- no memory was found for a plan
pub no_plan : (line : Asked) (probes kept : List Watch) (rose : Type 0) (told told' : Option Texts)
    (old new : List Event) (out : Printed) (stop : NoPlan) → told' ≡ told → stop ≡ none.NoMemory
    → StopsPlan line probes kept rose (record { texts = told; calls = old }) (record { texts = told'; calls = new })
    stop
    → Answers (Some line) probes kept rose (record { texts = told; calls = old })
    (record { texts = told'; calls = new })
    out out 7
unfolding Answers
no_plan line probes kept rose told told' old new out none.NoMemory same is stops =
    inr (inr (record { reads = stops; same = same; silent = refl; status_is = refl }))
no_plan line probes kept rose told told' old new out (none.Unread text) same is stops = absurd (grind arith)

-- no memory was found to read the words
pub not_read : (asked : Option Asked) (probes : List Watch) (rose : Type 0) (shelf : Shelved) (out : Printed)
    (status : ℕ) → status ≡ 7 → Answers asked probes probes rose shelf shelf out out status
unfolding Answers
not_read None probes rose shelf out status is = record { puts = inr (refl, is); same = refl; untold = refl }
not_read (Some line) probes rose shelf out status is = inr (inr (record {
  reads = inl (some_none (files_of line) shelf.calls, refl);
  same = refl;
  silent = refl;
  status_is = is;
}))

-- words that are no line
pub refused : (asked : Option Asked) (probes : List Watch) (rose : Type 0) (shelf : Shelved) (out out' : Printed)
    (said : List ℕ) (r : Result (Unit {0}) Broken) (status : ℕ) → asked ≡ None → said ≡ words_refused
    → HasPut said (put_answer r) out out' → status ≡ ended_status 1 r
    → Answers asked probes probes rose shelf shelf out out' status
unfolding Answers
refused asked probes rose shelf out out' said r status none is h by =
    subst (λ (it : ℕ). Answers asked probes probes rose shelf shelf out out' it) (sym by)
    (subst (λ (it : Option Asked). Answers it probes probes rose shelf shelf out out' (ended_status 1 r)) (sym none)
    (record {
      puts = inl (puts_by words_refused 1 out out' r (subst (λ t. HasPut t (put_answer r) out out') is h));
      same = refl;
      untold = refl;
    }))
