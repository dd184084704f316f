-- How a run of the interpreter ends.
use Rattle.std.proofs.Common.{◌≡◌, ◌<◌, ℕ, ◌-◌, refl, sym, ap₂, subst, ◌∙◌, Bool, true, false, if◌then◌else◌}
use Rattle.std.proofs.Common.{Some, None, List}
use Rattle.std.proofs.lemmas.Bool.{leb-false}
use Rattle.std.specs.Prelude.{nat_le, Result, Ok, Err, IfOk}
use Rattle.source_execution.specs.rpp_words.declared.input.FieldWord.{FieldWord}
use Rattle.source_execution.specs.rpp_words.declared.input.Limits.{Limits}
use Rattle.source_execution.specs.rpp_words.Limits.{IsLimits}
use Rattle.source_execution.specs.rpp_tree.Tree.{Source}
use Rattle.source_execution.specs.class_rules.Program.{IsAccepted}
use Rattle.source_execution.specs.roopl_semantics.Run.{Run, Done, Fault, More}
use Rattle.source_execution.specs.roopl_semantics.Store.{Store}
use Rattle.source_execution.specs.roopl_semantics.Source.{source, IsValid}
use Rattle.source_execution.specs.roopl_semantics.Execution.{Setting}
use Rattle.source_execution.specs.roopl_semantics.Laws.{CountsReferences}
use Rattle.source_execution.proofs.roopl_semantics_laws.MoreFuel.{source_done, source_fault, within_done, within_fault}
use Rattle.source_execution.specs.meaning_machine.Machine.{Config, walk}
use Rattle.source_execution.specs.meaning_machine.SourceLaws.{set_for, start_config, Exceeds}
use Rattle.source_execution.proofs.meaning_machine_laws.Sources.{joined}
use Rattle.meaning_inverse.proofs.meaning_sound_laws.Stated.{counts_are_held}
use Rattle.meaning_inverse.proofs.Law.{leads_back}
use Rattle.source_execution.specs.source_steps.declared.stop.Stop.{Stop}
use Rattle.source_execution.specs.source_steps.declared.stop.Stop.TheVariants as stop
use Rattle.source_execution.specs.source_steps.Metered.{Went, Stopped, Out, went, stopped_metered, metered, left_of, Failed}
use Rattle.source_execution.proofs.Within.{ends_done, ends_fault}
use Rattle.source_execution.specs.Standing.{ExecutionStanding, IsOver, Walks, config_at, setting_at}
use Rattle.source_meaning.specs.declared.outcome.Outcome.{Outcome}
use Rattle.source_meaning.specs.declared.outcome.Outcome.TheVariants as outcome
use Rattle.source_meaning.specs.Outcomes.{EndsWith, IsOutcome, IsStop, StaysSo, IsUndone}

out_went : {A : Type 0} (fuel cost : ℕ) (x : A) → went x (left_of fuel cost) ≡ Out → fuel < cost
out_went fuel cost x e = by (nat_le cost fuel) refl e
  where
    by : (t : Bool) → nat_le cost fuel ≡ t → went x (if t then Some (fuel - cost) else None) ≡ Out → fuel < cost
    by true q e = cc
    by false q e = leb-false cost fuel q

out_stopped : {A : Type 0} (fuel cost code : ℕ) → stopped_metered {A = A} code (left_of fuel cost) ≡ Out → fuel < cost
out_stopped {A = A} fuel cost code e = by (nat_le cost fuel) refl e
  where
    by : (t : Bool) → nat_le cost fuel ≡ t → stopped_metered {A = A} code (if t then Some (fuel - cost) else None) ≡ Out
        → fuel < cost
    by true q e = cc
    by false q e = leb-false cost fuel q

module _ (program : Source) (limits : Limits) (input : List FieldWord) (fuel left steps : ℕ) where
  abbrev walked : Run Config
  walked = walk (set_for program limits) steps (start_config program input)

  walked_done : (to : Config) → metered fuel walked ≡ Went to left → IsOver to
      → source program limits input fuel ≡ Done to.state (fuel - left)
  walked_done to e over =
      let w = within_done fuel walked to (fuel - left) (ends_done fuel walked to left e) in
      (joined program limits input fuel).over steps to (fuel - left) w.is over.rest over.around w.in_fuel

  walked_fault : (code : ℕ) → metered fuel walked ≡ Stopped code left
      → source program limits input fuel ≡ Fault code (fuel - left)
  walked_fault code e =
      let w = within_fault fuel walked code (fuel - left) (ends_fault fuel walked code left e) in
      (joined program limits input fuel).fault_only steps code (fuel - left) w.is w.in_fuel

  walked_more : metered fuel walked ≡ Out → source program limits input fuel ≡ More
  walked_more e = by walked refl e
    where
      by : (r : Run Config) → walked ≡ r → metered fuel r ≡ Out → source program limits input fuel ≡ More
      by (Done to cost) is out = (joined program limits input fuel).more_only
          (record { steps = steps; exceeds = subst (Exceeds fuel) (sym is) (out_went fuel cost to out) })
      by (Fault code cost) is out = (joined program limits input fuel).more_only
          (record {
            steps = steps;
            exceeds = subst (Exceeds fuel) (sym is) (out_stopped {A = Config} fuel cost code
                out);
          })
      by More is out = (joined program limits input fuel).not_over steps is

module _ (program : Source) (limits : Limits) (input : List FieldWord) (fuel left : ℕ) (first now : ExecutionStanding)
    (setting : setting_at first ≡ set_for program limits) (start : config_at first ≡ start_config program input) where
  -- if the run is over
  module _ {E : Type 0} (e : E) (walks : Walks first now fuel (Ok e) left) (over : IsOver (config_at now))
      (store : Store) (same : store ≡ (config_at now).state.store) where
    over_is : source program limits input fuel ≡ Done (config_at now).state (fuel - left)
    over_is = walked_done program limits input fuel left walks.steps (config_at now)
        (ap₂ (λ (s : Setting) (x : Config). metered fuel (walk s walks.steps x)) (sym setting) (sym start)
        ∙ walks.gives) over

    pub main_done : EndsWith (source program limits input fuel) store (fuel - left)
    main_done = record { end = (config_at now).state; done = over_is; same = sym same }

    pub main_counts : IsAccepted program → IsLimits limits → IsValid program input → CountsReferences store
    main_counts accepted inside valid = subst CountsReferences (sym same)
        (counts_are_held program limits input fuel (config_at now).state (fuel - left) accepted inside valid over_is)

  -- if it stops before its end
  pub main_stops : {E F : Type 0} (r : Result Outcome E) (why : Stop) → Walks {E = F} first now fuel (Err why) left
      → IfOk r (λ o. IsStop why (fuel - left) o) → IfOk r (λ o. IsOutcome o (source program limits input fuel))
  main_stops (Err none) why walks is = tt
  main_stops (Ok o) why walks is =
      by why (subst (λ (x : Config). Failed why left (metered fuel (walk (set_for program limits) walks.steps x))) start
      (subst (λ (s : Setting). Failed why left (metered fuel (walk s walks.steps (config_at first)))) setting
      walks.gives)) is
    where
      by : (k : Stop) → Failed k left (metered fuel (walk (set_for program limits) walks.steps
          (start_config program input))) → IsStop k (fuel - left) o → IsOutcome o (source program limits input fuel)
      by (stop.Fault code) e is = subst (λ o. IsOutcome o (source program limits input fuel)) (sym is)
          (walked_fault program limits input fuel left walks.steps code e)
      by stop.More e is = subst (λ o. IsOutcome o (source program limits input fuel)) (sym is)
          (walked_more program limits input fuel left walks.steps e)
      by (stop.Lacks lack) e is = absurd is

pub done_as : {E : Type 0} (r : Result Outcome E) (x : Outcome) (P : Outcome → Type 0) → P x → IfOk r (λ o. o ≡ x)
    → IfOk r P
done_as (Err why) x P p e = tt
done_as (Ok o) x P p e = subst P (sym e) p

-- ---- the laws of a result

pub stays_so : {E : Type 0} (r : Result Outcome E) (program : Source) (limits : Limits) (input : List FieldWord)
    (fuel : ℕ)
    → IfOk r (λ outcome. IsOutcome outcome (source program limits input fuel))
    → IfOk r (λ outcome. StaysSo outcome program limits input fuel)
stays_so (Err why) program limits input fuel is = tt
stays_so (Ok (outcome.Done store cost)) program limits input fuel is = λ more h.
    record { end = is.end; done = source_done program limits input fuel more is.end cost h is.done; same = is.same }
stays_so (Ok (outcome.Fault code cost)) program limits input fuel is =
    λ more h. source_fault program limits input fuel more code cost h is
stays_so (Ok outcome.More) program limits input fuel is = tt

pub comes_back : {E : Type 0} (r : Result Outcome E) (program : Source) (limits : Limits) (input : List FieldWord)
    (fuel : ℕ)
    → IsAccepted program → IsLimits limits → IsValid program input
    → IfOk r (λ outcome. IsOutcome outcome (source program limits input fuel))
    → IfOk r (λ outcome. IsUndone outcome program limits input fuel)
comes_back (Err why) program limits input fuel accepted inside valid is = tt
comes_back (Ok (outcome.Done store cost)) program limits input fuel accepted inside valid is =
    record { end = is; leads = leads_back program limits input accepted inside valid fuel is.end cost is.done }
comes_back (Ok (outcome.Fault code cost)) program limits input fuel accepted inside valid is = tt
comes_back (Ok outcome.More) program limits input fuel accepted inside valid is = tt
