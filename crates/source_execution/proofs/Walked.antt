-- Steps of a run, one after another.
use Rattle.std.proofs.Common.{◌≡◌, ◌≤◌, ℕ, refl, sym, ap, subst, ◌∙◌, arith, [], ◌∷◌}
use Rattle.std.proofs.Common.{false}
use Rattle.std.specs.Prelude.{Result, Ok, Err}
use Rattle.std.specs.Result.{IsErrAnd}
use Rattle.source_checks.specs.roopl_semantics.Run.{◌>>=◌}
use Rattle.source_checks.specs.roopl_semantics.Execution.{Setting}
use Rattle.source_checks.specs.meaning_machine.Machine.{Config, next, walk}
use Rattle.source_checks.proofs.meaning_machine_laws.Steps.{plus, walk_plus}
use Rattle.source_checks.specs.source_steps.declared.stop.Stop.{Stop}
use Rattle.source_checks.specs.source_steps.Metered.{Went, metered, Failed}
use Rattle.source_checks.proofs.source_steps_laws.Fuelled.{goes, fails, gives}
use Rattle.source_execution.specs.Standing.{ExecutionStanding, Walks, config_at, setting_at}

-- so many steps have come here
pub record HasGone (first now : ExecutionStanding) (before fuel : ℕ) : Type 0 where
  pub steps : ℕ
  pub came : metered before (walk (setting_at first) steps (config_at first)) ≡ Went (config_at now) fuel
  pub setting : setting_at now ≡ setting_at first
  pub whole : now.broken ≡ false
  pub less : fuel ≤ before

pub gone_nowhere : (first : ExecutionStanding) (fuel : ℕ) → first.broken ≡ false → HasGone first first fuel fuel
gone_nowhere first fuel whole = record {
  steps = 0;
  came = gives fuel (config_at first);
  setting = refl;
  whole = whole;
  less = omega arith;
}

pub one_step : (setting : Setting) (steps : ℕ) (x y : Config) (before fuel : ℕ)
    → metered before (walk setting steps x) ≡ Went y fuel
    → metered before (walk setting (plus steps 1) x) ≡ metered fuel (next setting y >>= walk setting 0)
one_step setting steps x y before fuel e =
    ap (metered before) (walk_plus setting steps 1 x) ∙ goes before fuel (walk setting steps x) y (walk setting 1) e

pub gone_further : (first now later : ExecutionStanding) (before fuel left : ℕ) → HasGone first now before fuel
    → metered fuel (next (setting_at now) (config_at now)) ≡ Went (config_at later) left
    → setting_at later ≡ setting_at now
    → later.broken ≡ false → left ≤ fuel → HasGone first later before left
gone_further first now later before fuel left h e s w l =
    let run : metered fuel (next (setting_at first) (config_at now)) ≡ Went (config_at later) left =
    ap (λ k. metered fuel (next k (config_at now))) (sym h.setting) ∙ e in
    record {
      steps = plus h.steps 1;
      came = one_step (setting_at first) h.steps (config_at first) (config_at now) before fuel h.came
          ∙ goes fuel left (next (setting_at first) (config_at now)) (config_at later) (walk (setting_at first) 0) run
          ∙ gives left (config_at later);
      setting = s ∙ h.setting;
      whole = w;
      less = let k = h.less in omega arith;
    }

pub gone_walks : {E : Type 0} (first now : ExecutionStanding) (before fuel : ℕ) (e : E) → HasGone first now before fuel
    → Walks first now before (Ok e) fuel
gone_walks first now before fuel e h = record { steps = h.steps; gives = h.came }

pub gone_fails : {E : Type 0} (first now later : ExecutionStanding) (before fuel left : ℕ) (why : Stop)
    → HasGone first now before fuel → Failed why left (metered fuel (next (setting_at now) (config_at now)))
    → Walks {E = E} first later before (Err why) left
gone_fails first now later before fuel left why h e =
    let run : Failed why left (metered fuel (next (setting_at first) (config_at now))) =
    subst (λ k. Failed why left (metered fuel (next k (config_at now)))) h.setting e in
    record {
      steps = plus h.steps 1;
      gives = subst (λ m. Failed why left m)
          (sym (one_step (setting_at first) h.steps (config_at first) (config_at now) before fuel h.came))
          (fails fuel left (next (setting_at first) (config_at now)) (walk (setting_at first) 0) why run);
    }

-- the same of an error that is passed on
pub gone_breaks : {E : Type 0} (first now later : ExecutionStanding) (before fuel left : ℕ) (why : Stop)
    (r : Result E Stop)
    → IsErrAnd r (λ e. e ≡ why) → HasGone first now before fuel
    → Failed why left (metered fuel (next (setting_at now) (config_at now))) → Walks first later before r left
gone_breaks first now later before fuel left why (Ok x) e h f = absurd e
gone_breaks {E = E} first now later before fuel left why (Err k) e h f =
    subst (λ (w : Stop). Walks {E = E} first later before (Err w) left) (sym e)
    (gone_fails {E = E} first now later before fuel left why h f)
