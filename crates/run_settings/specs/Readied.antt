-- What is found of texts that are to be run.
use Rattle.std.specs.Prelude.{◌≡◌, ℕ, List}
use Rattle.roopl_judge.specs.rpp_words.declared.input.FieldWord.{FieldWord}
use Rattle.roopl_judge.specs.rpp_words.declared.input.Limits.{Limits}
use Rattle.roopl_judge.specs.rpp_tree.Tree.{Source}
use Rattle.roopl_judge.specs.rpp_tree.Views.{source_of}
use Rattle.command_plan.specs.Plans.{Planned, planned}
use Rattle.run_settings.specs.declared.setting.Ready.{Ready}
use Rattle.run_settings.specs.declared.setting.Ready.TheVariants.{Refused, Runs}

-- a plan refuses them as R says, or there is a run of so many steps, and C holds for its program,
-- sizes and input
abbrev pub IsReadied : (R : Planned → Type 0) → (C : Source → Limits → List FieldWord → Type 0)
    → (steps : ℕ) → Ready → Type 0
IsReadied R C steps (Refused plan) = R (planned plan)
IsReadied R C steps (Runs setting) =
    C (source_of setting.checked) setting.limits setting.input.words.items × (setting.bound ≡ steps)
