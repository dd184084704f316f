-- The probes of `turn` and `profile`, if memory runs out: `before` is the list as it is passed, and
-- `after` as it is left.
use Rattle.std.specs.Prelude.{◌≡◌, ◌⊎◌, ◌<◌, ◌+◌, ℕ, List, [], ◌∷◌, ◌++◌}
use Rattle.std.specs.declared.option.Option.{Option}
use Rattle.command_plan.specs.rpp_words.declared.input.FieldWord.{FieldWord}
use Rattle.command_plan.specs.rpp_words.declared.input.Limits.{Limits}
use Rattle.command_plan.specs.rpp_tree.declared.limits.TheConstants.{MOST_BYTES}
use Rattle.command_plan.specs.rpp_tree.Tree.{Source}
use Rattle.command_plan.specs.declared.plan.Sizes.{Sizes}
use Rattle.command_plan.specs.rpp_ports.Ports.{Texts}
use Rattle.command_plan.specs.rpp_probes.declared.probe.StepAt.{StepAt}
use Rattle.command_plan.specs.rpp_probes.Tally.{Watch, left_after, IsCutShort}
use Rattle.image_inverter.specs.pisa_isa.declared.cell.Cell.{Cell}
use Rattle.image_inverter.specs.pisa_isa.declared.machine.Stop.TheVariants.{Finished}
use Rattle.image_inverter.specs.pisa_isa.Image.{Segments, IsImage}
use Rattle.image_inverter.specs.pisa_isa.Flipped.{flipped}
use Rattle.image_inverter.specs.pisa_isa.Loaded.{loaded_state}
use Rattle.image_inverter.specs.pisa_isa.Machine.{State}
use Rattle.image_inverter.specs.pisa_isa.Runs.{started}
use Rattle.store_report.specs.pisa_machine.Told.{counted_steps}
use Rattle.store_report.specs.roopl_semantics.StandsFor.{StandsFor, run_of}
use Rattle.command_plan.specs.Plans.{WithText, WithInput}
use Rattle.program_runs.specs.run_settings.Runnable.{RunsTo}

-- Memory ran out for the line of a probe that ended with a step of a run of at most so many. All
-- probes observed the steps before it, and a prefix of the list observed that step.
pub record IsToldShort (code : List Cell) (steps : ℕ) (m : State) (before after : List Watch)
    : Type 0 where
  pub whole : ℕ
  pub within : whole < steps
  pub step : StepAt
  pub counted : counted_steps code (whole + 1) m ≡ counted_steps code whole m ++ step ∷ []
  pub lines : List (List ℕ)
  pub more : List (List ℕ)
  pub cut_short : IsCutShort step (left_after (counted_steps code whole m) before) after lines more

-- they observed all counted steps of the run, or it was aborted so
abbrev pub IsToldSoFar : List Cell → (steps : ℕ) → State → (before after : List Watch) → Type 0
IsToldSoFar code steps m before after =
    (after ≡ left_after (counted_steps code steps m) before) ⊎ IsToldShort code steps m before after

-- an image that implements the program had finished, and they observed the run of the inverse image
-- from there
pub record TurnsShort (before after : List Watch) (program : Source) (limits : Limits)
    (input : List FieldWord) (steps : ℕ) : Type 0 where
  pub image : Segments
  pub is_image : IsImage image
  pub stands : StandsFor program image
  pub finished : (run_of image limits input steps).why ≡ Finished
  pub told : IsToldSoFar (flipped image.code) steps
      (started (flipped image.code) (run_of image limits input steps).last.regs
      (run_of image limits input steps).last.cells) before after

-- they observed the run of an image that implements the program
pub record ProfilesShort (before after : List Watch) (program : Source) (limits : Limits)
    (input : List FieldWord) (steps : ℕ) : Type 0 where
  pub image : Segments
  pub is_image : IsImage image
  pub stands : StandsFor program image
  pub told : IsToldSoFar image.code steps (loaded_state image limits input) before after

-- they are as they were passed, or observed a run of the text on an input
abbrev pub IsTurnShort : (before after : List Watch) → (text given : List ℕ)
    → (sizes : Sizes) → Type 0
IsTurnShort before after text given sizes =
    (after ≡ before)
    ⊎ RunsTo text given sizes.room (λ program limits input. TurnsShort before after program limits
    input sizes.bound)

abbrev pub IsProfileShort : (before after : List Watch) → (text given : List ℕ)
    → (sizes : Sizes) → Type 0
IsProfileShort before after text given sizes =
    (after ≡ before)
    ⊎ RunsTo text given sizes.room (λ program limits input. ProfilesShort before after program
    limits
    input sizes.bound)

-- the same of `turn` of this file, on an input if there is one
abbrev pub TurnsFileShort : (before after : List Watch) → (file : List ℕ)
    → (input : Option (List ℕ)) → (sizes : Sizes) → Option Texts → Type 0
TurnsFileShort before after file input sizes told =
    (after ≡ before)
    ⊎ WithText told file MOST_BYTES
    (λ text. WithInput told input
    (λ given. IsTurnShort before after text given sizes))

-- and of `profile`, which takes no input
abbrev pub ProfilesFileShort : (before after : List Watch) → (file : List ℕ)
    → (sizes : Sizes) → Option Texts → Type 0
ProfilesFileShort before after file sizes told =
    (after ≡ before)
    ⊎ WithText told file MOST_BYTES (λ text. IsProfileShort before after text [] sizes)
