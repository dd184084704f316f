-- The plans of the commands that run a program: `go`, `turn` and `profile`. For probes that watch,
-- `before` is the list as it is passed, and `after` as it is left; so `count` and `counted` are the
-- counter of machine steps.
use Rattle.std.specs.Prelude.{◌≡◌, ◌⊎◌, ℕ, ◌+◌, List, [], ◌++◌, map, length}
use Rattle.std.specs.declared.option.Option.{Option}
use Rattle.command_plan.specs.rpp_words.declared.input.FieldWord.{FieldWord}
use Rattle.command_plan.specs.rpp_words.declared.input.Limits.{Limits}
use Rattle.command_plan.specs.rpp_tree.declared.limits.TheConstants.{MOST_BYTES}
use Rattle.command_plan.specs.rpp_tree.Tree.{Source}
use Rattle.command_plan.specs.declared.plan.Sizes.{Sizes}
use Rattle.command_plan.specs.rpp_ports.Ports.{Texts}
use Rattle.command_plan.specs.rpp_probes.declared.probe.StepAt.{StepAt}
use Rattle.command_plan.specs.rpp_probes.Tally.{Watch, left_after, lines_after, lines_shown}
use Rattle.command_plan.specs.rpp_probes.Tally.{watch_line}
use Rattle.image_inverter.specs.pisa_isa.declared.cell.Cell.{Cell}
use Rattle.image_inverter.specs.pisa_isa.declared.machine.Stop.{Stop}
use Rattle.image_inverter.specs.pisa_isa.declared.machine.Stop.TheVariants.{Finished}
use Rattle.image_inverter.specs.pisa_isa.Image.{Segments}
use Rattle.image_inverter.specs.pisa_isa.Flipped.{flipped}
use Rattle.image_inverter.specs.pisa_isa.Machine.{State}
use Rattle.image_inverter.specs.pisa_isa.Loaded.{loaded, loaded_state}
use Rattle.image_inverter.specs.pisa_isa.Runs.{End, started}
use Rattle.store_report.specs.pisa_machine.Told.{counted_steps}
use Rattle.store_report.specs.roopl_semantics.Report.{report}
use Rattle.store_report.specs.roopl_semantics.Source.{starting}
use Rattle.store_report.specs.roopl_semantics.StandsFor.{run_of}
use Rattle.command_plan.specs.Plans.{Planned, WithText, WithInput}
use Rattle.program_runs.specs.run_settings.Runnable.{RefusesRun, RunsTo}
use Rattle.program_commands.specs.ProgramPlans.{RunsImage, back_lines}

-- the plan of `go` of a text on an input
abbrev pub IsGoPlan : (count counted : ℕ) → (text given : List ℕ) → (sizes : Sizes)
    → Planned → Type 0
IsGoPlan count counted text given sizes p =
    (RefusesRun text given sizes.room p × (counted ≡ count))
    ⊎ RunsTo text given sizes.room (λ program limits input. RunsImage count counted program limits
    input sizes.bound p)

-- the steps that `turn` reports: after a finish only those of the run of the inverse image from
-- there
abbrev pub back_steps : Stop → List Cell → State → ℕ → List StepAt
back_steps Finished code m steps =
    counted_steps (flipped code) steps (started (flipped code) m.regs m.cells)
back_steps _ code m steps = []

-- the machine steps of the way back, which is made after a finish
abbrev pub steps_back : Stop → (spent : ℕ) → ℕ
steps_back Finished spent = spent
steps_back _ spent = 0

-- a plan, and after a finish the lines on the way back
abbrev pub with_way_back : Stop → (lines : List ℕ) → Planned → Planned
with_way_back Finished lines said = record said { text = said.text ++ lines }
with_way_back _ lines said = said

-- The plan says what that of `go` says. After a finish it adds the steps of the way back, the store
-- with which the source began, and how many the first cells are. The probes observed the steps of
-- the way back, and no other steps are made than those of both runs.
pub record TurnsImage (before after : List Watch) (count counted : ℕ) (program : Source)
    (limits : Limits) (input : List FieldWord) (steps : ℕ) (p : Planned) : Type 0 where
  pub said : Planned
  pub middle : ℕ
  pub runs : RunsImage count middle program limits input steps said
  pub told : let end : End = run_of runs.image limits input steps in
      after ≡ left_after (back_steps end.why runs.image.code end.last steps) before
  pub reported : let end : End = run_of runs.image limits input steps in
      p ≡ with_way_back end.why (back_lines end.spent
      (report program (starting program input).store)
      (length (loaded runs.image.statics limits input))) said
  pub once : let end : End = run_of runs.image limits input steps in
      counted ≡ middle + steps_back end.why end.spent

-- the plan of `turn` of a text on an input
abbrev pub IsTurnPlan : (before after : List Watch) → (count counted : ℕ)
    → (text given : List ℕ) → (sizes : Sizes) → Planned → Type 0
IsTurnPlan before after count counted text given sizes p =
    (RefusesRun text given sizes.room p × ((after ≡ before) × (counted ≡ count)))
    ⊎ RunsTo text given sizes.room (λ program limits input. TurnsImage before after count counted
    program limits input sizes.bound p)

-- the counted steps of the run of an image
abbrev pub run_steps : Segments → Limits → List FieldWord → ℕ → List StepAt
run_steps image limits input steps = counted_steps image.code steps
    (loaded_state image limits input)

-- The plan says what that of `go` says, followed by the lines of the probes: of those that ended,
-- in the order of their ends, and then of the others. They observed the steps of the run of that
-- image.
pub record ProfilesImage (before after : List Watch) (count counted : ℕ) (program : Source)
    (limits : Limits) (input : List FieldWord) (steps : ℕ) (p : Planned) : Type 0 where
  pub said : Planned
  pub runs : RunsImage count counted program limits input steps said
  pub told : after ≡ left_after (run_steps runs.image limits input steps) before
  pub reported : p ≡ record said {
    text = (said.text ++ lines_shown (lines_after (run_steps runs.image limits input steps) before))
        ++ lines_shown (map watch_line after);
  }

-- the plan of `profile` of a text
abbrev pub IsProfilePlan : (before after : List Watch) → (count counted : ℕ)
    → (text given : List ℕ) → (sizes : Sizes) → Planned → Type 0
IsProfilePlan before after count counted text given sizes p =
    (RefusesRun text given sizes.room p × ((after ≡ before) × (counted ≡ count)))
    ⊎ RunsTo text given sizes.room (λ program limits input. ProfilesImage before after count counted
    program limits input sizes.bound p)

-- the plan of `go` of this file, on an input if there is one
abbrev pub RunGoesOn : (count counted : ℕ) → (file : List ℕ) → (input : Option (List ℕ))
    → (sizes : Sizes) → Option Texts → Planned → Type 0
RunGoesOn count counted file input sizes told p =
    WithText told file MOST_BYTES
    (λ text. WithInput told input (λ given. IsGoPlan count counted text given sizes p))

-- that of `turn`
abbrev pub TurnsFile : (before after : List Watch) → (count counted : ℕ) → (file : List ℕ)
    → (input : Option (List ℕ)) → (sizes : Sizes) → Option Texts → Planned → Type 0
TurnsFile before after count counted file input sizes told p =
    WithText told file MOST_BYTES
    (λ text. WithInput told input (λ given. IsTurnPlan before after count counted text given sizes
    p))

-- that of `profile`, which takes no input
abbrev pub ProfilesFile : (before after : List Watch) → (count counted : ℕ) → (file : List ℕ)
    → (sizes : Sizes) → Option Texts → Planned → Type 0
ProfilesFile before after count counted file sizes told p =
    WithText told file MOST_BYTES
    (λ text. IsProfilePlan before after count counted text [] sizes p)
