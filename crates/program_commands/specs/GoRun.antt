-- What the report of a run rests on.
use Rattle.std.specs.Prelude.{◌≡◌, ◌≤◌, ℕ, List, ◌++◌, length}
use Rattle.command_plan.specs.rpp_words.declared.input.FieldWord.{FieldWord}
use Rattle.command_plan.specs.rpp_words.declared.input.Limits.{Limits}
use Rattle.command_plan.specs.rpp_tree.Tree.{Source}
use Rattle.image_inverter.specs.pisa_isa.declared.machine.Stop.{Stop}
use Rattle.image_inverter.specs.pisa_isa.declared.machine.Stop.TheVariants.{Finished}
use Rattle.image_inverter.specs.pisa_isa.Image.{IsImage}
use Rattle.image_inverter.specs.pisa_isa.Loaded.{loaded, loaded_state}
use Rattle.image_inverter.specs.pisa_isa.Machine.{IsState}
use Rattle.image_inverter.specs.pisa_isa.Runs.{zero_registers}
use Rattle.store_report.specs.pisa_machine.Position.{Position, first_position}
use Rattle.store_report.specs.roopl_semantics.Store.{State}
use Rattle.store_report.specs.roopl_semantics.Source.{IsValid, GivesDone, starting}
use Rattle.store_report.specs.roopl_semantics.Report.{report}
use Rattle.command_plan.specs.rpp_words.Limits.{IsLimits}
use Rattle.store_report.specs.roopl_semantics.StandsFor.{StandsFor, run_of}
use Rattle.command_plan.specs.command_ends.declared.verdict.Verdict.TheVariants.{Done}
use Rattle.command_plan.specs.Plans.{Planned, prints}
use Rattle.command_plan.specs.Texts.{steps_line}
use Rattle.program_commands.specs.ProgramPlans.{ReportsStop, back_lines}

-- a machine is where a run of an image begins that implements the program, on this input
pub record IsLoaded (program : Source) (limits : Limits) (input : List FieldWord)
    (start : Position) : Type 0 where
  pub allowed : IsLimits limits
  pub valid : IsValid program input
  pub stands : StandsFor program start.image
  pub first : start ≡ first_position start.image zero_registers
      (loaded start.image.statics limits input)

-- a machine is where a run of at most so many steps of an image that implements the program ended,
-- on this input
pub record HasRun (program : Source) (limits : Limits) (input : List FieldWord) (bound : ℕ)
    (end : Position) (why : Stop) (spent : ℕ) : Type 0 where
  pub allowed : IsLimits limits
  pub valid : IsValid program input
  pub stands : StandsFor program end.image
  pub is_image : IsImage end.image
  pub begun : IsState (loaded_state end.image limits input)
  pub within : spent ≤ bound
  pub runs : run_of end.image limits input bound
      ≡ record { why = why; spent = spent; last = end.state }

-- the semantics gives a store, and the plan reports it, then the store with which the source began,
-- and how many the first cells are
pub record ReportsTurn (program : Source) (limits : Limits) (input : List FieldWord)
    (first : List ℕ) (spent : ℕ) (p : Planned) : Type 0 where
  pub end : State
  pub gives : GivesDone program limits input end
  pub reported : p ≡ prints Done ((report program end.store ++ steps_line spent)
      ++ back_lines spent (report program (starting program input).store) (length first))

-- what the plan of a run says that turns back after a finish, by why the run ended
abbrev pub ReportsTurned : Stop → Source → Limits → List FieldWord → (first : List ℕ)
    (spent steps : ℕ) → Planned → Type 0
ReportsTurned Finished program limits input first spent steps p =
    ReportsTurn program limits input first spent p
ReportsTurned why program limits input first spent steps p =
    ReportsStop why program limits input spent steps p
