-- The plans of `check` and `compile`, and what a run of a program reports.
use Rattle.std.specs.Prelude.{◌≡◌, ℕ, ◌+◌, ◌≤◌, List, ◌++◌, Ok}
use Rattle.std.specs.Prelude.{codes}
use Rattle.std.specs.declared.option.Option.{Option}
use Rattle.std.specs.Fmt.{decimal}
use Rattle.command_plan.specs.rpp_words.declared.input.FieldWord.{FieldWord}
use Rattle.command_plan.specs.rpp_words.declared.input.Limits.{Limits}
use Rattle.command_plan.specs.rpp_tree.declared.limits.TheConstants.{MOST_BYTES}
use Rattle.command_plan.specs.rpp_tree.Tree.{Source}
use Rattle.command_plan.specs.rpp_ports.Ports.{Texts}
use Rattle.program_runs.specs.program_codegen.Notes.{AreNotes}
use Rattle.image_inverter.specs.pisa_isa.declared.machine.Stop.{Stop}
use Rattle.image_inverter.specs.pisa_isa.declared.machine.Stop.TheVariants.{Finished, Trap, Bound as AtBound}
use Rattle.image_inverter.specs.pisa_isa.Image.{Segments, IsImage}
use Rattle.image_inverter.specs.pisa_isa.Notes.{NoteLists}
use Rattle.image_inverter.specs.pisa_isa.Flipped.{Restores}
use Rattle.command_plan.specs.pisa_image.ImageBytes.{image_bytes}
use Rattle.command_plan.specs.pisa_image.Reading.{noted, image_at}
use Rattle.image_inverter.specs.pisa_isa.Loaded.{loaded}
use Rattle.image_inverter.specs.pisa_isa.Runs.{End, zero_registers}
use Rattle.store_report.specs.roopl_semantics.StandsFor.{StandsFor, EndsAt, run_of, enough_steps}
use Rattle.program_runs.specs.run_settings.Runnable.{IsJudgedPlan}
use Rattle.command_plan.specs.rpp_words.Texts.{line_end}
use Rattle.command_plan.specs.command_ends.declared.verdict.Verdict.TheVariants.{Done}
use Rattle.command_plan.specs.Plans.{Planned, prints, writes, WithText}
use Rattle.command_plan.specs.Texts.{cells_line}
use Rattle.program_runs.specs.Reports.{ReportsStore, ReportsFault, ReportsBound}

-- what is printed of the way back: its steps, the report, and how many cells are as they were
abbrev pub back_lines : (spent : ℕ) (report : List ℕ) (count : ℕ) → List ℕ
back_lines spent report count =
    codes "back " ++ (decimal spent
    ++ (line_end ++ (report ++ (codes "restored "
    ++ (decimal count ++ (codes " cells" ++ line_end))))))

-- what the plan of a run says, by why the run ended; it never ends otherwise
abbrev pub ReportsStop : Stop → Source → Limits → List FieldWord → (spent steps : ℕ) → Planned
    → Type 0
ReportsStop Finished program limits input spent steps p = ReportsStore program limits input spent p
ReportsStop (Trap code) program limits input spent steps p =
    ReportsFault program limits input code spent p
ReportsStop AtBound program limits input spent steps p = ReportsBound program limits input steps p
ReportsStop _ program limits input spent steps p = ⊥

-- There is an image that implements the program, and the plan reports its run, whose steps are
-- bounded by the cost of the source. After a finish the inverse image restores every register and
-- every cell, in as many steps. No other steps are made than those of the run: `count` is their
-- counter as it is passed, and `counted` as it is left.
pub record RunsImage (count counted : ℕ) (program : Source) (limits : Limits)
    (input : List FieldWord) (steps : ℕ) (p : Planned) : Type 0 where
  pub image : Segments
  pub is_image : IsImage image
  pub stands : StandsFor program image
  pub in_time : (cost : ℕ) → EndsAt program limits input cost
      → (run_of image limits input steps).spent ≤ enough_steps cost
  pub restores : (run_of image limits input steps).why ≡ Finished
      → Restores image.code (run_of image limits input steps) steps zero_registers
      (loaded image.statics limits input)
  pub reports : let end : End = run_of image limits input steps in
      ReportsStop end.why program limits input end.spent steps p
  pub once : counted ≡ count + (run_of image limits input steps).spent

abbrev pub IsCheckPlan : (text : List ℕ) → Planned → Type 0
IsCheckPlan text p = IsJudgedPlan text (λ program p. p ≡ prints Done (codes "accepted" ++ line_end))
    p

-- an image that implements the program is written, with notes on the program; its bytes are read as
-- the image with the notes
pub record WritesImage (program : Source) (name : List ℕ) (p : Planned) : Type 0 where
  pub image : Segments
  pub is_image : IsImage image
  pub stands : StandsFor program image
  pub notes : NoteLists
  pub are_notes : AreNotes program image notes
  pub reads_back : image_at (image_bytes (noted notes image)) ≡ Ok (noted notes image)
  pub written : p ≡ writes name (image_bytes (noted notes image))
      (cells_line (codes "compiled") image.code)

abbrev pub IsCompilePlan : (text name : List ℕ) → Planned → Type 0
IsCompilePlan text name p = IsJudgedPlan text (λ program. WritesImage program name) p

-- the plan of `check` of this file
abbrev pub ChecksFile : (file : List ℕ) → Option Texts → Planned → Type 0
ChecksFile file told p = WithText told file MOST_BYTES (λ text. IsCheckPlan text p)

-- the plan of `compile` of this file to that of an image
abbrev pub CompilesFile : (file image : List ℕ) → Option Texts → Planned → Type 0
CompilesFile file image told p = WithText told file MOST_BYTES
    (λ text. IsCompilePlan text image p)
