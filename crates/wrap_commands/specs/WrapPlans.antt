-- The plan of `wrap`. Its machine steps are counted: `count` is their counter as it is passed, and
-- `counted` as it is left.
use Rattle.std.specs.Prelude.{◌≡◌, ℕ, ◌+◌, ◌<◌, ◌≤◌, List, ◌++◌, All, length, slice_get, None, Some}
use Rattle.std.specs.Prelude.{Result, Ok, Err, IsTrue}
use Rattle.std.specs.declared.option.Option.{Option}
use Rattle.command_plan.specs.rpp_words.declared.input.FieldWord.{FieldWord}
use Rattle.command_plan.specs.rpp_words.declared.input.Limits.{Limits}
use Rattle.command_plan.specs.rpp_words.declared.input.TheConstants.{MOST_DEEP}
use Rattle.command_plan.specs.rpp_tree.declared.limits.TheConstants.{MOST_BYTES}
use Rattle.command_plan.specs.rpp_tree.Tree.{Source}
use Rattle.command_plan.specs.rpp_ports.Ports.{Texts}
use Rattle.command_plan.specs.class_rules.Refusal.{Refusal}
use Rattle.store_report.specs.pisa_isa.declared.machine.Stop.{Stop}
use Rattle.store_report.specs.pisa_isa.declared.machine.Stop.TheVariants.{Finished, Trap}
use Rattle.store_report.specs.pisa_isa.declared.machine.Stop.TheVariants.{Bound as AtBound}
use Rattle.store_report.specs.pisa_isa.Image.{Segments, IsImage}
use Rattle.store_report.specs.pisa_isa.Loaded.{loaded}
use Rattle.store_report.specs.pisa_isa.Machine.{State as MachineState}
use Rattle.store_report.specs.pisa_isa.Runs.{End}
use Rattle.command_plan.specs.pisa_loader.Limiting.{limits_refusal}
use Rattle.command_plan.specs.pisa_loader.declared.error.LoadError.{LoadError}
use Rattle.command_plan.specs.pisa_loader.declared.input.InputField.{InputField}
use Rattle.program_runs.specs.run_settings.roopl_semantics.Store.{main_name, object_at}
use Rattle.program_runs.specs.run_settings.roopl_semantics.Source.{main_fields, is_int_field}
use Rattle.program_runs.specs.run_settings.roopl_semantics.StandsFor.{StandsFor, EndsAt}
use Rattle.refine_wrap.specs.bennett_wrap.Wrapped.{Wrapped}
use Rattle.refine_wrap.specs.Programs.{EndsDone, wrapped_run, enough_wrapped}
use Rattle.program_runs.specs.roopl_judge.Judged.{IsJudged}
use Rattle.command_plan.specs.declared.plan.Sizes.{Sizes}
use Rattle.command_plan.specs.command_ends.declared.verdict.Verdict.TheVariants.{Done, Bound}
use Rattle.command_plan.specs.command_ends.declared.verdict.Verdict.TheVariants.{InputRefused}
use Rattle.command_plan.specs.Plans.{Planned, prints, WithText, WithInput}
use Rattle.command_plan.specs.Texts.{load_line, steps_line, bound_lines}
use Rattle.program_runs.specs.run_settings.Inputs.{input_fields, given_input}
use Rattle.program_runs.specs.run_settings.Runnable.{OfProgram}
use Rattle.program_runs.specs.Reports.{ReportsFault}
use Rattle.wrap_commands.specs.declared.error.NamesError.{NamesError}
use Rattle.wrap_commands.specs.declared.error.NamesError.TheVariants.{UnknownResult, NoMemory}
use Rattle.wrap_commands.specs.WrapNames.{result_cells, results_of}
use Rattle.wrap_commands.specs.WrapShown.{HasAsciiFieldName, result_lines, initial_line}
use Rattle.wrap_commands.specs.WrapShown.{unknown_result_line}

-- at most 64 int fields of the main class
pub record AreResults (program : Source) (fields : List InputField) : Type 0 where
  pub ints : All (λ field. IsTrue (is_int_field (slice_get (main_fields program) field.field)))
      fields
  pub names : All HasAsciiFieldName fields
  pub few : length fields ≤ 64

-- The semantics gives a store, and the plan reports its named fields. The final memory is the
-- loaded one, and only the results are added.
pub record TellsResults (program : Source) (image : Segments) (fields : List InputField)
    (limits : Limits) (input : List FieldWord) (last : MachineState) (spent : ℕ)
    (p : Planned) : Type 0 where
  pub done : EndsDone program image (result_cells fields) limits input last
  pub told : p ≡ prints Done ((result_lines fields (object_at done.end.store main_name).cells
      ++ initial_line (length (loaded image.statics limits input))) ++ steps_line spent)

-- the bound ended the run, and the plan says so: the source ends at no cost for which so many steps
-- are enough
pub record TellsBound (program : Source) (limits : Limits) (input : List FieldWord) (steps : ℕ)
    (p : Planned) : Type 0 where
  pub early : (cost : ℕ) → EndsAt program limits input cost → steps < enough_wrapped cost
  pub told : p ≡ prints Bound (bound_lines steps)

-- what the plan of a wrapped run says, by why it ended; it never ends otherwise
abbrev pub TellsStop : Stop → Source → Segments → List InputField → Limits → List FieldWord
    → MachineState → (spent steps : ℕ) → Planned → Type 0
TellsStop Finished program image fields limits input last spent steps p =
    TellsResults program image fields limits input last spent p
TellsStop (Trap code) program image fields limits input last spent steps p =
    ReportsFault program limits input code spent p
TellsStop AtBound program image fields limits input last spent steps p =
    TellsBound program limits input steps p
TellsStop _ program image fields limits input last spent steps p = ⊥

-- There is an image that implements the program, and one that is it wrapped for the cells of these
-- fields. The plan reports how the run of the wrapped one ended, of at most so many steps from the
-- loaded memory followed by zeros. No other steps are made.
pub record WrapsImage (count counted : ℕ) (program : Source) (fields : List InputField)
    (limits : Limits) (input : List FieldWord) (steps : ℕ) (p : Planned) : Type 0 where
  pub image : Segments
  pub is_image : IsImage image
  pub stands : StandsFor program image
  pub wrapped : Segments
  pub wrapped_is_image : IsImage wrapped
  pub wraps : Wrapped image.code (result_cells fields) wrapped.code
  pub tells :
      let end : End = wrapped_run image (result_cells fields) wrapped.code limits input steps in
      TellsStop end.why program image fields limits input end.last end.spent steps p
  pub once : counted
      ≡ count + (wrapped_run image (result_cells fields) wrapped.code limits input steps).spent

-- the input is checked, and then the run is made on it
abbrev pub IsGivenPlan : (count counted : ℕ) → Result (List FieldWord) LoadError → Source
    → List InputField → Limits → ℕ → Planned → Type 0
IsGivenPlan count counted (Err e) program fields limits steps p =
    (p ≡ prints InputRefused (load_line e)) × (counted ≡ count)
IsGivenPlan count counted (Ok input) program fields limits steps p =
    WrapsImage count counted program fields limits input steps p

-- the names are checked before the input
abbrev pub IsNamedPlan : (count counted : ℕ) → Result (List InputField) NamesError
    → (given : List ℕ) → Source → Limits → ℕ → Planned → Type 0
IsNamedPlan count counted (Err (UnknownResult at)) given program limits steps p =
    (p ≡ prints InputRefused (unknown_result_line at)) × (counted ≡ count)
IsNamedPlan count counted (Err NoMemory) given program limits steps p = ⊥
IsNamedPlan count counted (Ok fields) given program limits steps p =
    IsGivenPlan count counted (given_input program given) program fields limits steps p

-- the sizes of heap and stack are tried before the names
abbrev pub IsSizedWrapPlan : (count counted : ℕ) → Option LoadError → (names given : List ℕ) → Source
    → Limits → ℕ → Planned → Type 0
IsSizedWrapPlan count counted (Some e) names given program limits steps p =
    (p ≡ prints InputRefused (load_line e)) × (counted ≡ count)
IsSizedWrapPlan count counted None names given program limits steps p =
    IsNamedPlan count counted (results_of (input_fields program) names) given program limits steps p

-- the first refusal of a text is reported and no step is made, or P holds for the program that it
-- is
abbrev pub OfRunProgram : (count counted : ℕ) → (P : Source → Planned → Type 0)
    → Result Source Refusal → Planned → Type 0
OfRunProgram count counted P (Err refusal) p = OfProgram P (Err refusal) p × (counted ≡ count)
OfRunProgram count counted P (Ok program) p = P program p

-- the text is checked, and the plan is that of the result
pub record IsWrapPlan (count counted : ℕ) (text names given : List ℕ) (sizes : Sizes)
    (p : Planned) : Type 0 where
  pub judgement : Result Source Refusal
  pub judged : IsJudged text judgement
  pub plan : OfRunProgram count counted
      (λ program. IsSizedWrapPlan count counted (limits_refusal sizes.room.heap sizes.room.deep
      MOST_DEEP) names given
      program (record { heap = sizes.room.heap; deep = sizes.room.deep }) sizes.bound) judgement p

-- the plan of `wrap` of this file for these names, on an input if there is one
abbrev pub WrapsFile : (count counted : ℕ) → (file names : List ℕ) → (input : Option (List ℕ))
    → (sizes : Sizes) → Option Texts → Planned → Type 0
WrapsFile count counted file names input sizes told p =
    WithText told file MOST_BYTES
    (λ text. WithInput told input
    (λ given. IsWrapPlan count counted text names given sizes p))
