-- A plan of `wrap` writes nothing.
use Rattle.std.proofs.Common.{ℕ, List, None, Some, Ok, Err, inl, refl}
use Rattle.std.specs.declared.option.Option.{Option}
use Rattle.std.specs.Prelude.{Result}
use Rattle.command_plan.specs.rpp_words.declared.input.FieldWord.{FieldWord}
use Rattle.command_plan.specs.rpp_words.declared.input.Limits.{Limits}
use Rattle.command_plan.specs.rpp_words.declared.input.TheConstants.{MOST_DEEP}
use Rattle.command_plan.specs.rpp_tree.Tree.{Source}
use Rattle.command_plan.specs.rpp_ports.Ports.{Texts}
use Rattle.command_plan.specs.class_rules.Refusal.{Refusal}
use Rattle.store_report.specs.pisa_isa.declared.machine.Stop.{Stop}
use Rattle.store_report.specs.pisa_isa.declared.machine.Stop.TheVariants.{Finished, Trap, Bound, Returned}
use Rattle.store_report.specs.pisa_isa.declared.machine.Stop.TheVariants.{BadAddress, OffCode}
use Rattle.store_report.specs.pisa_isa.Image.{Segments}
use Rattle.store_report.specs.pisa_isa.Machine.{State}
use Rattle.command_plan.specs.pisa_loader.Limiting.{limits_refusal}
use Rattle.command_plan.specs.pisa_loader.declared.error.LoadError.{LoadError}
use Rattle.command_plan.specs.pisa_loader.declared.input.InputField.{InputField}
use Rattle.command_plan.specs.declared.plan.Sizes.{Sizes}
use Rattle.command_plan.specs.Plans.{Planned, WritesOnly}
use Rattle.command_plan.proofs.Writes.{along}
use Rattle.program_runs.specs.run_settings.Inputs.{input_fields, given_input}
use Rattle.wrap_commands.specs.declared.error.NamesError.{NamesError}
use Rattle.wrap_commands.specs.declared.error.NamesError.TheVariants.{UnknownResult, NoMemory}
use Rattle.wrap_commands.specs.WrapNames.{results_of}
use Rattle.wrap_commands.specs.WrapPlans.{TellsStop, OfRunProgram, IsGivenPlan, IsNamedPlan, IsSizedWrapPlan, IsWrapPlan}
use Rattle.wrap_commands.specs.WrapPlans.{WrapsFile}

stop_writes : (why : Stop) (program : Source) (image : Segments) (fields : List InputField) (limits : Limits)
    (input : List FieldWord) (last : State) (spent steps : ℕ) (p : Planned)
    → TellsStop why program image fields limits input last spent steps p → WritesOnly p None
stop_writes Finished program image fields limits input last spent steps p h = along p _ None h.told (inl refl)
stop_writes (Trap code) program image fields limits input last spent steps p h = along p _ None h.reported (inl refl)
stop_writes Bound program image fields limits input last spent steps p h = along p _ None h.told (inl refl)
stop_writes Returned program image fields limits input last spent steps p h = absurd h
stop_writes (BadAddress a) program image fields limits input last spent steps p h = absurd h
stop_writes (OffCode a) program image fields limits input last spent steps p h = absurd h

module _ (count counted : ℕ) where
  given_writes : (input : Result (List FieldWord) LoadError) (program : Source) (fields : List InputField)
      (limits : Limits) (steps : ℕ) (p : Planned) → IsGivenPlan count counted input program fields limits steps p
      → WritesOnly p None
  given_writes (Err e) program fields limits steps p h = along p _ None h.0 (inl refl)
  given_writes (Ok input) program fields limits steps p h =
      stop_writes _ program h.image fields limits input _ _ steps p h.tells

  named_writes : (named : Result (List InputField) NamesError) (given : List ℕ) (program : Source) (limits : Limits)
      (steps : ℕ) (p : Planned) → IsNamedPlan count counted named given program limits steps p → WritesOnly p None
  named_writes (Err (UnknownResult at)) given program limits steps p h = along p _ None h.0 (inl refl)
  named_writes (Err NoMemory) given program limits steps p h = absurd h
  named_writes (Ok fields) given program limits steps p h =
      given_writes (given_input program given) program fields limits steps p h

  sized_writes : (refusal : Option LoadError) (names given : List ℕ) (program : Source) (limits : Limits) (steps : ℕ)
      (p : Planned) → IsSizedWrapPlan count counted refusal names given program limits steps p → WritesOnly p None
  sized_writes (Some e) names given program limits steps p h = along p _ None h.0 (inl refl)
  sized_writes None names given program limits steps p h =
      named_writes (results_of (input_fields program) names) given program limits steps p h

  judged_writes : (judgement : Result Source Refusal) (names given : List ℕ) (sizes : Sizes) (p : Planned)
      → OfRunProgram count counted (λ program. IsSizedWrapPlan count counted
      (limits_refusal sizes.room.heap sizes.room.deep MOST_DEEP) names
      given program (record { heap = sizes.room.heap; deep = sizes.room.deep }) sizes.bound) judgement p
      → WritesOnly p None
  judged_writes (Err refusal) names given sizes p h = along p _ None h.0 (inl refl)
  judged_writes (Ok program) names given sizes p h =
      sized_writes (limits_refusal sizes.room.heap sizes.room.deep MOST_DEEP) names given program
      (record { heap = sizes.room.heap; deep = sizes.room.deep }) sizes.bound p h

  wrap_writes : (text names given : List ℕ) (sizes : Sizes) (p : Planned)
      → IsWrapPlan count counted text names given sizes p → WritesOnly p None
  wrap_writes text names given sizes p g = judged_writes g.judgement names given sizes p g.plan

pub wraps_file_writes : (count counted : ℕ) (file names : List ℕ) (input : Option (List ℕ)) (sizes : Sizes)
    (told : Option Texts) (p : Planned) → WrapsFile count counted file names input sizes told p
    → WritesOnly p None
wraps_file_writes count counted file names input sizes told p h =
    wrap_writes count counted h.text names h.holds.text sizes p h.holds.holds
