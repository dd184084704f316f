-- A plan of a command on programs writes its target, or nothing.
use Rattle.std.proofs.Common.{◌≡◌, ℕ, List, [], ◌++◌, length, None, Some, Ok, Err, inl, inr, refl}
use Rattle.std.specs.declared.option.Option.{Option}
use Rattle.std.specs.Prelude.{Result}
use Rattle.command_plan.specs.rpp_words.declared.input.Limits.{Limits}
use Rattle.command_plan.specs.rpp_tree.Tree.{Source}
use Rattle.image_inverter.specs.pisa_isa.declared.machine.Stop.{Stop}
use Rattle.image_inverter.specs.pisa_isa.declared.machine.Stop.TheVariants.{Finished, Trap, Bound, Returned, BadAddress}
use Rattle.image_inverter.specs.pisa_isa.declared.machine.Stop.TheVariants.{OffCode}
use Rattle.command_plan.specs.declared.plan.Sizes.{Sizes}
use Rattle.command_plan.specs.rpp_ports.Ports.{Texts}
use Rattle.command_plan.specs.rpp_words.declared.input.FieldWord.{FieldWord}
use Rattle.command_plan.specs.pisa_loader.declared.error.LoadError.{LoadError}
use Rattle.program_runs.specs.run_settings.Inputs.{given_input}
use Rattle.command_plan.specs.Plans.{Planned, WritesOnly}
use Rattle.command_plan.specs.rpp_probes.Tally.{Watch}
use Rattle.program_commands.specs.ProgramPlans.{WritesImage, IsCheckPlan, IsCompilePlan, ChecksFile}
use Rattle.program_commands.specs.ProgramPlans.{CompilesFile, ReportsStop, RunsImage, back_lines}
use Rattle.program_commands.specs.RunPlans.{IsGoPlan, IsTurnPlan, IsProfilePlan, with_way_back}
use Rattle.program_commands.specs.RunPlans.{RunGoesOn, TurnsFile, ProfilesFile}
use Rattle.store_report.specs.roopl_semantics.Run.{Run, Done as OverWith, Fault, More}
use Rattle.store_report.specs.roopl_semantics.Store.{State}
use Rattle.store_report.specs.roopl_semantics.Source.{source, starting}
use Rattle.store_report.specs.roopl_semantics.Report.{report}
use Rattle.store_report.specs.roopl_semantics.StandsFor.{run_of}
use Rattle.image_inverter.specs.pisa_isa.Loaded.{loaded}
use Rattle.image_inverter.specs.pisa_isa.Runs.{End}
use Rattle.command_plan.specs.pisa_loader.Limiting.{limits_refusal}
use Rattle.command_plan.proofs.Writes.{along}
use Rattle.program_runs.proofs.run_settings_laws.RefusedRuns.{judged_writes, refused_writes}

stop_writes : (why : Stop) (program : Source) (limits : Limits) (input : List FieldWord) (spent steps : ℕ)
    (p : Planned) → ReportsStop why program limits input spent steps p → WritesOnly p None
stop_writes Finished program limits input spent steps p h = along p _ None h.reported (inl refl)
stop_writes (Trap code) program limits input spent steps p h = along p _ None h.reported (inl refl)
stop_writes Bound program limits input spent steps p h = along p _ None h.reported (inl refl)
stop_writes Returned program limits input spent steps p h = absurd h
stop_writes (BadAddress a) program limits input spent steps p h = absurd h
stop_writes (OffCode a) program limits input spent steps p h = absurd h

image_writes : (count counted : ℕ) (program : Source) (limits : Limits) (input : List FieldWord) (steps : ℕ)
    (p : Planned) → RunsImage count counted program limits input steps p → WritesOnly p None
image_writes count counted program limits input steps p runs =
    stop_writes _ program limits input _ steps p runs.reports

-- a longer text writes no more
longer_writes : (said p : Planned) (text : List ℕ) → p ≡ record said { text = text } → WritesOnly said None
    → WritesOnly p None
longer_writes said p text is h = along p (record said { text = text }) None is h

back_writes : (why : Stop) (lines : List ℕ) (said p : Planned) → p ≡ with_way_back why lines said
    → WritesOnly said None → WritesOnly p None
back_writes Finished lines said p is h = longer_writes said p (said.text ++ lines) is h
back_writes (Trap code) lines said p is h = along p said None is h
back_writes Bound lines said p is h = along p said None is h
back_writes Returned lines said p is h = along p said None is h
back_writes (BadAddress a) lines said p is h = along p said None is h
back_writes (OffCode a) lines said p is h = along p said None is h

go_writes : (count counted : ℕ) (text given : List ℕ) (sizes : Sizes) (p : Planned)
    → IsGoPlan count counted text given sizes p → WritesOnly p None
go_writes count counted text given sizes p (inl refused) =
    refused_writes text given sizes.room p refused.0
go_writes count counted text given sizes p (inr to) =
    image_writes count counted to.program to.limits to.input sizes.bound p to.run

turn_writes : (before after : List Watch) (count counted : ℕ) (text given : List ℕ) (sizes : Sizes) (p : Planned)
    → IsTurnPlan before after count counted text given sizes p → WritesOnly p None
turn_writes before after count counted text given sizes p (inl refused) =
    refused_writes text given sizes.room p refused.0
turn_writes before after count counted text given sizes p (inr to) =
    let end : End = run_of to.run.runs.image to.limits to.input sizes.bound in
    back_writes end.why (back_lines end.spent (report to.program (starting to.program to.input).store)
    (length (loaded to.run.runs.image.statics to.limits to.input))) to.run.said p to.run.reported
    (image_writes count to.run.middle to.program to.limits to.input sizes.bound to.run.said to.run.runs)

profile_writes : (before after : List Watch) (count counted : ℕ) (text given : List ℕ) (sizes : Sizes)
    (p : Planned) → IsProfilePlan before after count counted text given sizes p → WritesOnly p None
profile_writes before after count counted text given sizes p (inl refused) =
    refused_writes text given sizes.room p refused.0
profile_writes before after count counted text given sizes p (inr to) =
    longer_writes to.run.said p _ to.run.reported (image_writes count counted to.program to.limits to.input sizes.bound
    to.run.said to.run.runs)

check_writes : (text : List ℕ) (p : Planned) → IsCheckPlan text p → WritesOnly p None
check_writes text p g = judged_writes g.judgement _ None p (λ program q h. along q _ None h (inl refl)) g.plan

compile_writes : (text name : List ℕ) (p : Planned) → IsCompilePlan text name p → WritesOnly p (Some name)
compile_writes text name p g =
    judged_writes g.judgement (λ program. WritesImage program name) (Some name) p
    (λ program q h. along q _ (Some name) h.written (inr refl)) g.plan

pub checks_file_writes : (file : List ℕ) (told : Option Texts) (p : Planned) → ChecksFile file told p
    → WritesOnly p None
checks_file_writes file told p h = check_writes h.text p h.holds

pub compiles_file_writes : (file image : List ℕ) (told : Option Texts) (p : Planned) → CompilesFile file image told p
    → WritesOnly p (Some image)
compiles_file_writes file image told p h = compile_writes h.text image p h.holds

pub goes_on_writes : (count counted : ℕ) (file : List ℕ) (input : Option (List ℕ)) (sizes : Sizes)
    (told : Option Texts) (p : Planned) → RunGoesOn count counted file input sizes told p → WritesOnly p None
goes_on_writes count counted file input sizes told p h =
    go_writes count counted h.text h.holds.text sizes p h.holds.holds

pub turns_file_writes : (before after : List Watch) (count counted : ℕ) (file : List ℕ) (input : Option (List ℕ))
    (sizes : Sizes) (told : Option Texts) (p : Planned)
    → TurnsFile before after count counted file input sizes told p → WritesOnly p None
turns_file_writes before after count counted file input sizes told p h =
    turn_writes before after count counted h.text h.holds.text sizes p h.holds.holds

pub profiles_file_writes : (before after : List Watch) (count counted : ℕ) (file : List ℕ) (sizes : Sizes)
    (told : Option Texts) (p : Planned) → ProfilesFile before after count counted file sizes told p
    → WritesOnly p None
profiles_file_writes before after count counted file sizes told p h =
    profile_writes before after count counted h.text [] sizes p h.holds
