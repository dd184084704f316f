-- A plan of the texts that the files of a line gave is one of the known texts, if the store's contents are known.
use Rattle.std.proofs.Common.{Ok, refl, ℕ, ◌≤◌, List, [], ◌∷◌, Some, None, inr, arith}
use Rattle.std.specs.Prelude.{length, map}
use Rattle.std.specs.declared.option.Option.{Option}
use Rattle.command_line.specs.rpp_ports.Ports.{Texts, IsTextOf}
use Rattle.command_line.specs.rpp_ports.Events.{Event}
use Rattle.command_line.specs.rpp_probes.Tally.{Watch}
use Rattle.command_line.specs.command_plan.pisa_image.Reading.{image_at}
use Rattle.command_line.specs.command_plan.pisa_asm.Passes.{noted_of_text}
use Rattle.command_line.specs.command_plan.rpp_tree.declared.limits.TheConstants.{MOST_BYTES}
use Rattle.command_line.specs.command_plan.pisa_loader.declared.input.TheConstants.{MOST_INPUT}
use Rattle.command_line.specs.command_plan.pisa_scripts.declared.lines.TheConstants.{MOST_SCRIPT}
use Rattle.command_line.specs.command_plan.pisa_asm.declared.assembler.TheConstants.{MOST_TEXT}
use Rattle.command_line.specs.command_plan.declared.reading.TheConstants.{MOST_IMAGE}
use Rattle.command_line.specs.command_plan.Files.{image_file}
use Rattle.command_line.specs.command_plan.Plans.{Planned, WithText, WithInput, WithState}
use Rattle.command_line.specs.command_plan.Reads.{Gave, read_event}
use Rattle.cluster_commands.specs.ClusterPlans.{WithImages}
use Rattle.image_commands.specs.ImagePlans.{IsAsmPlan, IsListPlan, IsFlipPlan, IsRunPlan}
use Rattle.image_commands.specs.DebugPlans.{IsDebugPlan}
use Rattle.program_commands.specs.ProgramPlans.{IsCheckPlan, IsCompilePlan}
use Rattle.program_commands.specs.RunPlans.{IsGoPlan, IsTurnPlan, IsProfilePlan}
use Rattle.program_commands.specs.ToldShort.{IsTurnShort, IsProfileShort}
use Rattle.explain_commands.specs.Explained.{IsExplainPlan}
use Rattle.cluster_commands.specs.ClusterPlans.{IsClusterPlan, images_at}
use Rattle.wrap_commands.specs.WrapPlans.{IsWrapPlan}
use Rattle.trace_commands.specs.TracePlans.{IsTracePlan}
use Rattle.text_commands.specs.TextPlans.{IsInversePlan}
use Rattle.command_line.specs.Lines.{Asked, Check, Compile, Asm, ListImage, Flip, ShowInverse, Generate, Cluster}
use Rattle.command_line.specs.Lines.{RunImage, Debug, Trace, Go, Turn, Profile, Wrap, Explain}
use Rattle.rpp_command.specs.Plans.{IsPlan, LeavesProbes}
use Rattle.rpp_command.specs.GivenPlans.{IsPlanOf, LeavesOf}
use Rattle.rpp_command.specs.Causes.{files_of}

text_told : (told : Option Texts) (name : List ℕ) (limit : ℕ) (text : List ℕ) (P : List ℕ → Type 0)
    → IsTextOf told name text × (length text ≤ limit) → P text → WithText told name limit P
text_told told name limit text P given h =
    record { text = text; is_text = given.0; within = given.1; holds = h }

input_told : (told : Option Texts) (name : List ℕ) (text : List ℕ) (P : List ℕ → Type 0)
    → IsTextOf told name text × (length text ≤ MOST_INPUT) → P text → WithInput told (Some name) P
input_told told name text P given h =
    record { text = text; is_text = given.0; within = given.1; holds = h }

input_empty : (told : Option Texts) (P : List ℕ → Type 0) → P [] → WithInput told None P
input_empty told P h = record { text = []; is_text = refl; within = omega arith; holds = h }

images_told : (told : Option Texts) (images : List (List ℕ)) (texts : List (List ℕ)) (old new : List Event)
    (P : List (List ℕ) → Type 0) → Gave told (map image_file images) texts old new → P texts
    → WithImages told images P
images_told told [] [] old new P gave h = h
images_told told [] (text ∷ texts) old new P gave h = absurd gave
images_told told (image ∷ images) [] old new P gave h = absurd gave
images_told told (image ∷ images) (text ∷ texts) old new P gave h =
    text_told told image MOST_IMAGE text (λ (bytes : List ℕ). WithImages told images (λ rest. P (bytes ∷ rest))) gave.0
    (images_told told images texts (read_event (image_file image) (Ok text) ∷ old) new (λ rest. P (text ∷ rest)) gave.1 h)

pub plan_told : (line : Asked) (before after : List Watch) (count counted : ℕ) (told : Option Texts)
    (texts : List (List ℕ)) (old new : List Event) (p : Planned) → Gave told (files_of line) texts old new
    → IsPlanOf line before after count counted texts p → IsPlan line before after count counted told p
unfolding IsPlan IsPlanOf files_of
plan_told (Check file) before after count counted told [] old new p gave h =
    absurd gave
plan_told (Check file) before after count counted told (text ∷ other ∷ texts) old new p gave h =
    absurd gave.1
plan_told (Check file) before after count counted told (text ∷ []) old new p gave h =
    text_told told file MOST_BYTES text (λ (text : List ℕ). IsCheckPlan text p) gave.0 h
plan_told (Compile file image) before after count counted told [] old new p gave h =
    absurd gave
plan_told (Compile file image) before after count counted told (text ∷ other ∷ texts) old new p gave h =
    absurd gave.1
plan_told (Compile file image) before after count counted told (text ∷ []) old new p gave h =
    text_told told file MOST_BYTES text (λ (text : List ℕ). IsCompilePlan text image p) gave.0 h
plan_told (Asm file image) before after count counted told [] old new p gave h =
    absurd gave
plan_told (Asm file image) before after count counted told (text ∷ other ∷ texts) old new p gave h =
    absurd gave.1
plan_told (Asm file image) before after count counted told (text ∷ []) old new p gave h =
    text_told told file MOST_TEXT text (λ (text : List ℕ). IsAsmPlan (noted_of_text text) image p) gave.0 h
plan_told (ListImage image out) before after count counted told [] old new p gave h =
    absurd gave
plan_told (ListImage image out) before after count counted told (text ∷ other ∷ texts) old new p gave h =
    absurd gave.1
plan_told (ListImage image out) before after count counted told (text ∷ []) old new p gave h =
    text_told told image MOST_IMAGE text (λ (text : List ℕ). IsListPlan (image_at text) out p) gave.0 h
plan_told (Flip image flipped) before after count counted told [] old new p gave h =
    absurd gave
plan_told (Flip image flipped) before after count counted told (text ∷ other ∷ texts) old new p gave h =
    absurd gave.1
plan_told (Flip image flipped) before after count counted told (text ∷ []) old new p gave h =
    text_told told image MOST_IMAGE text (λ (text : List ℕ). IsFlipPlan (image_at text) flipped p) gave.0 h
plan_told (ShowInverse file out) before after count counted told [] old new p gave h =
    absurd gave
plan_told (ShowInverse file out) before after count counted told (text ∷ other ∷ texts) old new p gave h =
    absurd gave.1
plan_told (ShowInverse file out) before after count counted told (text ∷ []) old new p gave h =
    text_told told file MOST_BYTES text (λ (text : List ℕ). IsInversePlan text out p) gave.0 h
plan_told (Profile file sizes) before after count counted told [] old new p gave h =
    absurd gave
plan_told (Profile file sizes) before after count counted told (text ∷ other ∷ texts) old new p gave h =
    absurd gave.1
plan_told (Profile file sizes) before after count counted told (text ∷ []) old new p gave h =
    text_told told file MOST_BYTES text (λ (text : List ℕ). IsProfilePlan before after count counted text [] sizes p)
    gave.0 h
plan_told (Generate seed size out) before after count counted told [] old new p gave h =
    h
plan_told (Generate seed size out) before after count counted told (text ∷ texts) old new p gave h =
    absurd gave
plan_told (Cluster script cells images) before after count counted told [] old new p gave h =
    absurd gave
plan_told (Cluster script cells images) before after count counted told (text ∷ texts) old new p gave h =
    text_told told script MOST_SCRIPT text (λ (text : List ℕ). WithImages told images
    (λ read_event. IsClusterPlan (images_at read_event) text cells p)) gave.0
    (images_told told images texts _ new (λ read_event. IsClusterPlan (images_at read_event) text cells p) gave.1 h)
plan_told (RunImage image sizes None save) before after count counted told [] old new p gave h =
    absurd gave
plan_told (RunImage image sizes None save) before after count counted told (bytes ∷ other ∷ texts) old new p
    gave h =
    absurd gave.1
plan_told (RunImage image sizes None save) before after count counted told (bytes ∷ []) old new p gave h =
    text_told told image MOST_IMAGE bytes (λ (bytes : List ℕ). WithState told None
    (λ (given : Option (List ℕ)). IsRunPlan (image_at bytes) sizes given save count counted p)) gave.0
    (record { text = None; is_text = refl; holds = h })
plan_told (RunImage image sizes (Some state) save) before after count counted told [] old new p gave h =
    absurd gave
plan_told (RunImage image sizes (Some state) save) before after count counted told (bytes ∷ []) old new p gave
    h =
    absurd gave.1
plan_told (RunImage image sizes (Some state) save) before after count counted told
    (bytes ∷ text ∷ other ∷ texts) old new p gave h =
    absurd gave.1.1
plan_told (RunImage image sizes (Some state) save) before after count counted told (bytes ∷ text ∷ []) old new
    p gave h =
    text_told told image MOST_IMAGE bytes (λ (bytes : List ℕ). WithState told (Some state)
    (λ (given : Option (List ℕ)). IsRunPlan (image_at bytes) sizes given save count counted p))
    gave.0 (record { text = Some text; is_text = gave.1.0; holds = h })
plan_told (Debug image room script) before after count counted told [] old new p gave h =
    absurd gave
plan_told (Debug image room script) before after count counted told (bytes ∷ []) old new p gave h =
    absurd gave.1
plan_told (Debug image room script) before after count counted told (bytes ∷ text ∷ other ∷ texts) old new p gave h
    =
    absurd gave.1.1
plan_told (Debug image room script) before after count counted told (bytes ∷ text ∷ []) old new p gave h =
    text_told told image MOST_IMAGE bytes (λ (bytes : List ℕ). WithText told script MOST_SCRIPT
    (λ (text : List ℕ). IsDebugPlan (image_at bytes) room text count counted p)) gave.0
    (text_told told script MOST_SCRIPT text (λ (text : List ℕ). IsDebugPlan (image_at bytes) room text count
    counted p) gave.1.0 h)
plan_told (Trace file room script None) before after count counted told [] old new p gave h =
    absurd gave
plan_told (Trace file room script None) before after count counted told (text ∷ []) old new p gave h =
    absurd gave.1
plan_told (Trace file room script None) before after count counted told (text ∷ commands ∷ other ∷ texts) old new p
    gave h =
    absurd gave.1.1
plan_told (Trace file room script None) before after count counted told (text ∷ commands ∷ []) old new p gave h =
    text_told told file MOST_BYTES text (λ (text : List ℕ). WithText told script MOST_SCRIPT
    (λ (commands : List ℕ). WithInput told None (λ (given : List ℕ). IsTracePlan text commands given room p)))
    gave.0
    (text_told told script MOST_SCRIPT commands (λ (commands : List ℕ). WithInput told None
    (λ (given : List ℕ). IsTracePlan text commands given room p)) gave.1.0
    (input_empty told (λ (given : List ℕ). IsTracePlan text commands given room p) h))
plan_told (Trace file room script (Some input)) before after count counted told [] old new p gave h =
    absurd gave
plan_told (Trace file room script (Some input)) before after count counted told (text ∷ []) old new p gave h =
    absurd gave.1
plan_told (Trace file room script (Some input)) before after count counted told (text ∷ commands ∷ []) old new p
    gave h =
    absurd gave.1.1
plan_told (Trace file room script (Some input)) before after count counted told
    (text ∷ commands ∷ given ∷ other ∷ texts) old new p gave h =
    absurd gave.1.1.1
plan_told (Trace file room script (Some input)) before after count counted told (text ∷ commands ∷ given ∷ []) old
    new p gave h =
    text_told told file MOST_BYTES text (λ (text : List ℕ). WithText told script MOST_SCRIPT
    (λ (commands : List ℕ). WithInput told (Some input) (λ (given : List ℕ). IsTracePlan text commands given room
    p))) gave.0
    (text_told told script MOST_SCRIPT commands (λ (commands : List ℕ). WithInput told (Some input)
    (λ (given : List ℕ). IsTracePlan text commands given room p)) gave.1.0
    (input_told told input given (λ (given : List ℕ). IsTracePlan text commands given room p) gave.1.1.0 h))
plan_told (Go file sizes None) before after count counted told [] old new p gave h =
    absurd gave
plan_told (Go file sizes None) before after count counted told (text ∷ other ∷ texts) old new p gave h =
    absurd gave.1
plan_told (Go file sizes None) before after count counted told (text ∷ []) old new p gave h =
    text_told told file MOST_BYTES text (λ (text : List ℕ). WithInput told None
    (λ (given : List ℕ). IsGoPlan count counted text given sizes p)) gave.0
    (input_empty told (λ (given : List ℕ). IsGoPlan count counted text given sizes p) h)
plan_told (Go file sizes (Some input)) before after count counted told [] old new p gave h =
    absurd gave
plan_told (Go file sizes (Some input)) before after count counted told (text ∷ []) old new p gave h =
    absurd gave.1
plan_told (Go file sizes (Some input)) before after count counted told (text ∷ given ∷ other ∷ texts) old new
    p gave h =
    absurd gave.1.1
plan_told (Go file sizes (Some input)) before after count counted told (text ∷ given ∷ []) old new p gave h =
    text_told told file MOST_BYTES text (λ (text : List ℕ). WithInput told (Some input)
    (λ (given : List ℕ). IsGoPlan count counted text given sizes p)) gave.0
    (input_told told input given (λ (given : List ℕ). IsGoPlan count counted text given sizes p) gave.1.0 h)
plan_told (Turn file sizes None) before after count counted told [] old new p gave h =
    absurd gave
plan_told (Turn file sizes None) before after count counted told (text ∷ other ∷ texts) old new p gave h =
    absurd gave.1
plan_told (Turn file sizes None) before after count counted told (text ∷ []) old new p gave h =
    text_told told file MOST_BYTES text (λ (text : List ℕ). WithInput told None
    (λ (given : List ℕ). IsTurnPlan before after count counted text given sizes p)) gave.0
    (input_empty told (λ (given : List ℕ). IsTurnPlan before after count counted text given sizes p) h)
plan_told (Turn file sizes (Some input)) before after count counted told [] old new p gave h =
    absurd gave
plan_told (Turn file sizes (Some input)) before after count counted told (text ∷ []) old new p gave h =
    absurd gave.1
plan_told (Turn file sizes (Some input)) before after count counted told (text ∷ given ∷ other ∷ texts) old
    new p gave h =
    absurd gave.1.1
plan_told (Turn file sizes (Some input)) before after count counted told (text ∷ given ∷ []) old new p gave h
    =
    text_told told file MOST_BYTES text (λ (text : List ℕ). WithInput told (Some input)
    (λ (given : List ℕ). IsTurnPlan before after count counted text given sizes p)) gave.0
    (input_told told input given (λ (given : List ℕ). IsTurnPlan before after count counted text given sizes
    p) gave.1.0 h)
plan_told (Wrap file sizes names None) before after count counted told [] old new p gave h =
    absurd gave
plan_told (Wrap file sizes names None) before after count counted told (text ∷ other ∷ texts) old new p gave h
    =
    absurd gave.1
plan_told (Wrap file sizes names None) before after count counted told (text ∷ []) old new p gave h =
    text_told told file MOST_BYTES text (λ (text : List ℕ). WithInput told None
    (λ (given : List ℕ). IsWrapPlan count counted text names given sizes p)) gave.0
    (input_empty told (λ (given : List ℕ). IsWrapPlan count counted text names given sizes p) h)
plan_told (Wrap file sizes names (Some input)) before after count counted told [] old new p gave h =
    absurd gave
plan_told (Wrap file sizes names (Some input)) before after count counted told (text ∷ []) old new p gave h =
    absurd gave.1
plan_told (Wrap file sizes names (Some input)) before after count counted told (text ∷ given ∷ other ∷ texts)
    old new p gave h =
    absurd gave.1.1
plan_told (Wrap file sizes names (Some input)) before after count counted told (text ∷ given ∷ []) old new p
    gave h =
    text_told told file MOST_BYTES text (λ (text : List ℕ). WithInput told (Some input)
    (λ (given : List ℕ). IsWrapPlan count counted text names given sizes p)) gave.0
    (input_told told input given (λ (given : List ℕ). IsWrapPlan count counted text names given sizes p)
    gave.1.0 h)
plan_told (Explain file sizes None) before after count counted told [] old new p gave h =
    absurd gave
plan_told (Explain file sizes None) before after count counted told (text ∷ other ∷ texts) old new p gave h =
    absurd gave.1
plan_told (Explain file sizes None) before after count counted told (text ∷ []) old new p gave h =
    text_told told file MOST_BYTES text (λ (text : List ℕ). WithInput told None
    (λ (given : List ℕ). IsExplainPlan text given sizes p)) gave.0
    (input_empty told (λ (given : List ℕ). IsExplainPlan text given sizes p) h)
plan_told (Explain file sizes (Some input)) before after count counted told [] old new p gave h =
    absurd gave
plan_told (Explain file sizes (Some input)) before after count counted told (text ∷ []) old new p gave h =
    absurd gave.1
plan_told (Explain file sizes (Some input)) before after count counted told (text ∷ given ∷ other ∷ texts) old
    new p gave h =
    absurd gave.1.1
plan_told (Explain file sizes (Some input)) before after count counted told (text ∷ given ∷ []) old new p gave
    h =
    text_told told file MOST_BYTES text (λ (text : List ℕ). WithInput told (Some input)
    (λ (given : List ℕ). IsExplainPlan text given sizes p)) gave.0
    (input_told told input given (λ (given : List ℕ). IsExplainPlan text given sizes p) gave.1.0 h)

-- and so of what is left of the probes where there is no plan
pub leaves_told : (line : Asked) (before after : List Watch) (told : Option Texts)
    (texts : List (List ℕ)) (old new : List Event) → Gave told (files_of line) texts old new
    → LeavesOf line before after texts → LeavesProbes line before after told
unfolding LeavesProbes LeavesOf files_of
leaves_told (Turn file sizes None) before after told [] old new gave h = absurd gave
leaves_told (Turn file sizes None) before after told (text ∷ other ∷ texts) old new gave h = absurd gave.1
leaves_told (Turn file sizes None) before after told (text ∷ []) old new gave h = inr (
    text_told told file MOST_BYTES text (λ (text : List ℕ). WithInput told None
    (λ (given : List ℕ). IsTurnShort before after text given sizes)) gave.0
    (input_empty told (λ (given : List ℕ). IsTurnShort before after text given sizes) h))
leaves_told (Turn file sizes (Some input)) before after told [] old new gave h = absurd gave
leaves_told (Turn file sizes (Some input)) before after told (text ∷ []) old new gave h = absurd gave.1
leaves_told (Turn file sizes (Some input)) before after told (text ∷ given ∷ other ∷ texts) old new gave h =
    absurd gave.1.1
leaves_told (Turn file sizes (Some input)) before after told (text ∷ given ∷ []) old new gave h = inr (
    text_told told file MOST_BYTES text (λ (text : List ℕ). WithInput told (Some input)
    (λ (given : List ℕ). IsTurnShort before after text given sizes)) gave.0
    (input_told told input given (λ (given : List ℕ). IsTurnShort before after text given sizes) gave.1.0 h))
leaves_told (Profile file sizes) before after told [] old new gave h = absurd gave
leaves_told (Profile file sizes) before after told (text ∷ other ∷ texts) old new gave h = absurd gave.1
leaves_told (Profile file sizes) before after told (text ∷ []) old new gave h = inr
    (text_told told file MOST_BYTES text (λ (text : List ℕ). IsProfileShort before after text [] sizes) gave.0
    h)
leaves_told (Check file) before after told texts old new gave h = h
leaves_told (Compile file image) before after told texts old new gave h = h
leaves_told (Asm file image) before after told texts old new gave h = h
leaves_told (ListImage image out) before after told texts old new gave h = h
leaves_told (Flip image flipped) before after told texts old new gave h = h
leaves_told (ShowInverse file out) before after told texts old new gave h = h
leaves_told (Generate seed size out) before after told texts old new gave h = h
leaves_told (Cluster script cells images) before after told texts old new gave h = h
leaves_told (RunImage image sizes state save) before after told texts old new gave h = h
leaves_told (Debug image room script) before after told texts old new gave h = h
leaves_told (Trace file room script input) before after told texts old new gave h = h
leaves_told (Go file sizes input) before after told texts old new gave h = h
leaves_told (Wrap file sizes names input) before after told texts old new gave h = h
leaves_told (Explain file sizes input) before after told texts old new gave h = h
