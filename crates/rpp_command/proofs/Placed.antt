-- What is made of the texts by their places is made of the texts that the files gave.
use Rattle.std.proofs.Common.{Ok, ◌≡◌, subst, ℕ, List, [], ◌∷◌, Some, None, inl, inr}
use Rattle.std.specs.Prelude.{map}
use Rattle.std.specs.declared.option.Option.{Option}
use Rattle.command_line.specs.rpp_ports.Ports.{Texts}
use Rattle.command_line.specs.rpp_ports.Events.{Event}
use Rattle.command_line.specs.rpp_probes.Tally.{Watch}
use Rattle.command_line.specs.command_plan.pisa_image.Reading.{image_at}
use Rattle.command_line.specs.command_plan.pisa_asm.Passes.{noted_of_text}
use Rattle.command_line.specs.command_plan.rpp_tree.declared.limits.TheConstants.{MOST_BYTES}
use Rattle.command_line.specs.command_plan.pisa_scripts.declared.lines.TheConstants.{MOST_SCRIPT}
use Rattle.command_line.specs.command_plan.pisa_asm.declared.assembler.TheConstants.{MOST_TEXT}
use Rattle.command_line.specs.command_plan.declared.reading.TheConstants.{MOST_IMAGE}
use Rattle.command_line.specs.command_plan.Files.{image_file}
use Rattle.command_line.specs.command_plan.Plans.{Planned, WithText, WithInput, WithState, IsStateText}
use Rattle.command_line.specs.command_plan.Reads.{Gave, read_event}
use Rattle.plan_serving.specs.Places.{HasPlaces}
use Rattle.cluster_commands.specs.ClusterPlans.{WithImages}
use Rattle.image_commands.specs.ImagePlans.{IsAsmPlan, IsListPlan, IsFlipPlan, IsRunPlan}
use Rattle.image_commands.specs.DebugPlans.{IsDebugPlan}
use Rattle.program_commands.specs.ProgramPlans.{IsCheckPlan, IsCompilePlan}
use Rattle.program_commands.specs.RunPlans.{IsGoPlan, IsTurnPlan, IsProfilePlan}
use Rattle.program_commands.specs.ToldShort.{IsTurnShort, IsProfileShort}
use Rattle.explain_commands.specs.Explained.{IsExplainPlan}
use Rattle.cluster_commands.specs.ClusterPlans.{IsClusterPlan, images_at}
use Rattle.wrap_commands.specs.WrapPlans.{IsWrapPlan}
use Rattle.trace_commands.specs.TracePlans.{IsTracePlan}
use Rattle.text_commands.specs.TextPlans.{IsInversePlan}
use Rattle.command_line.specs.Lines.{Asked, Check, Compile, Asm, ListImage, Flip, ShowInverse, Generate, Cluster}
use Rattle.command_line.specs.Lines.{RunImage, Debug, Trace, Go, Turn, Profile, Wrap, Explain}
use Rattle.rpp_command.specs.Plans.{IsPlan, LeavesProbes}
use Rattle.rpp_command.specs.GivenPlans.{IsPlanOf, LeavesOf}
use Rattle.rpp_command.specs.Causes.{files_of}
use Rattle.rpp_command.specs.Places.{placed}
use Rattle.plan_serving.specs.Places.{names_from}

-- a text at its place is the one that was read
text_at : (held : Texts) (place : List ℕ) (limit : ℕ) (text : List ℕ) (P : List ℕ → Type 0) → held place ≡ Some text
    → WithText (Some held) place limit P → P text
text_at held place limit text P is h =
    let there : held place ≡ Some h.text = h.is_text in
    let same : h.text ≡ text = cc in subst P same h.holds

input_at : (held : Texts) (place : List ℕ) (text : List ℕ) (P : List ℕ → Type 0) → held place ≡ Some text
    → WithInput (Some held) (Some place) P → P text
input_at held place text P is h =
    let there : held place ≡ Some h.text = h.is_text in
    let same : h.text ≡ text = cc in subst P same h.holds

input_none : (held : Texts) (P : List ℕ → Type 0) → WithInput (Some held) None P → P []
input_none held P h = subst P h.is_text h.holds

state_at : (held : Texts) (place : List ℕ) (text : List ℕ) (P : Option (List ℕ) → Type 0) → held place ≡ Some text
    → WithState (Some held) (Some place) P → P (Some text)
state_at held place text P is h = by_text h.text h.is_text h.holds
  where
    by_text : (found : Option (List ℕ)) → IsStateText (Some held) (Some place) found → P found → P (Some text)
    by_text None is_text holds = absurd is_text
    by_text (Some t) is_text holds =
        let there : held place ≡ Some t = is_text.0 in
        let same : Some t ≡ Some text = cc in subst P same holds

state_none : (held : Texts) (P : Option (List ℕ) → Type 0) → WithState (Some held) None P → P None
state_none held P h = subst P h.is_text h.holds

images_at_places : (told : Option Texts) (held : Texts) (place : List ℕ) (images : List (List ℕ))
    (texts : List (List ℕ)) (old new : List Event) (P : List (List ℕ) → Type 0)
    → Gave told (map image_file images) texts old new → HasPlaces held place texts
    → WithImages (Some held) (names_from place images) P → P texts
images_at_places told held place [] [] old new P gave has h = h
images_at_places told held place [] (text ∷ texts) old new P gave has h = absurd gave
images_at_places told held place (image ∷ images) [] old new P gave has h = absurd gave
images_at_places told held place (image ∷ images) (text ∷ texts) old new P gave has h =
    images_at_places told held (97 ∷ place) images texts (read_event (image_file image) (Ok text) ∷ old) new
    (λ rest. P (text ∷ rest)) gave.1 has.1
    (text_at held place MOST_IMAGE text
    (λ bytes. WithImages (Some held) (names_from (97 ∷ place) images) (λ rest. P (bytes ∷ rest))) has.0 h)

-- a plan of the line at its places is one of the texts
pub plan_of_texts : (line : Asked) (before after : List Watch) (count counted : ℕ) (told : Option Texts) (held : Texts)
    (texts : List (List ℕ)) (old new : List Event) (p : Planned) → Gave told (files_of line) texts old new
    → HasPlaces held [] texts → IsPlan (placed line) before after count counted (Some held) p
    → IsPlanOf line before after count counted texts p
unfolding IsPlan IsPlanOf files_of placed
plan_of_texts (Check file) before after count counted told held [] old new p gave has h =
    absurd gave
plan_of_texts (Check file) before after count counted told held (text ∷ other ∷ texts) old new p gave has h =
    absurd gave.1
plan_of_texts (Check file) before after count counted told held (text ∷ []) old new p gave has h =
    text_at held [] MOST_BYTES text (λ (text : List ℕ). IsCheckPlan text p) has.0 h
plan_of_texts (Compile file image) before after count counted told held [] old new p gave has h =
    absurd gave
plan_of_texts (Compile file image) before after count counted told held (text ∷ other ∷ texts) old new p gave has h =
    absurd gave.1
plan_of_texts (Compile file image) before after count counted told held (text ∷ []) old new p gave has h =
    text_at held [] MOST_BYTES text (λ (text : List ℕ). IsCompilePlan text image p) has.0 h
plan_of_texts (Asm file image) before after count counted told held [] old new p gave has h =
    absurd gave
plan_of_texts (Asm file image) before after count counted told held (text ∷ other ∷ texts) old new p gave has h =
    absurd gave.1
plan_of_texts (Asm file image) before after count counted told held (text ∷ []) old new p gave has h =
    text_at held [] MOST_TEXT text (λ (text : List ℕ). IsAsmPlan (noted_of_text text) image p) has.0 h
plan_of_texts (ListImage image out) before after count counted told held [] old new p gave has h =
    absurd gave
plan_of_texts (ListImage image out) before after count counted told held (text ∷ other ∷ texts) old new p gave has h =
    absurd gave.1
plan_of_texts (ListImage image out) before after count counted told held (text ∷ []) old new p gave has h =
    text_at held [] MOST_IMAGE text (λ (text : List ℕ). IsListPlan (image_at text) out p) has.0 h
plan_of_texts (Flip image flipped) before after count counted told held [] old new p gave has h =
    absurd gave
plan_of_texts (Flip image flipped) before after count counted told held (text ∷ other ∷ texts) old new p gave has h =
    absurd gave.1
plan_of_texts (Flip image flipped) before after count counted told held (text ∷ []) old new p gave has h =
    text_at held [] MOST_IMAGE text (λ (text : List ℕ). IsFlipPlan (image_at text) flipped p) has.0 h
plan_of_texts (ShowInverse file out) before after count counted told held [] old new p gave has h =
    absurd gave
plan_of_texts (ShowInverse file out) before after count counted told held (text ∷ other ∷ texts) old new p gave has h =
    absurd gave.1
plan_of_texts (ShowInverse file out) before after count counted told held (text ∷ []) old new p gave has h =
    text_at held [] MOST_BYTES text (λ (text : List ℕ). IsInversePlan text out p) has.0 h
plan_of_texts (Profile file sizes) before after count counted told held [] old new p gave has h =
    absurd gave
plan_of_texts (Profile file sizes) before after count counted told held (text ∷ other ∷ texts) old new p gave
    has h =
    absurd gave.1
plan_of_texts (Profile file sizes) before after count counted told held (text ∷ []) old new p gave has h =
    text_at held [] MOST_BYTES text (λ (text : List ℕ). IsProfilePlan before after count counted text [] sizes
    p) has.0 h
plan_of_texts (Generate seed size out) before after count counted told held [] old new p gave has h =
    h
plan_of_texts (Generate seed size out) before after count counted told held (text ∷ texts) old new p gave has h =
    absurd gave
plan_of_texts (Cluster script cells images) before after count counted told held [] old new p gave has h =
    absurd gave
plan_of_texts (Cluster script cells images) before after count counted told held (text ∷ texts) old new p gave has h =
    images_at_places told held (97 ∷ []) images texts _ new
    (λ read_event. IsClusterPlan (images_at read_event) text cells p) gave.1
    has.1 (text_at held [] MOST_SCRIPT text (λ (text : List ℕ). WithImages (Some held) (names_from (97 ∷ []) images)
    (λ read_event. IsClusterPlan (images_at read_event) text cells p)) has.0 h)
plan_of_texts (RunImage image sizes None save) before after count counted told held [] old new p gave has h =
    absurd gave
plan_of_texts (RunImage image sizes None save) before after count counted told held (bytes ∷ other ∷ texts)
    old new p gave has h =
    absurd gave.1
plan_of_texts (RunImage image sizes None save) before after count counted told held (bytes ∷ []) old new p
    gave has h =
    state_none held (λ (given : Option (List ℕ)). IsRunPlan (image_at bytes) sizes given save count counted p)
    (text_at held [] MOST_IMAGE bytes (λ (bytes : List ℕ). WithState (Some held) None
    (λ (given : Option (List ℕ)). IsRunPlan (image_at bytes) sizes given save count counted p)) has.0
    h)
plan_of_texts (RunImage image sizes (Some state) save) before after count counted told held [] old new p gave
    has h =
    absurd gave
plan_of_texts (RunImage image sizes (Some state) save) before after count counted told held (bytes ∷ []) old
    new p gave has h =
    absurd gave.1
plan_of_texts (RunImage image sizes (Some state) save) before after count counted told held
    (bytes ∷ text ∷ other ∷ texts) old new p gave has h =
    absurd gave.1.1
plan_of_texts (RunImage image sizes (Some state) save) before after count counted told held
    (bytes ∷ text ∷ []) old new p gave has h =
    state_at held (97 ∷ []) text (λ (given : Option (List ℕ)). IsRunPlan (image_at bytes) sizes given save
    count counted p) has.1.0
    (text_at held [] MOST_IMAGE bytes (λ (bytes : List ℕ). WithState (Some held) (Some (97 ∷ []))
    (λ (given : Option (List ℕ)). IsRunPlan (image_at bytes) sizes given save count counted p)) has.0
    h)
plan_of_texts (Debug image room script) before after count counted told held [] old new p gave has h =
    absurd gave
plan_of_texts (Debug image room script) before after count counted told held (bytes ∷ []) old new p gave has h =
    absurd gave.1
plan_of_texts (Debug image room script) before after count counted told held (bytes ∷ text ∷ other ∷ texts) old new
    p gave has h =
    absurd gave.1.1
plan_of_texts (Debug image room script) before after count counted told held (bytes ∷ text ∷ []) old new p gave has
    h =
    text_at held (97 ∷ []) MOST_SCRIPT text (λ (text : List ℕ). IsDebugPlan (image_at bytes) room text count
    counted p) has.1.0
    (text_at held [] MOST_IMAGE bytes (λ (bytes : List ℕ). WithText (Some held) (97 ∷ []) MOST_SCRIPT
    (λ (text : List ℕ). IsDebugPlan (image_at bytes) room text count counted p))
    has.0 h)
plan_of_texts (Trace file room script None) before after count counted told held [] old new p gave has h =
    absurd gave
plan_of_texts (Trace file room script None) before after count counted told held (text ∷ []) old new p gave has h =
    absurd gave.1
plan_of_texts (Trace file room script None) before after count counted told held (text ∷ commands ∷ other ∷ texts)
    old new p gave has h =
    absurd gave.1.1
plan_of_texts (Trace file room script None) before after count counted told held (text ∷ commands ∷ []) old new p
    gave has h =
    input_none held (λ (given : List ℕ). IsTracePlan text commands given room p)
    (text_at held (97 ∷ []) MOST_SCRIPT commands (λ (commands : List ℕ). WithInput (Some held) None
    (λ (given : List ℕ). IsTracePlan text commands given room p))
    has.1.0 (text_at held [] MOST_BYTES text (λ (text : List ℕ). WithText (Some held) (97 ∷ []) MOST_SCRIPT
    (λ (commands : List ℕ). WithInput (Some held) None (λ (given : List ℕ). IsTracePlan text commands given room
    p))) has.0 h))
plan_of_texts (Trace file room script (Some input)) before after count counted told held [] old new p gave has h =
    absurd gave
plan_of_texts (Trace file room script (Some input)) before after count counted told held (text ∷ []) old new p gave
    has h =
    absurd gave.1
plan_of_texts (Trace file room script (Some input)) before after count counted told held (text ∷ commands ∷ []) old
    new p gave has h =
    absurd gave.1.1
plan_of_texts (Trace file room script (Some input)) before after count counted told held
    (text ∷ commands ∷ given ∷ other ∷ texts) old new p gave has h =
    absurd gave.1.1.1
plan_of_texts (Trace file room script (Some input)) before after count counted told held
    (text ∷ commands ∷ given ∷ []) old new p gave has h =
    input_at held (97 ∷ 97 ∷ []) given (λ (given : List ℕ). IsTracePlan text commands given room p) has.1.1.0
    (text_at held (97 ∷ []) MOST_SCRIPT commands (λ (commands : List ℕ). WithInput (Some held) (Some (97 ∷ 97 ∷ []))
    (λ (given : List ℕ). IsTracePlan text commands given room p))
    has.1.0 (text_at held [] MOST_BYTES text (λ (text : List ℕ). WithText (Some held) (97 ∷ []) MOST_SCRIPT
    (λ (commands : List ℕ). WithInput (Some held) (Some (97 ∷ 97 ∷ []))
    (λ (given : List ℕ). IsTracePlan text commands given room p))) has.0 h))
plan_of_texts (Go file sizes None) before after count counted told held [] old new p gave has h =
    absurd gave
plan_of_texts (Go file sizes None) before after count counted told held (text ∷ other ∷ texts) old new p gave
    has h =
    absurd gave.1
plan_of_texts (Go file sizes None) before after count counted told held (text ∷ []) old new p gave has h =
    input_none held (λ (given : List ℕ). IsGoPlan count counted text given sizes p)
    (text_at held [] MOST_BYTES text (λ (text : List ℕ). WithInput (Some held) None
    (λ (given : List ℕ). IsGoPlan count counted text given sizes p)) has.0 h)
plan_of_texts (Go file sizes (Some input)) before after count counted told held [] old new p gave has h =
    absurd gave
plan_of_texts (Go file sizes (Some input)) before after count counted told held (text ∷ []) old new p gave has
    h =
    absurd gave.1
plan_of_texts (Go file sizes (Some input)) before after count counted told held (text ∷ given ∷ other ∷ texts)
    old new p gave has h =
    absurd gave.1.1
plan_of_texts (Go file sizes (Some input)) before after count counted told held (text ∷ given ∷ []) old new p
    gave has h =
    input_at held (97 ∷ []) given (λ (given : List ℕ). IsGoPlan count counted text given sizes p) has.1.0
    (text_at held [] MOST_BYTES text (λ (text : List ℕ). WithInput (Some held) (Some (97 ∷ []))
    (λ (given : List ℕ). IsGoPlan count counted text given sizes p)) has.0 h)
plan_of_texts (Turn file sizes None) before after count counted told held [] old new p gave has h =
    absurd gave
plan_of_texts (Turn file sizes None) before after count counted told held (text ∷ other ∷ texts) old new p
    gave has h =
    absurd gave.1
plan_of_texts (Turn file sizes None) before after count counted told held (text ∷ []) old new p gave has h =
    input_none held (λ (given : List ℕ). IsTurnPlan before after count counted text given sizes p)
    (text_at held [] MOST_BYTES text (λ (text : List ℕ). WithInput (Some held) None
    (λ (given : List ℕ). IsTurnPlan before after count counted text given sizes p)) has.0 h)
plan_of_texts (Turn file sizes (Some input)) before after count counted told held [] old new p gave has h =
    absurd gave
plan_of_texts (Turn file sizes (Some input)) before after count counted told held (text ∷ []) old new p gave
    has h =
    absurd gave.1
plan_of_texts (Turn file sizes (Some input)) before after count counted told held
    (text ∷ given ∷ other ∷ texts) old new p gave has h =
    absurd gave.1.1
plan_of_texts (Turn file sizes (Some input)) before after count counted told held (text ∷ given ∷ []) old new
    p gave has h =
    input_at held (97 ∷ []) given (λ (given : List ℕ). IsTurnPlan before after count counted text given sizes
    p) has.1.0
    (text_at held [] MOST_BYTES text (λ (text : List ℕ). WithInput (Some held) (Some (97 ∷ []))
    (λ (given : List ℕ). IsTurnPlan before after count counted text given sizes p)) has.0 h)
plan_of_texts (Wrap file sizes names None) before after count counted told held [] old new p gave has h =
    absurd gave
plan_of_texts (Wrap file sizes names None) before after count counted told held (text ∷ other ∷ texts) old new
    p gave has h =
    absurd gave.1
plan_of_texts (Wrap file sizes names None) before after count counted told held (text ∷ []) old new p gave has
    h =
    input_none held (λ (given : List ℕ). IsWrapPlan count counted text names given sizes p)
    (text_at held [] MOST_BYTES text (λ (text : List ℕ). WithInput (Some held) None
    (λ (given : List ℕ). IsWrapPlan count counted text names given sizes p)) has.0 h)
plan_of_texts (Wrap file sizes names (Some input)) before after count counted told held [] old new p gave has
    h =
    absurd gave
plan_of_texts (Wrap file sizes names (Some input)) before after count counted told held (text ∷ []) old new p
    gave has h =
    absurd gave.1
plan_of_texts (Wrap file sizes names (Some input)) before after count counted told held
    (text ∷ given ∷ other ∷ texts) old new p gave has h =
    absurd gave.1.1
plan_of_texts (Wrap file sizes names (Some input)) before after count counted told held (text ∷ given ∷ [])
    old new p gave has h =
    input_at held (97 ∷ []) given (λ (given : List ℕ). IsWrapPlan count counted text names given sizes p)
    has.1.0
    (text_at held [] MOST_BYTES text (λ (text : List ℕ). WithInput (Some held) (Some (97 ∷ []))
    (λ (given : List ℕ). IsWrapPlan count counted text names given sizes p)) has.0 h)
plan_of_texts (Explain file sizes None) before after count counted told held [] old new p gave has h =
    absurd gave
plan_of_texts (Explain file sizes None) before after count counted told held (text ∷ other ∷ texts) old new p
    gave has h =
    absurd gave.1
plan_of_texts (Explain file sizes None) before after count counted told held (text ∷ []) old new p gave has h =
    input_none held (λ (given : List ℕ). IsExplainPlan text given sizes p)
    (text_at held [] MOST_BYTES text (λ (text : List ℕ). WithInput (Some held) None
    (λ (given : List ℕ). IsExplainPlan text given sizes p)) has.0 h)
plan_of_texts (Explain file sizes (Some input)) before after count counted told held [] old new p gave has h =
    absurd gave
plan_of_texts (Explain file sizes (Some input)) before after count counted told held (text ∷ []) old new p gave
    has h =
    absurd gave.1
plan_of_texts (Explain file sizes (Some input)) before after count counted told held
    (text ∷ given ∷ other ∷ texts) old new p gave has h =
    absurd gave.1.1
plan_of_texts (Explain file sizes (Some input)) before after count counted told held (text ∷ given ∷ []) old
    new p gave has h =
    input_at held (97 ∷ []) given (λ (given : List ℕ). IsExplainPlan text given sizes p) has.1.0
    (text_at held [] MOST_BYTES text (λ (text : List ℕ). WithInput (Some held) (Some (97 ∷ []))
    (λ (given : List ℕ). IsExplainPlan text given sizes p)) has.0 h)

-- and what is left of the probes where there is no plan
pub leaves_of_texts : (line : Asked) (before after : List Watch) (told : Option Texts) (held : Texts)
    (texts : List (List ℕ)) (old new : List Event) → Gave told (files_of line) texts old new
    → HasPlaces held [] texts → LeavesProbes (placed line) before after (Some held) → LeavesOf line before after texts
unfolding LeavesProbes LeavesOf files_of placed
leaves_of_texts (Turn file sizes None) before after told held [] old new gave has h = absurd gave
leaves_of_texts (Turn file sizes None) before after told held (text ∷ other ∷ texts) old new gave has h =
    absurd gave.1
leaves_of_texts (Turn file sizes None) before after told held (text ∷ []) old new gave has (inl same) =
    inl same
leaves_of_texts (Turn file sizes None) before after told held (text ∷ []) old new gave has (inr h) =
    input_none held (λ (given : List ℕ). IsTurnShort before after text given sizes)
    (text_at held [] MOST_BYTES text (λ (text : List ℕ). WithInput (Some held) None
    (λ (given : List ℕ). IsTurnShort before after text given sizes)) has.0 h)
leaves_of_texts (Turn file sizes (Some input)) before after told held [] old new gave has h = absurd gave
leaves_of_texts (Turn file sizes (Some input)) before after told held (text ∷ []) old new gave has h =
    absurd gave.1
leaves_of_texts (Turn file sizes (Some input)) before after told held (text ∷ given ∷ other ∷ texts) old new
    gave has h = absurd gave.1.1
leaves_of_texts (Turn file sizes (Some input)) before after told held (text ∷ given ∷ []) old new gave has
    (inl same) = inl same
leaves_of_texts (Turn file sizes (Some input)) before after told held (text ∷ given ∷ []) old new gave has
    (inr h) = input_at held (97 ∷ []) given (λ (given : List ℕ). IsTurnShort before after text given sizes)
    has.1.0
    (text_at held [] MOST_BYTES text (λ (text : List ℕ). WithInput (Some held) (Some (97 ∷ []))
    (λ (given : List ℕ). IsTurnShort before after text given sizes)) has.0 h)
leaves_of_texts (Profile file sizes) before after told held [] old new gave has h = absurd gave
leaves_of_texts (Profile file sizes) before after told held (text ∷ other ∷ texts) old new gave has h =
    absurd gave.1
leaves_of_texts (Profile file sizes) before after told held (text ∷ []) old new gave has (inl same) = inl same
leaves_of_texts (Profile file sizes) before after told held (text ∷ []) old new gave has (inr h) =
    text_at held [] MOST_BYTES text (λ (text : List ℕ). IsProfileShort before after text [] sizes) has.0 h
leaves_of_texts (Check file) before after told held texts old new gave has h = h
leaves_of_texts (Compile file image) before after told held texts old new gave has h = h
leaves_of_texts (Asm file image) before after told held texts old new gave has h = h
leaves_of_texts (ListImage image out) before after told held texts old new gave has h = h
leaves_of_texts (Flip image flipped) before after told held texts old new gave has h = h
leaves_of_texts (ShowInverse file out) before after told held texts old new gave has h = h
leaves_of_texts (Generate seed size out) before after told held texts old new gave has h = h
leaves_of_texts (Cluster script cells images) before after told held texts old new gave has h = h
leaves_of_texts (RunImage image sizes state save) before after told held texts old new gave has h = h
leaves_of_texts (Debug image room script) before after told held texts old new gave has h = h
leaves_of_texts (Trace file room script input) before after told held texts old new gave has h = h
leaves_of_texts (Go file sizes input) before after told held texts old new gave has h = h
leaves_of_texts (Wrap file sizes names input) before after told held texts old new gave has h = h
leaves_of_texts (Explain file sizes input) before after told held texts old new gave has h = h
