-- The plans of each line, of the texts that its files gave, in their order.
use Rattle.std.specs.Prelude.{◌≡◌, ℕ, List, [], ◌∷◌, None, Some}
use Rattle.std.specs.declared.option.Option.{Option}
use Rattle.command_line.specs.rpp_probes.Tally.{Watch}
use Rattle.command_line.specs.command_plan.pisa_image.Reading.{image_at}
use Rattle.command_line.specs.command_plan.pisa_asm.Passes.{noted_of_text}
use Rattle.command_line.specs.command_plan.Plans.{Planned}
use Rattle.image_commands.specs.ImagePlans.{IsAsmPlan, IsListPlan, IsFlipPlan}
use Rattle.image_commands.specs.ImagePlans.{IsRunPlan}
use Rattle.image_commands.specs.DebugPlans.{IsDebugPlan}
use Rattle.program_commands.specs.ProgramPlans.{IsCheckPlan, IsCompilePlan}
use Rattle.program_commands.specs.RunPlans.{IsGoPlan, IsTurnPlan, IsProfilePlan}
use Rattle.program_commands.specs.ToldShort.{IsTurnShort, IsProfileShort}
use Rattle.explain_commands.specs.Explained.{IsExplainPlan}
use Rattle.cluster_commands.specs.ClusterPlans.{IsClusterPlan, images_at}
use Rattle.wrap_commands.specs.WrapPlans.{IsWrapPlan}
use Rattle.trace_commands.specs.TracePlans.{IsTracePlan}
use Rattle.text_commands.specs.TextPlans.{IsInversePlan, Generates}
use Rattle.command_line.specs.Lines.{Asked, Check, Compile, Asm, ListImage, Flip, ShowInverse}
use Rattle.command_line.specs.Lines.{Generate, Cluster, RunImage, Debug, Trace, Go, Turn, Profile}
use Rattle.command_line.specs.Lines.{Wrap, Explain}

-- of the texts of further files, that of an input, which is empty where there is none
abbrev pub input_text : List (List ℕ) → List ℕ
input_text [] = []
input_text (text ∷ texts) = text

-- and that of a state, where there is one
abbrev pub given_state : List (List ℕ) → Option (List ℕ)
given_state [] = None
given_state (text ∷ texts) = Some text

-- A plan of the line, of the texts that its files gave. The list of probes is `before` as it is
-- handed in and `after` as it is left; so `count` and `counted` are the counter of machine steps.
unfoldable pub IsPlanOf : Asked → (before after : List Watch) → (count counted : ℕ)
    → (texts : List (List ℕ)) → Planned → Type 0
IsPlanOf (Check file) before after count counted (text ∷ []) p = IsCheckPlan text p
IsPlanOf (Compile file image) before after count counted (text ∷ []) p = IsCompilePlan text image p
IsPlanOf (Asm file image) before after count counted (text ∷ []) p =
    IsAsmPlan (noted_of_text text) image p
IsPlanOf (ListImage image out) before after count counted (bytes ∷ []) p =
    IsListPlan (image_at bytes) out p
IsPlanOf (Flip image flipped) before after count counted (bytes ∷ []) p =
    IsFlipPlan (image_at bytes) flipped p
IsPlanOf (ShowInverse file out) before after count counted (text ∷ []) p = IsInversePlan text out p
IsPlanOf (Generate seed size out) before after count counted [] p = Generates seed size out None p
IsPlanOf (Cluster script cells images) before after count counted (text ∷ read) p =
    IsClusterPlan (images_at read) text cells p
IsPlanOf (RunImage image sizes state save) before after count counted (bytes ∷ given) p =
    IsRunPlan (image_at bytes) sizes (given_state given) save count counted p
IsPlanOf (Debug image room script) before after count counted (bytes ∷ text ∷ []) p =
    IsDebugPlan (image_at bytes) room text count counted p
IsPlanOf (Trace file room script input) before after count counted (text ∷ commands ∷ given) p
    = IsTracePlan text commands (input_text given) room p
IsPlanOf (Go file sizes input) before after count counted (text ∷ given) p =
    IsGoPlan count counted text (input_text given) sizes p
IsPlanOf (Turn file sizes input) before after count counted (text ∷ given) p =
    IsTurnPlan before after count counted text (input_text given) sizes p
IsPlanOf (Profile file sizes) before after count counted (text ∷ []) p =
    IsProfilePlan before after count counted text [] sizes p
IsPlanOf (Wrap file sizes names input) before after count counted (text ∷ given) p =
    IsWrapPlan count counted text names (input_text given) sizes p
IsPlanOf (Explain file sizes input) before after count counted (text ∷ given) p =
    IsExplainPlan text (input_text given) sizes p
IsPlanOf _ before after count counted texts p = ⊥

-- what is left of the probes if memory runs out before there is a plan of these texts
unfoldable pub LeavesOf : Asked → (before after : List Watch) → (texts : List (List ℕ)) → Type 0
LeavesOf (Turn file sizes input) before after (text ∷ given) =
    IsTurnShort before after text (input_text given) sizes
LeavesOf (Profile file sizes) before after (text ∷ []) =
    IsProfileShort before after text [] sizes
LeavesOf _ before after texts = after ≡ before
