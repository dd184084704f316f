-- The plans of each line.
use Rattle.std.specs.Prelude.{◌≡◌, ℕ, List}
use Rattle.std.specs.declared.option.Option.{Option}
use Rattle.command_line.specs.rpp_ports.Ports.{Texts}
use Rattle.command_line.specs.rpp_probes.Tally.{Watch}
use Rattle.command_line.specs.command_plan.Plans.{Planned}
use Rattle.image_commands.specs.ImagePlans.{AssemblesFile, ListsFile, FlipsFile, RunsFile}
use Rattle.image_commands.specs.DebugPlans.{DebugsFile}
use Rattle.program_commands.specs.ProgramPlans.{ChecksFile, CompilesFile}
use Rattle.program_commands.specs.RunPlans.{RunGoesOn, TurnsFile, ProfilesFile}
use Rattle.program_commands.specs.ToldShort.{TurnsFileShort, ProfilesFileShort}
use Rattle.explain_commands.specs.Explained.{Explains}
use Rattle.cluster_commands.specs.ClusterPlans.{ClustersFiles}
use Rattle.wrap_commands.specs.WrapPlans.{WrapsFile}
use Rattle.trace_commands.specs.TracePlans.{Traces}
use Rattle.text_commands.specs.TextPlans.{ShowsInverse, Generates}
use Rattle.command_line.specs.Lines.{Asked, Check, Compile, Asm, ListImage, Flip, ShowInverse}
use Rattle.command_line.specs.Lines.{Generate, Cluster, RunImage, Debug, Trace, Go, Turn, Profile}
use Rattle.command_line.specs.Lines.{Wrap, Explain}

-- A plan of the line, if the file store has these known contents, or none. The list of probes is
-- `before` as it is passed and `after` as it is left; so `count` and `counted` are the counter of
-- machine steps.
unfoldable pub IsPlan : Asked → (before after : List Watch) → (count counted : ℕ) → Option Texts
    → Planned → Type 0
IsPlan (Check file) before after count counted = ChecksFile file
IsPlan (Compile file image) before after count counted = CompilesFile file image
IsPlan (Asm text image) before after count counted = AssemblesFile text image
IsPlan (ListImage image text) before after count counted = ListsFile image text
IsPlan (Flip image flipped) before after count counted = FlipsFile image flipped
IsPlan (ShowInverse file out) before after count counted = ShowsInverse file out
IsPlan (Generate seed size out) before after count counted = Generates seed size out
IsPlan (Cluster script cells images) before after count counted = ClustersFiles script cells images
IsPlan (RunImage image sizes state save) before after count counted =
    RunsFile image sizes state save count counted
IsPlan (Debug image room script) before after count counted =
    DebugsFile image room script count counted
IsPlan (Trace file room script input) before after count counted =
    Traces file script input room
IsPlan (Go file sizes input) before after count counted =
    RunGoesOn count counted file input sizes
IsPlan (Turn file sizes input) before after count counted =
    TurnsFile before after count counted file input sizes
IsPlan (Profile file sizes) before after count counted =
    ProfilesFile before after count counted file sizes
IsPlan (Wrap file sizes names input) before after count counted =
    WrapsFile count counted file names input sizes
IsPlan (Explain file sizes input) before after count counted =
    Explains file input sizes

-- what is left of the probes if memory runs out, or a file that could not be read keeps the line
-- from a plan
unfoldable pub LeavesProbes : Asked → (before after : List Watch) → Option Texts → Type 0
LeavesProbes (Turn file sizes input) before after told =
    TurnsFileShort before after file input sizes told
LeavesProbes (Profile file sizes) before after told =
    ProfilesFileShort before after file sizes told
LeavesProbes _ before after told = after ≡ before
