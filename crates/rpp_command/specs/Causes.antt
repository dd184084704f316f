-- Which files a line reads, which it may write, and whether its probes observe steps.
use Rattle.std.specs.Prelude.{ℕ, Bool, true, false, List, [], ◌∷◌, None, Some}
use Rattle.std.specs.declared.option.Option.{Option}
use Rattle.command_line.specs.Lines.{Asked, Check, Compile, Asm, ListImage, Flip, ShowInverse}
use Rattle.command_line.specs.Lines.{Generate, Cluster, RunImage, Debug, Trace, Go, Turn, Profile}
use Rattle.command_line.specs.Lines.{Wrap, Explain}
use Rattle.command_line.specs.command_plan.Files.{Needed, source_file, assembly, image_file, script_file}
use Rattle.command_line.specs.command_plan.Files.{input_files}
use Rattle.command_line.specs.command_plan.Files.{state_files}
use Rattle.cluster_commands.specs.ClusterPlans.{cluster_files}

-- the files that a line reads, in order
unfoldable pub files_of : Asked → List Needed
files_of (Check file) = source_file file ∷ []
files_of (Compile file image) = source_file file ∷ []
files_of (Asm text image) = assembly text ∷ []
files_of (ListImage image text) = image_file image ∷ []
files_of (Flip image flipped) = image_file image ∷ []
files_of (ShowInverse file out) = source_file file ∷ []
files_of (Generate seed size out) = []
files_of (Cluster script cells images) = cluster_files script images
files_of (RunImage image sizes state save) = image_file image ∷ state_files state
files_of (Debug image room script) = image_file image ∷ script_file script ∷ []
files_of (Trace file room script given) = source_file file ∷ script_file script ∷ input_files given
files_of (Go file sizes given) = source_file file ∷ input_files given
files_of (Turn file sizes given) = source_file file ∷ input_files given
files_of (Profile file sizes) = source_file file ∷ []
files_of (Wrap file sizes names given) = source_file file ∷ input_files given
files_of (Explain file sizes given) = source_file file ∷ input_files given

-- the files that the words have read, none if they are no line
abbrev pub needed : Option Asked → List Needed
needed None = []
needed (Some line) = files_of line

-- the file that a line may write
unfoldable pub target_of : Asked → Option (List ℕ)
target_of (Check file) = None
target_of (Compile file image) = Some image
target_of (Asm text image) = Some image
target_of (ListImage image text) = Some text
target_of (Flip image flipped) = Some flipped
target_of (ShowInverse file out) = Some out
target_of (Generate seed size out) = Some out
target_of (Cluster script cells images) = None
target_of (RunImage image sizes state save) = save
target_of (Debug image room script) = None
target_of (Trace file room script given) = None
target_of (Go file sizes given) = None
target_of (Turn file sizes given) = None
target_of (Profile file sizes) = None
target_of (Wrap file sizes names given) = None
target_of (Explain file sizes given) = None

-- the file that the words may have written
abbrev pub target : Option Asked → Option (List ℕ)
target None = None
target (Some line) = target_of line

-- whether the probes of a line may observe steps
unfoldable pub is_observing : Asked → Bool
is_observing (Turn file sizes given) = true
is_observing (Profile file sizes) = true
is_observing _ = false

-- whether the words may
abbrev pub tell : Option Asked → Bool
tell None = false
tell (Some line) = is_observing line
