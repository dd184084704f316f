-- The plan of `cluster`.
use Rattle.std.specs.Prelude.{◌≡◌, ℕ, List, [], ◌∷◌, length, map, Result, Ok, Err}
use Rattle.std.specs.declared.option.Option.{Option}
use Rattle.command_plan.specs.rpp_ports.Ports.{Texts}
use Rattle.pisa_cluster.specs.pisa_isa.Image.{Segments}
use Rattle.command_plan.specs.pisa_image.declared.error.ImageError.{ImageError}
use Rattle.command_plan.specs.pisa_image.Numbers.{◌>>=◌}
use Rattle.command_plan.specs.pisa_image.Reading.{image_at}
use Rattle.command_plan.specs.declared.reading.TheConstants.{MOST_IMAGE}
use Rattle.command_plan.specs.command_ends.declared.verdict.Verdict.TheVariants.{Done, ImageRefused, InputRefused}
use Rattle.command_plan.specs.Files.{Needed, image_file, script_file}
use Rattle.command_plan.specs.Plans.{Planned, prints, WithText}
use Rattle.command_plan.specs.Texts.{bad_command_line, image_line}
use Rattle.cluster_commands.specs.declared.script.Event.{Event}
use Rattle.command_plan.specs.pisa_scripts.declared.lines.TheConstants.{MOST_SCRIPT}
use Rattle.cluster_commands.specs.declared.error.ScriptError.{ScriptError}
use Rattle.cluster_commands.specs.declared.error.ScriptError.TheVariants.{BadEvent}
use Rattle.cluster_commands.specs.declared.error.ScriptError.TheVariants as script
use Rattle.cluster_commands.specs.ClusterScripts.{events_of}
use Rattle.cluster_commands.specs.ClusterShown.{IsShown}

-- the script is read first, then the images in order
abbrev pub cluster_files : (script : List ℕ) → (images : List (List ℕ)) → List Needed
cluster_files script images = script_file script ∷ map image_file images

-- the images that bytes are, or the first refusal
abbrev pub images_at : List (List ℕ) → Result (List Segments) ImageError
images_at [] = Ok []
images_at (bytes ∷ rest) = do
  noted ← image_at bytes
  images ← images_at rest
  Ok (noted.image ∷ images)

-- the first invalid line is reported, or what the events print is printed
abbrev pub IsEventsPlan : Result (List Event) ScriptError → List Segments → (cells : ℕ) → Planned
    → Type 0
IsEventsPlan (Err (BadEvent line)) images cells p = p ≡ prints InputRefused (bad_command_line line)
IsEventsPlan (Err script.NoMemory) images cells p = ⊥
IsEventsPlan (Ok events) images cells p = (text : List ℕ) × IsShown images cells events text
    × (p ≡ prints Done text)

-- a refused image is reported before the script is checked
abbrev pub IsClusterPlan : Result (List Segments) ImageError → (script : List ℕ) → (cells : ℕ)
    → Planned → Type 0
IsClusterPlan (Err e) script cells p = p ≡ prints ImageRefused (image_line e)
IsClusterPlan (Ok images) script cells p = IsEventsPlan (events_of (length images) script) images
    cells p

-- P holds for the texts of these images
abbrev pub WithImages : Option Texts → List (List ℕ) → (List (List ℕ) → Type 0) → Type 0
WithImages told [] P = P []
WithImages told (name ∷ names) P =
    WithText told name MOST_IMAGE (λ bytes. WithImages told names (λ rest. P (bytes ∷ rest)))

-- the plan of `cluster` by this script over these images, on so many cells
abbrev pub ClustersFiles : (script : List ℕ) → (cells : ℕ) → (images : List (List ℕ)) → Option Texts
    → Planned → Type 0
ClustersFiles script cells images told p =
    WithText told script MOST_SCRIPT
    (λ text. WithImages told images (λ bytes. IsClusterPlan (images_at bytes) text cells p))
