-- A plan of `cluster` writes nothing.
use Rattle.std.proofs.Common.{ℕ, List, [], ◌∷◌, None, Ok, Err, inl, refl, length}
use Rattle.std.specs.Prelude.{Result}
use Rattle.std.specs.declared.option.Option.{Option}
use Rattle.command_plan.specs.rpp_ports.Ports.{Texts}
use Rattle.pisa_cluster.specs.pisa_isa.Image.{Segments}
use Rattle.command_plan.specs.pisa_image.declared.error.ImageError.{ImageError}
use Rattle.command_plan.specs.Plans.{Planned, WritesOnly}
use Rattle.command_plan.proofs.Writes.{along}
use Rattle.cluster_commands.specs.declared.script.Event.{Event}
use Rattle.cluster_commands.specs.declared.error.ScriptError.{ScriptError}
use Rattle.cluster_commands.specs.declared.error.ScriptError.TheVariants.{BadEvent, NoMemory}
use Rattle.cluster_commands.specs.ClusterScripts.{events_of}
use Rattle.cluster_commands.specs.ClusterPlans.{images_at, WithImages, IsEventsPlan, IsClusterPlan, ClustersFiles}

events_writes : (read : Result (List Event) ScriptError) (images : List Segments) (cells : ℕ) (p : Planned)
    → IsEventsPlan read images cells p → WritesOnly p None
events_writes (Err (BadEvent line)) images cells p h = along p _ None h (inl refl)
events_writes (Err NoMemory) images cells p h = absurd h
events_writes (Ok events) images cells p h = along p _ None h.2 (inl refl)

images_write : (read : Result (List Segments) ImageError) (script : List ℕ) (cells : ℕ) (p : Planned)
    → IsClusterPlan read script cells p → WritesOnly p None
images_write (Err e) script cells p h = along p _ None h (inl refl)
images_write (Ok images) script cells p h = events_writes (events_of (length images) script) images cells p h

of_images : (told : Option Texts) (names : List (List ℕ)) (P : List (List ℕ) → Type 0) (Q : Type 0)
    → ((read : List (List ℕ)) → P read → Q) → WithImages told names P → Q
of_images told [] P Q k h = k [] h
of_images told (name ∷ names) P Q k h =
    of_images told names (λ rest. P (h.text ∷ rest)) Q (λ rest. k (h.text ∷ rest)) h.holds

pub clusters_files_writes : (script : List ℕ) (cells : ℕ) (images : List (List ℕ)) (told : Option Texts)
    (p : Planned) → ClustersFiles script cells images told p → WritesOnly p None
clusters_files_writes script cells images told p h =
    of_images told images (λ bytes. IsClusterPlan (images_at bytes) h.text cells p) (WritesOnly p None)
    (λ bytes k. images_write (images_at bytes) h.text cells p k) h.holds
