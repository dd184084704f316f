-- A plan that is made of texts which were all read before.
use Rattle.std.proofs.Common.{◌≡◌, refl, ap, ℕ, List, [], ◌∷◌, Some, None, Ok, Err, inr}
use Rattle.std.proofs.Common.{arith, map}
use Rattle.std.specs.Prelude.{Result, IfOk, IfErr}
use Rattle.std.specs.declared.option.Option.{Option}
use Rattle.command_line.specs.rpp_ports.Ports.{Texts}
use Rattle.command_line.specs.rpp_ports.Events.{Event}
use Rattle.command_line.specs.rpp_probes.Tally.{Watch}
use Rattle.command_line.specs.command_plan.pisa_scripts.declared.lines.TheConstants.{MOST_SCRIPT}
use Rattle.command_line.specs.command_plan.declared.plan.Plan.{Plan}
use Rattle.command_line.specs.command_plan.declared.plan.NoPlan.{NoPlan}
use Rattle.command_line.specs.command_plan.declared.plan.NoPlan.TheVariants.{NoMemory, Unread}
use Rattle.command_line.specs.command_plan.Files.{Needed, UnreadCause, image_file}
use Rattle.command_line.specs.command_plan.Plans.{planned, GivesPlan}
use Rattle.command_line.specs.command_plan.Reads.{Gave}
use Rattle.plan_serving.specs.Places.{HasPlaces, place_files}
use Rattle.command_line.specs.Lines.{Asked, Check, Compile, Asm, ListImage, Flip, ShowInverse, Generate, Cluster}
use Rattle.command_line.specs.Lines.{RunImage, Debug, Trace, Go, Turn, Profile, Wrap, Explain}
use Rattle.rpp_command.specs.Plans.{IsPlan, LeavesProbes}
use Rattle.rpp_command.specs.Places.{placed}
use Rattle.plan_serving.specs.Places.{names_from}
use Rattle.rpp_command.specs.Causes.{files_of}
use Rattle.rpp_command.specs.Serving.{PlansRead, StopsPlan}
use Rattle.rpp_command.proofs.Placed.{plan_of_texts, leaves_of_texts}
use Rattle.rpp_command.proofs.OfTold.{plan_told, leaves_told}

images_placed : (place : List ℕ) (images : List (List ℕ))
    → map image_file (names_from place images) ≡ place_files place (map image_file images)
images_placed place [] = refl
images_placed place (image ∷ images) = ap (λ (files : List Needed). image_file place ∷ files)
    (images_placed (97 ∷ place) images)

-- the files of a line at its places
pub placed_files : (line : Asked) → files_of (placed line) ≡ place_files [] (files_of line)
unfolding files_of placed
placed_files (Check file) = refl
placed_files (Compile file image) = refl
placed_files (Asm text image) = refl
placed_files (ListImage image text) = refl
placed_files (Flip image flipped) = refl
placed_files (ShowInverse file out) = refl
placed_files (Generate seed size out) = refl
placed_files (Cluster script cells images) =
    let first : Needed = record { name = []; limit = MOST_SCRIPT } in
    ap (λ (files : List Needed). first ∷ files) (images_placed (97 ∷ []) images)
placed_files (RunImage image sizes None save) = refl
placed_files (RunImage image sizes (Some state) save) = refl
placed_files (Debug image room script) = refl
placed_files (Trace file room script None) = refl
placed_files (Trace file room script (Some input)) = refl
placed_files (Go file sizes None) = refl
placed_files (Go file sizes (Some input)) = refl
placed_files (Turn file sizes None) = refl
placed_files (Turn file sizes (Some input)) = refl
placed_files (Profile file sizes) = refl
placed_files (Wrap file sizes names None) = refl
placed_files (Wrap file sizes names (Some input)) = refl
placed_files (Explain file sizes None) = refl
placed_files (Explain file sizes (Some input)) = refl

-- no probe observed a step of what was not read
pub untold : (probes : List Watch) (stop : NoPlan) → UnreadCause (probes ≡ probes) stop
untold probes NoMemory = tt
untold probes (Unread text) = refl

module _ (line : Asked) (before after : List Watch) (count counted : ℕ) (told : Option Texts) (held : Texts)
    (texts : List (List ℕ)) (old new : List Event) where
  pub read_plan : (r : Result Plan NoPlan) → Gave told (files_of line) texts old new → HasPlaces held [] texts
      → IfOk r (λ plan. IsPlan (placed line) before after count counted (Some held) (planned plan))
      → IfOk r (λ plan. PlansRead line before after count counted told old new (planned plan))
  read_plan (Ok plan) gave has h = record {
    texts = texts;
    gave = gave;
    is_plan = plan_of_texts line before after count counted told held texts old new (planned plan) gave has h;
  }
  read_plan (Err stop) gave has h = tt

  pub told_plan : (r : Result Plan NoPlan) → Gave told (files_of line) texts old new → HasPlaces held [] texts
      → IfOk r (λ plan. IsPlan (placed line) before after count counted (Some held) (planned plan))
      → GivesPlan told (IsPlan line before after count counted) r
  told_plan (Ok plan) gave has h = plan_told line before after count counted told texts old new (planned plan) gave
      (plan_of_texts line before after count counted told held texts old new (planned plan) gave has h)
  told_plan (Err stop) gave has h = tt

  pub stops_plan : (told' : Option Texts) (rose : Type 0) (r : Result Plan NoPlan)
      → Gave told (files_of line) texts old new
      → HasPlaces held [] texts → IfErr r (λ stop. stop ≡ NoMemory)
      → IfErr r (λ _. LeavesProbes (placed line) before after (Some held))
      → IfErr r (StopsPlan line before after rose (record { texts = told; calls = old })
      (record { texts = told'; calls = new }))
  stops_plan told' rose (Ok plan) gave has memory short = tt
  stops_plan told' rose (Err NoMemory) gave has memory short = inr (record {
    texts = texts;
    gave = gave;
    leaves = leaves_of_texts line before after told held texts old new gave has short;
  })
  stops_plan told' rose (Err (Unread text)) gave has memory short = absurd (grind arith)

  pub short_plan : (r : Result Plan NoPlan) → Gave told (files_of line) texts old new → HasPlaces held [] texts
      → IfErr r (λ _. LeavesProbes (placed line) before after (Some held))
      → IfErr r (λ _. LeavesProbes line before after told)
  short_plan (Ok plan) gave has short = tt
  short_plan (Err stop) gave has short = leaves_told line before after told texts old new gave
      (leaves_of_texts line before after told held texts old new gave has short)
