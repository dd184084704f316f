-- A plan of a command on images writes its target, or nothing.
use Rattle.std.proofs.Common.{◌≡◌, ℕ, List, None, Some, Ok, Err, inl, inr, option_map, refl}
use Rattle.std.specs.declared.option.Option.{Option}
use Rattle.std.specs.Prelude.{Result}
use Rattle.command_plan.specs.declared.plan.Room.{Room}
use Rattle.command_plan.specs.declared.plan.Sizes.{Sizes}
use Rattle.command_plan.specs.rpp_words.declared.input.Limits.{Limits}
use Rattle.command_plan.specs.rpp_ports.Ports.{Texts}
use Rattle.command_plan.specs.pisa_loader.declared.error.LoadError.{LoadError}
use Rattle.image_inverter.specs.pisa_isa.Image.{Segments}
use Rattle.image_inverter.specs.pisa_isa.Notes.{NoteLists, NotedImage}
use Rattle.command_plan.specs.pisa_image.declared.error.ImageError.{ImageError}
use Rattle.command_plan.specs.pisa_asm.declared.error.AsmError.{AsmError}
use Rattle.command_plan.specs.pisa_image.Reading.{image_at}
use Rattle.command_plan.specs.pisa_asm.Passes.{noted_of_text}
use Rattle.two_way_debugger.specs.pisa_machine.Position.{Position}
use Rattle.image_inverter.specs.pisa_isa.Machine.{State}
use Rattle.command_plan.specs.Plans.{Planned, WritesOnly}
use Rattle.image_commands.specs.ImagePlans.{OfImage, OfRunImage, IsAsmPlan, AssemblesFile, ListsFile, FlipsFile}
use Rattle.image_commands.specs.ImagePlans.{RunsFile}
use Rattle.image_commands.specs.ImagePlans.{IsListPlan, IsFlipPlan, IsRunPlan, IsSizedPlan, IsRanPlan, position_at_start, saved}
use Rattle.debugger_scripts.specs.pisa_scripts.declared.command.Command.{Command}
use Rattle.debugger_scripts.specs.declared.error.ScriptError.{ScriptError}
use Rattle.debugger_scripts.specs.declared.error.ScriptError.TheVariants.{BadCommand, NoMemory}
use Rattle.debugger_scripts.specs.Scripts.{script_of}
use Rattle.image_commands.specs.DebugPlans.{IsScriptPlan, IsRoomPlan, IsDebugPlan, DebugsFile}
use Rattle.command_plan.proofs.Writes.{along}

image_writes : (read : Result NotedImage ImageError) (P : NotedImage → Planned → Type 0) (name : Option (List ℕ))
    (p : Planned) → ((n : NotedImage) (q : Planned) → P n q → WritesOnly q name) → OfImage P read p → WritesOnly p name
image_writes (Err e) P name p f h = along p _ name h (inl refl)
image_writes (Ok image) P name p f h = f image p h

run_image_writes : (read : Result NotedImage ImageError) (P : NotedImage → Planned → Type 0) (name : Option (List ℕ))
    (count counted : ℕ) (p : Planned) → ((n : NotedImage) (q : Planned) → P n q → WritesOnly q name)
    → OfRunImage count counted P read p → WritesOnly p name
run_image_writes (Err e) P name count counted p f h = along p _ name h.0 (inl refl)
run_image_writes (Ok image) P name count counted p f h = f image p h

asm_writes : (read : Result NotedImage AsmError) (name : List ℕ) (p : Planned) → IsAsmPlan read name p
    → WritesOnly p (Some name)
asm_writes (Err e) name p h = along p _ (Some name) h (inl refl)
asm_writes (Ok image) name p h = along p _ (Some name) h (inr refl)

list_writes : (read : Result NotedImage ImageError) (name : List ℕ) (p : Planned) → IsListPlan read name p
    → WritesOnly p (Some name)
list_writes read name p h = image_writes read _ (Some name) p (λ image q k. along q _ (Some name) k (inr refl)) h

flip_writes : (read : Result NotedImage ImageError) (name : List ℕ) (p : Planned) → IsFlipPlan read name p
    → WritesOnly p (Some name)
flip_writes read name p h = image_writes read _ (Some name) p (λ image q k. along q _ (Some name) k (inr refl)) h

saved_name : (save : Option (List ℕ)) (last : State) → option_map (λ w. w.name) (saved save last) ≡ save
saved_name None last = refl
saved_name (Some name) last = refl

ran_writes : (first : Result Position LoadError) (notes : NoteLists) (save : Option (List ℕ))
    (steps count counted : ℕ) (p : Planned) → IsRanPlan first notes save steps count counted p → WritesOnly p save
ran_writes (Err e) notes save steps count counted p h = along p _ save h.0 (inl refl)
ran_writes (Ok first) notes save steps count counted p h = along p _ save h.0 (inr (saved_name save _))

sized_writes : (refusal : Option LoadError) (n : NotedImage) (limits : Limits) (state save : Option (List ℕ))
    (steps count counted : ℕ) (p : Planned) → IsSizedPlan refusal n limits state save steps count counted p
    → WritesOnly p save
sized_writes (Some e) n limits state save steps count counted p h = along p _ save h.0 (inl refl)
sized_writes None n limits state save steps count counted p h =
    ran_writes (position_at_start n.image limits state) n.notes save steps count counted p h

run_writes : (read : Result NotedImage ImageError) (sizes : Sizes) (state save : Option (List ℕ))
    (count counted : ℕ) (p : Planned) → IsRunPlan read sizes state save count counted p → WritesOnly p save
run_writes read sizes state save count counted p h = run_image_writes read _ save count counted p
    (λ n q k. sized_writes _ n _ state save sizes.bound count counted q k) h

pub assembles_file_writes : (text image : List ℕ) (told : Option Texts) (p : Planned) → AssemblesFile text image told p
    → WritesOnly p (Some image)
assembles_file_writes text image told p h = asm_writes (noted_of_text h.text) image p h.holds

pub lists_file_writes : (image text : List ℕ) (told : Option Texts) (p : Planned) → ListsFile image text told p
    → WritesOnly p (Some text)
lists_file_writes image text told p h = list_writes (image_at h.text) text p h.holds

pub flips_file_writes : (image flipped : List ℕ) (told : Option Texts) (p : Planned) → FlipsFile image flipped told p
    → WritesOnly p (Some flipped)
flips_file_writes image flipped told p h = flip_writes (image_at h.text) flipped p h.holds

pub runs_file_writes : (image : List ℕ) (sizes : Sizes) (state save : Option (List ℕ)) (count counted : ℕ)
    (told : Option Texts) (p : Planned) → RunsFile image sizes state save count counted told p
    → WritesOnly p save
runs_file_writes image sizes state save count counted told p h =
    run_writes (image_at h.text) sizes h.holds.text save count counted p h.holds.holds

script_writes : (read : Result (List Command) ScriptError) (image : Segments) (limits : Limits) (count counted : ℕ)
    (p : Planned) → IsScriptPlan read image limits count counted p → WritesOnly p None
script_writes (Err (BadCommand line)) image limits count counted p h = along p _ None h.0 (inl refl)
script_writes (Err NoMemory) image limits count counted p h = absurd h
script_writes (Ok commands) image limits count counted p h = along p _ None h.0 (inl refl)

room_writes : (refusal : Option LoadError) (image : Segments) (limits : Limits) (script : List ℕ) (count counted : ℕ)
    (p : Planned) → IsRoomPlan refusal image limits script count counted p → WritesOnly p None
room_writes (Some e) image limits script count counted p h = along p _ None h.0 (inl refl)
room_writes None image limits script count counted p h =
    script_writes (script_of script) image limits count counted p h

debug_writes : (read : Result NotedImage ImageError) (room : Room) (script : List ℕ) (count counted : ℕ)
    (p : Planned) → IsDebugPlan read room script count counted p → WritesOnly p None
debug_writes read room script count counted p h = run_image_writes read _ None count counted p
    (λ image q k. room_writes _ image.image _ script count counted q k) h

pub debugs_file_writes : (image : List ℕ) (room : Room) (script : List ℕ) (count counted : ℕ)
    (told : Option Texts) (p : Planned) → DebugsFile image room script count counted told p → WritesOnly p None
debugs_file_writes image room script count counted told p h =
    debug_writes (image_at h.text) room h.holds.text count counted p h.holds.holds
