-- The plans of the commands on images. A command's machine steps are counted: `count` is their
-- counter as it is passed, and `counted` as it is left.
use Rattle.std.specs.Prelude.{◌≡◌, ℕ, ◌+◌, List, [], length, None, Some, Result, Ok, Err, codes}
use Rattle.std.specs.declared.option.Option.{Option}
use Rattle.command_plan.specs.declared.plan.Sizes.{Sizes}
use Rattle.command_plan.specs.rpp_ports.Ports.{Texts}
use Rattle.command_plan.specs.pisa_image.Reading.{image_at}
use Rattle.command_plan.specs.pisa_asm.declared.assembler.TheConstants.{MOST_TEXT}
use Rattle.command_plan.specs.pisa_asm.Passes.{noted_of_text}
use Rattle.command_plan.specs.declared.reading.TheConstants.{MOST_IMAGE}
use Rattle.command_plan.specs.rpp_words.declared.input.Limits.{Limits}
use Rattle.image_inverter.specs.pisa_isa.declared.machine.Stop.{Stop}
use Rattle.image_inverter.specs.pisa_isa.declared.machine.Stop.TheVariants.{Finished, Trap}
use Rattle.image_inverter.specs.pisa_isa.declared.machine.Stop.TheVariants.{Bound as AtBound}
use Rattle.image_inverter.specs.pisa_isa.Image.{Segments}
use Rattle.image_inverter.specs.pisa_isa.Notes.{NoteLists, NotedImage, flipped_noted}
use Rattle.command_plan.specs.pisa_image.declared.error.ImageError.{ImageError}
use Rattle.command_plan.specs.pisa_image.ImageBytes.{image_bytes}
use Rattle.command_plan.specs.pisa_asm.declared.error.AsmError.{AsmError}
use Rattle.command_plan.specs.pisa_asm.Listing.{listing}
use Rattle.image_inverter.specs.pisa_isa.Machine.{State as MachineState}
use Rattle.image_inverter.specs.pisa_isa.Loaded.{loaded}
use Rattle.image_inverter.specs.pisa_isa.Runs.{End, run, zero_registers}
use Rattle.two_way_debugger.specs.pisa_machine.Position.{Position, first_position}
use Rattle.command_plan.specs.Texts.{asm_line, image_line, load_line, cells_line}
use Rattle.image_commands.specs.RunTexts.{end_lines}
use Rattle.command_plan.specs.pisa_loader.Limiting.{limits_refusal, memory_size}
use Rattle.command_plan.specs.pisa_loader.States.{state_bytes, state_at, at_start, loaded_memory}
use Rattle.command_plan.specs.pisa_loader.declared.error.LoadError.{LoadError}
use Rattle.command_plan.specs.rpp_words.declared.input.TheConstants.{MOST_DEEP}
use Rattle.command_plan.specs.command_ends.declared.verdict.Verdict.{Verdict}
use Rattle.command_plan.specs.command_ends.declared.verdict.Verdict.TheVariants.{Done, ImageRefused, Trapped, Bound}
use Rattle.command_plan.specs.command_ends.declared.verdict.Verdict.TheVariants.{InputRefused, Stopped}
use Rattle.command_plan.specs.Plans.{Planned, Written, prints, writes, WithText, WithState}

-- the status of a stop
abbrev pub stop_verdict : Stop → Verdict
stop_verdict Finished = Done
stop_verdict (Trap code) = Trapped
stop_verdict AtBound = Bound
stop_verdict _ = Stopped

-- the state where a run ended is written, if a file is named for it
abbrev pub saved : Option (List ℕ) → MachineState → Option Written
saved None last = None
saved (Some name) last = Some (record {
  name = name;
  bytes = state_bytes (loaded_memory last.regs last.cells);
})

abbrev pub ran : NoteLists → (save : Option (List ℕ)) → End → Planned
ran notes save end = record {
  verdict = stop_verdict end.why;
  text = end_lines notes end;
  writing = saved save end.last;
}

-- the first refusal of an image file is reported, or P holds for the image that was read
abbrev pub OfImage : (P : NotedImage → Planned → Type 0) → Result NotedImage ImageError → Planned
    → Type 0
OfImage P (Err e) p = p ≡ prints ImageRefused (image_line e)
OfImage P (Ok n) p = P n p

-- the same of an image that is to be run: if it is refused, no step is made
abbrev pub OfRunImage : (count counted : ℕ) → (P : NotedImage → Planned → Type 0)
    → Result NotedImage ImageError → Planned → Type 0
OfRunImage count counted P (Err e) p =
    (p ≡ prints ImageRefused (image_line e)) × (counted ≡ count)
OfRunImage count counted P (Ok n) p = P n p

-- where a run of an image begins: at the loaded memory, or at a state
abbrev pub position_at_start : Segments → Limits → Option (List ℕ) → Result Position LoadError
position_at_start image limits None = Ok (first_position image zero_registers
    (loaded image.statics limits []))
position_at_start image limits (Some bytes) =
    at_start image (state_at (memory_size (length image.statics) limits) bytes)

-- the state is checked, and then the run is made, once
abbrev pub IsRanPlan : Result Position LoadError → NoteLists → (save : Option (List ℕ)) (steps : ℕ)
    → (count counted : ℕ) → Planned → Type 0
IsRanPlan (Err e) notes save steps count counted p =
    (p ≡ prints ImageRefused (load_line e)) × (counted ≡ count)
IsRanPlan (Ok first) notes save steps count counted p =
    (p ≡ ran notes save (run first.image.code steps first.state))
    × (counted ≡ count + (run first.image.code steps first.state).spent)

-- the size of the memory is tried before the state
abbrev pub IsSizedPlan : Option LoadError → NotedImage → Limits
    → (state save : Option (List ℕ)) (steps : ℕ) → (count counted : ℕ) → Planned → Type 0
IsSizedPlan (Some e) n limits state save steps count counted p =
    (p ≡ prints InputRefused (load_line e)) × (counted ≡ count)
IsSizedPlan None n limits state save steps count counted p =
    IsRanPlan (position_at_start n.image limits state) n.notes save steps count counted p

abbrev pub IsRunPlan : Result NotedImage ImageError
    → (sizes : Sizes) (state save : Option (List ℕ)) → (count counted : ℕ) → Planned → Type 0
IsRunPlan read sizes state save count counted p =
    OfRunImage count counted (λ n. IsSizedPlan (limits_refusal sizes.room.heap sizes.room.deep
    MOST_DEEP) n
    (record { heap = sizes.room.heap; deep = sizes.room.deep }) state save sizes.bound count
    counted) read p

-- the image that an assembly text writes is written with its debug information, or its first
-- refusal is reported
abbrev pub IsAsmPlan : Result NotedImage AsmError → (name : List ℕ) → Planned → Type 0
IsAsmPlan (Err e) name p = p ≡ prints ImageRefused (asm_line e)
IsAsmPlan (Ok n) name p = p ≡ writes name (image_bytes n)
    (cells_line (codes "assembled") n.image.code)

-- the listing of an image that was read is written, with its notes
abbrev pub IsListPlan : Result NotedImage ImageError → (name : List ℕ) → Planned → Type 0
IsListPlan read name p =
    OfImage (λ n p. p ≡ writes name (listing n) (cells_line (codes "listed") n.image.code)) read p

-- the inverse image of an image that was read is written, with its debug information reversed
abbrev pub IsFlipPlan : Result NotedImage ImageError → (name : List ℕ) → Planned → Type 0
IsFlipPlan read name p =
    OfImage (λ n p. p ≡ writes name (image_bytes (flipped_noted n))
    (cells_line (codes "flipped") n.image.code)) read p

-- the plan of `asm` of this file to that of an image
abbrev pub AssemblesFile : (text image : List ℕ) → Option Texts → Planned → Type 0
AssemblesFile text image told p =
    WithText told text MOST_TEXT (λ bytes. IsAsmPlan (noted_of_text bytes) image p)

-- the plan of `list` of this file to that of a text
abbrev pub ListsFile : (image text : List ℕ) → Option Texts → Planned → Type 0
ListsFile image text told p =
    WithText told image MOST_IMAGE (λ bytes. IsListPlan (image_at bytes) text p)

-- the plan of `flip` of this file to another
abbrev pub FlipsFile : (image flipped : List ℕ) → Option Texts → Planned → Type 0
FlipsFile image flipped told p =
    WithText told image MOST_IMAGE (λ bytes. IsFlipPlan (image_at bytes) flipped p)

-- the plan of `run` of this file, from a state if one is named, to one if it is to be saved
abbrev pub RunsFile : (image : List ℕ) → (sizes : Sizes) → (state save : Option (List ℕ))
    → (count counted : ℕ) → Option Texts → Planned → Type 0
RunsFile image sizes state save count counted told p =
    WithText told image MOST_IMAGE
    (λ bytes. WithState told state (λ given. IsRunPlan (image_at bytes) sizes given
    save count counted p))
