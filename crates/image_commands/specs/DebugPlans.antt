-- The plan of `debug`. Its machine steps are counted: `count` is their counter as it is passed, and
-- `counted` as it is left.
use Rattle.std.specs.Prelude.{◌≡◌, ◌⊎◌, ℕ, ◌+◌, List, [], take, None, Some, Result, Ok, Err}
use Rattle.std.specs.declared.option.Option.{Option}
use Rattle.command_plan.specs.declared.plan.Room.{Room}
use Rattle.command_plan.specs.rpp_words.declared.input.Limits.{Limits}
use Rattle.command_plan.specs.rpp_words.declared.input.TheConstants.{MOST_DEEP}
use Rattle.command_plan.specs.rpp_ports.Ports.{Texts}
use Rattle.image_inverter.specs.pisa_isa.Image.{Segments}
use Rattle.image_inverter.specs.pisa_isa.Notes.{NotedImage}
use Rattle.image_inverter.specs.pisa_isa.Loaded.{loaded}
use Rattle.image_inverter.specs.pisa_isa.Runs.{zero_registers}
use Rattle.two_way_debugger.specs.pisa_machine.Position.{Position, first_position}
use Rattle.command_plan.specs.pisa_image.declared.error.ImageError.{ImageError}
use Rattle.command_plan.specs.pisa_image.Reading.{image_at}
use Rattle.command_plan.specs.pisa_loader.Limiting.{limits_refusal}
use Rattle.command_plan.specs.pisa_loader.declared.error.LoadError.{LoadError}
use Rattle.command_plan.specs.pisa_scripts.declared.lines.TheConstants.{MOST_SCRIPT}
use Rattle.debugger_scripts.specs.pisa_scripts.declared.command.Command.{Command}
use Rattle.debugger_scripts.specs.declared.error.ScriptError.{ScriptError}
use Rattle.debugger_scripts.specs.declared.error.ScriptError.TheVariants.{BadCommand, NoMemory}
use Rattle.debugger_scripts.specs.Scripts.{script_of}
use Rattle.two_way_debugger.specs.Shown.{shown, spent_in}
use Rattle.command_plan.specs.declared.reading.TheConstants.{MOST_IMAGE}
use Rattle.command_plan.specs.command_ends.declared.verdict.Verdict.TheVariants.{Done, InputRefused}
use Rattle.command_plan.specs.Plans.{Planned, prints, WithText}
use Rattle.command_plan.specs.Texts.{load_line, bad_command_line}
use Rattle.image_commands.specs.ImagePlans.{OfRunImage}

-- where an image is loaded with no input
abbrev pub start_position : Segments → Limits → Position
start_position image limits = first_position image zero_registers (loaded image.statics limits [])

-- what the commands print from the loaded memory on is printed, whatever stops they meet
abbrev pub followed : Segments → Limits → List Command → Planned
followed image limits commands = prints Done (shown commands (start_position image limits))

-- the first line of the script that is no command is reported, or its commands are followed
abbrev pub IsScriptPlan : Result (List Command) ScriptError → Segments → Limits
    → (count counted : ℕ) → Planned → Type 0
IsScriptPlan (Err (BadCommand line)) image limits count counted p =
    (p ≡ prints InputRefused (bad_command_line line)) × (counted ≡ count)
IsScriptPlan (Err NoMemory) image limits count counted p = ⊥
IsScriptPlan (Ok commands) image limits count counted p =
    (p ≡ followed image limits commands)
    × (counted ≡ count + spent_in commands (start_position image limits))

-- the size of the memory is tried before the script
abbrev pub IsRoomPlan : Option LoadError → Segments → Limits → (script : List ℕ)
    → (count counted : ℕ) → Planned → Type 0
IsRoomPlan (Some e) image limits script count counted p =
    (p ≡ prints InputRefused (load_line e)) × (counted ≡ count)
IsRoomPlan None image limits script count counted p =
    IsScriptPlan (script_of script) image limits count counted p

abbrev pub IsDebugPlan : Result NotedImage ImageError → (room : Room) → (script : List ℕ)
    → (count counted : ℕ) → Planned → Type 0
IsDebugPlan read room script count counted p =
    OfRunImage count counted (λ n. IsRoomPlan (limits_refusal room.heap room.deep MOST_DEEP) n.image
    (record { heap = room.heap; deep = room.deep }) script count counted) read p

-- the plan of `debug` of this file, by the script of another
abbrev pub DebugsFile : (image : List ℕ) → (room : Room) → (script : List ℕ)
    → (count counted : ℕ) → Option Texts → Planned → Type 0
DebugsFile image room script count counted told p =
    WithText told image MOST_IMAGE
    (λ bytes. WithText told script MOST_SCRIPT
    (λ text. IsDebugPlan (image_at bytes) room text count counted p))

-- the counter if memory runs out: some first commands made their moves, and no others did
pub record MovesSome (commands : List Command) (first : Position) (count counted : ℕ) : Type 0 where
  pub made : ℕ
  pub counter : counted ≡ count + spent_in (take made commands) first

abbrev pub IsScriptShort : Result (List Command) ScriptError → Segments → Limits
    → (count counted : ℕ) → Type 0
IsScriptShort (Err e) image limits count counted = ⊥
IsScriptShort (Ok commands) image limits count counted =
    MovesSome commands (start_position image limits) count counted

abbrev pub IsRoomShort : Option LoadError → Segments → Limits → (script : List ℕ)
    → (count counted : ℕ) → Type 0
IsRoomShort (Some e) image limits script count counted = ⊥
IsRoomShort None image limits script count counted =
    IsScriptShort (script_of script) image limits count counted

abbrev pub IsDebugShort : Result NotedImage ImageError → (room : Room) → (script : List ℕ)
    → (count counted : ℕ) → Type 0
IsDebugShort (Err e) room script count counted = ⊥
IsDebugShort (Ok n) room script count counted =
    IsRoomShort (limits_refusal room.heap room.deep MOST_DEEP) n.image
    (record { heap = room.heap; deep = room.deep })
    script count counted

-- no step was made, or those of some first commands of the script
abbrev pub DebugsFileShort : (image : List ℕ) → (room : Room) → (script : List ℕ)
    → (count counted : ℕ) → Option Texts → Type 0
DebugsFileShort image room script count counted told =
    (counted ≡ count)
    ⊎ WithText told image MOST_IMAGE
    (λ bytes. WithText told script MOST_SCRIPT
    (λ text. IsDebugShort (image_at bytes) room text count counted))
