-- What the words ask for, with lists of bytes for texts.
use Rattle.std.specs.Prelude.{ℕ, ◌^◌, ◌<◌, List, [], ◌∷◌, length}
use Rattle.std.specs.Prelude.{None, Some, option_map, if◌then◌else◌, nat_le, nat_lt, ◌&&◌}
use Rattle.std.specs.Prelude.{string_bytes, ◌≤◌, map}
use Rattle.std.specs.declared.option.Option.{Option}
use Rattle.std.specs.Option.{option_and_then}
use Rattle.command_line.specs.CommandNames.{CommandName, command_named}
use Rattle.command_line.specs.CommandNames as named
use Rattle.command_line.specs.declared.line.Line.{Line}
use Rattle.command_line.specs.declared.line.FilesCommand.{FilesCommand}
use Rattle.command_line.specs.declared.line.FilesCommand.TheVariants as files
use Rattle.command_line.specs.declared.line.ProgramCommand.{ProgramCommand}
use Rattle.command_line.specs.declared.line.ProgramCommand.TheVariants as program
use Rattle.command_line.specs.declared.line.TheConstants.{MOST_ITEMS, MOST_COMMON}
use Rattle.command_line.specs.declared.line.TheConstants.{MOST_PROCESSORS}
use Rattle.command_plan.specs.declared.plan.Room.{Room}
use Rattle.command_plan.specs.declared.plan.Sizes.{Sizes}
use Rattle.command_plan.specs.Files.{state_argument, state_of_names, save_of_names}
use Rattle.command_plan.specs.pisa_scripts.Lines.{short_number}
use Rattle.command_line.specs.declared.line.Line.TheVariants as line

-- a line as contracts see it
pub data Asked : Type 0 where
  Check : (file : List ℕ) → Asked
  Compile : (file image : List ℕ) → Asked
  Asm : (text image : List ℕ) → Asked
  ListImage : (image text : List ℕ) → Asked
  Flip : (image flipped : List ℕ) → Asked
  ShowInverse : (file out : List ℕ) → Asked
  Generate : (seed size : ℕ) (out : List ℕ) → Asked
  Cluster : (script : List ℕ) (cells : ℕ) (images : List (List ℕ)) → Asked
  RunImage : (image : List ℕ) (sizes : Sizes) (state save : Option (List ℕ)) → Asked
  Debug : (image : List ℕ) (room : Room) (script : List ℕ) → Asked
  Trace : (file : List ℕ) (room : Room) (script : List ℕ) (input : Option (List ℕ)) → Asked
  Go : (file : List ℕ) (sizes : Sizes) (input : Option (List ℕ)) → Asked
  Turn : (file : List ℕ) (sizes : Sizes) (input : Option (List ℕ)) → Asked
  Profile : (file : List ℕ) (sizes : Sizes) → Asked
  Wrap : (file : List ℕ) (sizes : Sizes) (names : List ℕ) (input : Option (List ℕ)) → Asked
  Explain : (file : List ℕ) (sizes : Sizes) (input : Option (List ℕ)) → Asked

-- H and D as a line has them
abbrev pub room_at : (heap deep : ℕ) → Room
room_at heap deep = record { heap = heap; deep = deep }

-- H, D and STEPS as a line has them
abbrev pub sizes_at : (heap deep steps : ℕ) → Sizes
sizes_at heap deep steps = record { room = room_at heap deep; bound = steps }

abbrev pub asked : Line → Asked
asked (line.Check file) = Check (string_bytes file)
asked (line.Compile file image) = Compile (string_bytes file) (string_bytes image)
asked (line.Asm text image) = Asm (string_bytes text) (string_bytes image)
asked (line.List image text) = ListImage (string_bytes image) (string_bytes text)
asked (line.Flip image flipped) = Flip (string_bytes image) (string_bytes flipped)
asked (line.ShowInverse file out) = ShowInverse (string_bytes file) (string_bytes out)
asked (line.Generate seed size out) = Generate seed size (string_bytes out)
asked (line.Cluster script cells images) =
    Cluster (string_bytes script) cells (map string_bytes images.items)
asked (line.Run image heap deep steps names) =
    RunImage (string_bytes image) (sizes_at heap deep steps) (state_of_names names)
    (save_of_names names)
asked (line.Debug image heap deep script) =
    Debug (string_bytes image) (room_at heap deep) (string_bytes script)
asked (line.Trace file heap deep script input) =
    Trace (string_bytes file) (room_at heap deep) (string_bytes script)
    (option_map string_bytes input)
asked (line.Go file heap deep steps input) =
    Go (string_bytes file) (sizes_at heap deep steps) (option_map string_bytes input)
asked (line.Turn file heap deep steps input) =
    Turn (string_bytes file) (sizes_at heap deep steps) (option_map string_bytes input)
asked (line.Profile file heap deep steps) =
    Profile (string_bytes file) (sizes_at heap deep steps)
asked (line.Wrap file heap deep steps names input) =
    Wrap (string_bytes file) (sizes_at heap deep steps) (string_bytes names)
    (option_map string_bytes input)
asked (line.Explain file heap deep fuel input) =
    Explain (string_bytes file) (sizes_at heap deep fuel) (option_map string_bytes input)

-- the number that the digits of a word write
unfoldable pub number_of_word : List ℕ → Option ℕ
number_of_word word = short_number word

-- a number from 1 to so many
abbrev pub up_to : (most : ℕ) → Option ℕ → Option ℕ
up_to most None = None
up_to most (Some n) = if nat_lt 0 n && nat_le n most then Some n else None

-- the sizes of a memory that two words are: the order of the heap, and the depth of the stack
abbrev pub room_of : (heap deep : List ℕ) → Option Room
room_of heap deep =
    option_and_then (λ heap. option_map (λ deep. record { heap = heap; deep = deep })
    (number_of_word deep)) (number_of_word heap)

-- the sizes of a run that three words are: those of its memory, and the number of steps
abbrev pub sizes_of : (heap deep steps : List ℕ) → Option Sizes
sizes_of heap deep steps =
    option_and_then (λ room. option_map (λ steps. record { room = room; bound = steps })
    (number_of_word steps)) (room_of heap deep)

-- a file, the sizes of a run, and the file of an input, if there is one
abbrev pub program_line_of : (List ℕ → Sizes → Option (List ℕ) → Asked)
    → List (List ℕ) → Option Asked
program_line_of make (file ∷ heap ∷ deep ∷ steps ∷ []) =
    option_map (λ sizes. make file sizes None) (sizes_of heap deep steps)
program_line_of make (file ∷ heap ∷ deep ∷ steps ∷ input ∷ []) =
    option_map (λ sizes. make file sizes (Some input)) (sizes_of heap deep steps)
program_line_of make _ = None

-- the line of each command of these words
abbrev pub line_of_program : ProgramCommand → List ℕ → Sizes → Option (List ℕ)
    → Asked
line_of_program program.Go = Go
line_of_program program.Turn = Turn
line_of_program program.Explain = Explain

-- a file that is read, and one that is written
unfoldable pub files_line_of : (List ℕ → List ℕ → Asked) → List (List ℕ) → Option Asked
files_line_of make (from ∷ to ∷ []) = Some (make from to)
files_line_of make _ = None

-- the line of each command of these words
abbrev pub line_of_files : FilesCommand → List ℕ → List ℕ → Asked
line_of_files files.Compile = Compile
line_of_files files.Asm = Asm
line_of_files files.List = ListImage
line_of_files files.Flip = Flip
line_of_files files.ShowInverse = ShowInverse

-- The line of each command, of the words after its name: the file that it reads first, the sizes of
-- a run or of a memory, and further files. `cluster` takes one to eight images.
abbrev pub line_by : CommandName → List (List ℕ) → Option Asked
line_by named.Check (file ∷ []) = Some (Check file)
line_by named.Compile args = files_line_of Compile args
line_by named.Asm args = files_line_of Asm args
line_by named.ListImage args = files_line_of ListImage args
line_by named.Flip args = files_line_of Flip args
line_by named.ShowInverse args = files_line_of ShowInverse args
line_by named.Generate (seed ∷ size ∷ out ∷ []) =
    option_and_then (λ seed. option_map (λ size. Generate seed size out)
    (up_to MOST_ITEMS (number_of_word size))) (number_of_word seed)
line_by named.Cluster (script ∷ cells ∷ images) =
    option_and_then (λ cells. if nat_lt 0 (length images)
    && nat_le (length images) MOST_PROCESSORS then Some (Cluster script cells images) else None)
    (up_to MOST_COMMON (number_of_word cells))
line_by named.RunImage (image ∷ heap ∷ deep ∷ steps ∷ []) =
    option_map (λ sizes. RunImage image sizes None None) (sizes_of heap deep steps)
line_by named.RunImage (image ∷ heap ∷ deep ∷ steps ∷ state ∷ save ∷ []) =
    option_map (λ sizes. RunImage image sizes (state_argument state) (Some save))
    (sizes_of heap deep steps)
line_by named.Debug (image ∷ heap ∷ deep ∷ script ∷ []) =
    option_map (λ room. Debug image room script) (room_of heap deep)
line_by named.Trace (file ∷ heap ∷ deep ∷ script ∷ []) =
    option_map (λ room. Trace file room script None) (room_of heap deep)
line_by named.Trace (file ∷ heap ∷ deep ∷ script ∷ input ∷ []) =
    option_map (λ room. Trace file room script (Some input)) (room_of heap deep)
line_by named.Go args = program_line_of Go args
line_by named.Turn args = program_line_of Turn args
line_by named.Explain args = program_line_of Explain args
line_by named.Profile (file ∷ heap ∷ deep ∷ steps ∷ []) =
    option_map (Profile file) (sizes_of heap deep steps)
line_by named.Wrap (file ∷ heap ∷ deep ∷ steps ∷ names ∷ []) =
    option_map (λ sizes. Wrap file sizes names None) (sizes_of heap deep steps)
line_by named.Wrap (file ∷ heap ∷ deep ∷ steps ∷ names ∷ input ∷ []) =
    option_map (λ sizes. Wrap file sizes names (Some input)) (sizes_of heap deep steps)
line_by _ _ = None

-- the line that the words are, if they are one
unfoldable pub line_of : List (List ℕ) → Option Asked
line_of [] = None
line_of (name ∷ args) = option_and_then (λ command. line_by command args) (command_named name)

-- the sizes of a memory have at most 18 digits each
abbrev pub HasShortRoom : Room → Type 0
HasShortRoom room = (room.heap < 10 ^ 18) × (room.deep < 10 ^ 18)

-- and so has the number of steps of a run
abbrev pub HasShortSizes : Sizes → Type 0
HasShortSizes sizes = (sizes.room.heap < 10 ^ 18) × (sizes.room.deep < 10 ^ 18)
    × (sizes.bound < 10 ^ 18)

-- the numbers of a line that are no sizes of texts have at most 18 digits; those of `cluster` are
-- in their ranges
abbrev pub HasShortNumbers : Asked → Type 0
HasShortNumbers (Check file) = Unit {0}
HasShortNumbers (Compile file image) = Unit {0}
HasShortNumbers (Asm text image) = Unit {0}
HasShortNumbers (ListImage image text) = Unit {0}
HasShortNumbers (Flip image flipped) = Unit {0}
HasShortNumbers (ShowInverse file out) = Unit {0}
HasShortNumbers (Generate seed size out) = Unit {0}
HasShortNumbers (Cluster script cells images) = (1 ≤ length images) × (length images ≤ 8)
    × (1 ≤ cells) × (cells ≤ 65536)
HasShortNumbers (RunImage image sizes state save) = HasShortSizes sizes
HasShortNumbers (Debug image room script) = HasShortRoom room
HasShortNumbers (Trace file room script input) = HasShortRoom room
HasShortNumbers (Go file sizes input) = HasShortSizes sizes
HasShortNumbers (Turn file sizes input) = HasShortSizes sizes
HasShortNumbers (Profile file sizes) = HasShortSizes sizes
HasShortNumbers (Wrap file sizes names input) = HasShortSizes sizes
HasShortNumbers (Explain file sizes input) = HasShortSizes sizes
