-- The words that begin a session.
use Rattle.std.specs.Prelude.{ℕ, List, [], ◌∷◌, None, Some, option_map, if◌then◌else◌, string_bytes}
use Rattle.std.specs.Prelude.{codes}
use Rattle.std.specs.declared.option.Option.{Option}
use Rattle.std.specs.Str.{bytes_eq}
use Rattle.run_settings.specs.pisa_scripts.Lines.{short_number}
use Rattle.run_settings.specs.command_plan.declared.plan.Room.{Room}
use Rattle.live_command.specs.declared.beginning.Beginning.{Beginning}
use Rattle.live_command.specs.declared.beginning.Loading.{Loading}
use Rattle.live_command.specs.declared.beginning.Opening.{Opening}
use Rattle.live_command.specs.declared.beginning.Opening.TheVariants.{Source, Image}

-- the file of a source, the sizes of the memory, and the file of the input, if there is one
pub record Begun : Type 0 where
  pub file : List ℕ
  pub room : Room
  pub input : Option (List ℕ)

-- the file of an image, the sizes of the memory, and the file of a state, if there is one
pub record Loads : Type 0 where
  pub file : List ℕ
  pub room : Room
  pub state : Option (List ℕ)

-- a session of a source, or of an image
pub data Opened : Type 0 where
  OfSource : (it : Begun) → Opened
  OfImage : (it : Loads) → Opened

abbrev pub session_begun : Beginning → Begun
session_begun it = record {
  file = string_bytes it.file;
  room = it.room;
  input = option_map string_bytes it.input;
}

abbrev pub loads : Loading → Loads
loads it = record {
  file = string_bytes it.file;
  room = it.room;
  state = option_map string_bytes it.state;
}

abbrev pub session_opened : Opening → Opened
session_opened (Source it) = OfSource (session_begun it)
session_opened (Image it) = OfImage (loads it)

-- the sizes of a memory that two words are
abbrev pub room_with : (heap deep : Option ℕ) → Option Room
room_with (Some heap) (Some deep) = Some (record { heap = heap; deep = deep })
room_with _ _ = None

abbrev pub room_of : (heap deep : List ℕ) → Option Room
room_of heap deep = room_with (short_number heap) (short_number deep)

abbrev pub source_with : (file : List ℕ) → Option Room → (input : Option (List ℕ)) → Option Opened
source_with file None input = None
source_with file (Some room) input =
    Some (OfSource (record { file = file; room = room; input = input }))

-- F H D, and perhaps INPUT
abbrev pub source_begin : List (List ℕ) → Option Opened
source_begin (file ∷ heap ∷ deep ∷ []) = source_with file (room_of heap deep) None
source_begin (file ∷ heap ∷ deep ∷ input ∷ []) = source_with file (room_of heap deep) (Some input)
source_begin _ = None

abbrev pub image_with : (file : List ℕ) → Option Room → (state : Option (List ℕ)) → Option Opened
image_with file None state = None
image_with file (Some room) state =
    Some (OfImage (record { file = file; room = room; state = state }))

-- IMG H D, and perhaps STATE
abbrev pub image_begin : List (List ℕ) → Option Opened
image_begin (file ∷ heap ∷ deep ∷ []) = image_with file (room_of heap deep) None
image_begin (file ∷ heap ∷ deep ∷ state ∷ []) = image_with file (room_of heap deep) (Some state)
image_begin _ = None

-- what the words begin, if they begin a session
abbrev pub begin_of : List (List ℕ) → Option Opened
begin_of [] = None
begin_of (name ∷ args) = if bytes_eq name (codes "source") then source_begin args
    else if bytes_eq name (codes "image") then image_begin args else None
