-- The files that commands read, and what stops a command that cannot read one.
use Rattle.std.specs.Prelude.{◌≡◌, ◌≢◌, ◌++◌, codes, string_bytes, ◌⊎◌, ℕ, ◌≤◌, List, [], ◌∷◌, ⊤}
use Rattle.std.specs.Prelude.{None, Some, IsSomeAnd, IfSome, OnOk, IfErr, Result, if◌then◌else◌}
use Rattle.std.specs.declared.option.Option.{Option}
use Rattle.class_table.specs.rpp_tree.declared.limits.TheConstants.{MOST_BYTES}
use Rattle.pisa_loader.specs.declared.input.TheConstants.{MOST_INPUT}
use Rattle.rpp_ports.specs.Ports.{Texts, Rose, IsMissing, IsTooLong, ReadCause}
use Rattle.rpp_ports.specs.declared.shelf.ShelfFault.{ShelfFault}
use Rattle.pisa_asm.specs.declared.assembler.TheConstants.{MOST_TEXT}
use Rattle.pisa_scripts.specs.declared.lines.TheConstants.{MOST_SCRIPT}
use Rattle.command_plan.specs.declared.reading.TheConstants.{MOST_IMAGE, MOST_STATE}
use Rattle.command_plan.specs.declared.plan.NoPlan.{NoPlan}
use Rattle.command_plan.specs.declared.plan.NoPlan.TheVariants.{NoMemory, Unread}
use Rattle.std.specs.Str.{bytes_eq}
use Rattle.command_plan.specs.declared.reading.StateNames.{StateNames}
use Rattle.rpp_ports.specs.declared.shelf.ShelfFault.TheVariants as fault

-- a file that is to be read, and how long it may be
pub record Needed : Type 0 where
  pub name : List ℕ
  pub limit : ℕ

abbrev pub source_file : List ℕ → Needed
source_file name = record { name = name; limit = MOST_BYTES }

abbrev pub assembly : List ℕ → Needed
assembly name = record { name = name; limit = MOST_TEXT }

abbrev pub image_file : List ℕ → Needed
image_file name = record { name = name; limit = MOST_IMAGE }

abbrev pub script_file : List ℕ → Needed
script_file name = record { name = name; limit = MOST_SCRIPT }

abbrev pub input : List ℕ → Needed
input name = record { name = name; limit = MOST_INPUT }

-- the input, if there is one
abbrev pub input_files : Option (List ℕ) → List Needed
input_files None = []
input_files (Some name) = input name ∷ []

abbrev pub state_file : List ℕ → Needed
state_file name = record { name = name; limit = MOST_STATE }

-- the state, if there is one
abbrev pub state_files : Option (List ℕ) → List Needed
state_files None = []
state_files (Some name) = state_file name ∷ []

-- one of the files is missing or too long
abbrev pub LacksOne : Texts → List Needed → Type 0
LacksOne texts [] = ⊥
LacksOne texts (file ∷ files) = (IsMissing texts file.name ⊎ IsTooLong texts file.name file.limit)
    ⊎ LacksOne texts files

-- the count rose, or a map of known contents does not have one of the files
abbrev pub Unreadable : Option Texts → List Needed → Type 0 → Type 0
Unreadable told files rose = rose ⊎ IsSomeAnd told (λ texts. LacksOne texts files)

-- why a file could not be read
abbrev pub why_of : ShelfFault → List ℕ
why_of fault.Missing = codes "missing"
why_of fault.TooLong = codes "too long"
why_of fault.Failed = codes "failed"
why_of fault.NoMemory = []

-- the line on a file that could not be read
abbrev pub unread : List ℕ → ShelfFault → List ℕ
unread name why = codes "cannot read " ++ (name ++ (codes ": " ++ (why_of why ++ 10 ∷ [])))

-- the file could not be read, and this line says so
pub record IsUnread (told : Option Texts) (file : Needed) (rose : Type 0) (line : List ℕ) : Type 0
  where
    pub why : ShelfFault
    pub not_memory : why ≢ fault.NoMemory
    pub cause : ReadCause told file.name file.limit rose why
    pub line_is : line ≡ unread file.name why

-- this line is on the first of the files that could not be read: those before it are there
abbrev pub FirstUnread : Option Texts → List Needed → Type 0 → List ℕ → Type 0
FirstUnread told [] rose line = ⊥
FirstUnread told (file ∷ files) rose line =
    IsUnread told file rose line ⊎ (IfSome told (λ texts. ¬ LacksOne texts (file ∷ []))
    × FirstUnread told files rose line)

abbrev pub UnreadLine : (List ℕ → Type 0) → NoPlan → Type 0
UnreadLine P NoMemory = ⊤
UnreadLine P (Unread text) = P (string_bytes text)

abbrev pub UnreadCause : Type 0 → NoPlan → Type 0
UnreadCause cause NoMemory = ⊤
UnreadCause cause (Unread text) = cause

-- a call that reads these files and changes nothing
pub record OnlyReads {T : Type 0} (old new : Option Texts) (before now : ℕ) (files : List Needed)
    (result : Result T NoPlan) : Type 0 where
  pub kept : new ≡ old
  pub later : before ≤ now
  pub cause : IfErr result (UnreadCause (Unreadable old files (Rose before now)))
  pub first : IfErr result (UnreadLine (FirstUnread old files (Rose before now)))
  pub whole : OnOk result (IfSome old (λ texts. ¬ LacksOne texts files))

-- the word `-` names no state
abbrev pub state_argument : List ℕ → Option (List ℕ)
state_argument word = if bytes_eq word (codes "-") then None else Some word

-- the file of the state to begin with, and that of the state to save, if there are such
abbrev pub state_of_names : Option StateNames → Option (List ℕ)
state_of_names None = None
state_of_names (Some names) = state_argument (string_bytes names.state)

abbrev pub save_of_names : Option StateNames → Option (List ℕ)
save_of_names None = None
save_of_names (Some names) = Some (string_bytes names.save)
