-- What a call read, by the events of its file store. `old` and `new` are the calls of the file
-- store, the last one first, before and after.
use Rattle.std.specs.Prelude.{◌≡◌, ◌≢◌, ◌⊎◌, ℕ, ◌≤◌, List, [], ◌∷◌, length, string_bytes}
use Rattle.std.specs.Prelude.{Result, Ok, Err, IfErr}
use Rattle.std.specs.declared.option.Option.{Option}
use Rattle.rpp_ports.specs.Ports.{Texts, Rose, ReadCause, IsTextOf}
use Rattle.rpp_ports.specs.Events.{Event, Read}
use Rattle.rpp_ports.specs.declared.shelf.ShelfFault.{ShelfFault}
use Rattle.rpp_ports.specs.declared.shelf.ShelfFault.TheVariants as fault
use Rattle.command_plan.specs.Files.{Needed, unread}
use Rattle.command_plan.specs.declared.plan.NoPlan.{NoPlan}
use Rattle.command_plan.specs.declared.plan.NoPlan.TheVariants.{NoMemory, Unread}

-- the event of a read of the file
abbrev pub read_event : Needed → Result (List ℕ) ShelfFault → Event
read_event file answer = Read file.name file.limit answer

-- a text that is not too long for the file, and if the texts are known, that of the file
abbrev pub IsGiven : Option Texts → Needed → (text : List ℕ) → Type 0
IsGiven told file text = IsTextOf told file.name text × (length text ≤ file.limit)

-- the files were read, each once and in order, and gave these texts
abbrev pub Gave : Option Texts → List Needed → (texts : List (List ℕ)) → (old new : List Event)
    → Type 0
Gave told [] [] old new = new ≡ old
Gave told [] (text ∷ texts) old new = ⊥
Gave told (file ∷ files) [] old new = ⊥
Gave told (file ∷ files) (text ∷ texts) old new =
    IsGiven told file text × Gave told files texts (read_event file (Ok text) ∷ old) new

-- the last event is a read of the file that failed, and this line says so
pub record FailsAt (told : Option Texts) (file : Needed) (rose : Type 0) (line : List ℕ)
    (old new : List Event) : Type 0 where
  pub why : ShelfFault
  pub not_memory : why ≢ fault.NoMemory
  pub cause : ReadCause told file.name file.limit rose why
  pub tried : new ≡ read_event file (Err why) ∷ old
  pub line_is : line ≡ unread file.name why

-- the files before it gave their texts, each once and in order, and then one could not be read
abbrev pub StopsAt : Option Texts → List Needed → (rose : Type 0) → (line : List ℕ)
    → (old new : List Event) → Type 0
StopsAt told [] rose line old new = ⊥
StopsAt told (file ∷ files) rose line old new = FailsAt told file rose line old new
    ⊎ ((text : List ℕ) × IsGiven told file text
    × StopsAt told files rose line (read_event file (Ok text) ∷ old) new)

-- some first files gave their texts, each once and in order, and perhaps one more read failed
abbrev pub ReadsSome : List Needed → (old new : List Event) → Type 0
ReadsSome [] old new = new ≡ old
ReadsSome (file ∷ files) old new = (new ≡ old)
    ⊎ (((why : ShelfFault) × (new ≡ read_event file (Err why) ∷ old))
    ⊎ ((text : List ℕ) × ReadsSome files (read_event file (Ok text) ∷ old) new))

-- why there is no plan, and what was read until then
abbrev pub Stops : Option Texts → List Needed → (rose : Type 0) → (old new : List Event) → NoPlan
    → Type 0
Stops told files rose old new NoMemory = ReadsSome files old new
Stops told files rose old new (Unread line) =
    StopsAt told files rose (string_bytes line) old new

-- a call that reads only these files, each once and in order, up to the first that fails
pub record Asks {T : Type 0} (told : Option Texts) (before now : ℕ) (files : List Needed)
    (old new : List Event) (result : Result T NoPlan) : Type 0 where
  pub stops : IfErr result (Stops told files (Rose before now) old new)
