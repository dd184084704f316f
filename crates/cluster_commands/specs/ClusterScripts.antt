-- What a script for several processors says, and the first line that is refused.
use Rattle.std.specs.Prelude.{◌≡◌, ℕ, ◌+◌, ◌≤◌, nat_eq, if◌then◌else◌, List, [], ◌∷◌, ◌++◌, Option}
use Rattle.std.specs.Prelude.{Some, None, Result, Ok, Err, option_map, codes}
use Rattle.std.specs.Str.{bytes_eq}
use Rattle.command_plan.specs.pisa_image.Numbers.{◌>>=◌}
use Rattle.command_plan.specs.pisa_scripts.Lines.{number_up_to, is_blank, pieces, without_returns}
use Rattle.cluster_commands.specs.declared.script.Event.{Event}
use Rattle.cluster_commands.specs.declared.script.Event.TheVariants.{Step, Undo, Rewind}
use Rattle.cluster_commands.specs.declared.error.ScriptError.{ScriptError}
use Rattle.cluster_commands.specs.declared.error.ScriptError.TheVariants.{BadEvent, NoMemory}
use Rattle.cluster_commands.specs.declared.script.TheConstants.{MOST_AT_ONCE}

-- a number that is not 0
abbrev pub from_one : Option ℕ → Option ℕ
from_one None = None
from_one (Some n) = if nat_eq n 0 then None else Some n

abbrev pub step_by : Option ℕ → Option ℕ → Option Event
step_by (Some who) (Some count) = Some (Step who count)
step_by _ _ = None

abbrev pub step_event : (processors : ℕ) → List (List ℕ) → Option Event
step_event processors (who ∷ count ∷ []) =
    step_by (from_one (number_up_to processors who)) (from_one (number_up_to MOST_AT_ONCE count))
step_event processors _ = None

abbrev pub undo_event : (processors : ℕ) → List (List ℕ) → Option Event
undo_event processors (who ∷ []) = option_map Undo (from_one (number_up_to processors who))
undo_event processors _ = None

abbrev pub rewind_event : List (List ℕ) → Option Event
rewind_event [] = Some Rewind
rewind_event _ = None

-- what a line requests of so many processors
abbrev pub script_event : (processors : ℕ) → List (List ℕ) → Option Event
script_event processors [] = None
script_event processors (name ∷ args) =
    if bytes_eq name (codes "step") then step_event processors args
    else if bytes_eq name (codes "undo") then undo_event processors args
    else if bytes_eq name (codes "rewind") then rewind_event args
    else None

-- the processors that an event names are there, and the steps are no more than one line may ask for
abbrev pub IsEvent : (processors : ℕ) → Event → Type 0
IsEvent processors (Step who count) = (1 ≤ who) × (who ≤ processors) × (count ≤ MOST_AT_ONCE)
IsEvent processors (Undo who) = (1 ≤ who) × (who ≤ processors)
IsEvent processors Rewind = Unit {0}

-- the events so far with that of a line, unless it asks nothing
abbrev pub with_event : (line : ℕ) → List Event → Option Event → Result (List Event) ScriptError
with_event line events None = Err (BadEvent line)
with_event line events (Some event) = Ok (events ++ event ∷ [])

abbrev pub with_event_line : (processors line : ℕ) → List Event → List ℕ → Result (List Event) ScriptError
with_event_line processors line events text =
    if is_blank text then Ok events else with_event line events
    (script_event processors (pieces 32 text))

-- line by line, the first of which has this number
unfoldable pub events_from : (processors line : ℕ) → List Event → List (List ℕ)
    → Result (List Event) ScriptError
events_from processors line events [] = Ok events
events_from processors line events (text ∷ texts) =
    with_event_line processors line events text >>= λ more. events_from processors (line + 1) more texts

-- what a text asks of so many processors, or its first line that asks nothing
abbrev pub events_of : (processors : ℕ) → (text : List ℕ) → Result (List Event) ScriptError
events_of processors text = events_from processors 1 [] (pieces 10 (without_returns text))

-- what a function returned is this reading, unless memory ran out
abbrev pub EventsFail : ScriptError → Result (List Event) ScriptError → Type 0
EventsFail NoMemory read = Unit {0}
EventsFail refusal read = read ≡ Err refusal

abbrev pub EventsGive : {X : Type 0} → (X → List Event) → Result X ScriptError
    → Result (List Event) ScriptError → Type 0
EventsGive view (Ok x) read = read ≡ Ok (view x)
EventsGive view (Err e) read = EventsFail e read
