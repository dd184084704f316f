-- What is heard when a line is asked for.
use Rattle.std.specs.Prelude.{◌≡◌, ◌≤◌, ◌==◌, ◌-◌, ℕ, nat_le, Bool, false, List, [], ◌∷◌, take, drop, length, slice_get, ⊤, if◌then◌else◌}
use Rattle.std.specs.Prelude.{None, Some}
use Rattle.std.specs.declared.option.Option.{Option}
use Rattle.live_port.specs.declared.asker.TheConstants.{MOST_LINE}
use Rattle.live_port.specs.declared.asker.Asked.{Asked}
use Rattle.live_port.specs.declared.asker.Asked.TheVariants as asked

-- a line, a line that is too long, one for which there was no memory, that there is none, or a
-- failure of the input
pub data Heard : Type 0 where
  Line : (bytes : List ℕ) → Heard
  Long : Heard
  Lost : Heard
  Over : Heard
  Failed : Heard

abbrev pub heard : Asked → Heard
heard (asked.Line bytes) = Line bytes.items
heard asked.Long = Long
heard asked.Lost = Lost
heard asked.Over = Over
heard asked.Failed = Failed

abbrev pub is_return : Option ℕ → Bool
is_return None = false
is_return (Some b) = b == 13

-- whether the last byte of a line is a carriage return
abbrev pub ends_in_return : List ℕ → Bool
ends_in_return line = is_return (slice_get line (length line - 1))

-- a line without a carriage return at its end
abbrev pub line_without_return : List ℕ → List ℕ
line_without_return line = if ends_in_return line then take (length line - 1) line else line

-- what is heard of a line, if there is memory for it
abbrev pub heard_of : List ℕ → Heard
heard_of line = if nat_le (length line) MOST_LINE then Line (line_without_return line) else Long

-- what is heard where these lines are to come
abbrev pub next_of : List (List ℕ) → Heard
next_of [] = Over
next_of (line ∷ lines) = heard_of line

-- a line that is heard is not too long
abbrev pub IsWithin : Heard → Type 0
IsWithin (Line bytes) = length bytes ≤ MOST_LINE
IsWithin it = ⊤

-- this was heard of these lines
abbrev pub IsNextLine : List (List ℕ) → Heard → Type 0
IsNextLine lines Lost = ⊤
IsNextLine lines Failed = ⊤
IsNextLine lines it = it ≡ next_of lines

-- lines that are known stay known: this was heard of the first of them, and the others are to come
abbrev pub TellsHeard : (before : Option (List (List ℕ))) → Heard → (after : Option (List (List ℕ)))
    → Type 0
TellsHeard None it after = ⊤
TellsHeard (Some lines) it after = IsNextLine lines it × (after ≡ Some (drop 1 lines))
