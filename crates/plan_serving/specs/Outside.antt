-- A file store and a sink as contracts see them, and what a write and a put leave of them.
use Rattle.std.specs.Prelude.{◌≡◌, ℕ, List, ◌∷◌, Result, Ok, Err}
use Rattle.std.specs.declared.option.Option.{Option}
use Rattle.std.specs.Io.KnownBytes.{Appends, Keeps}
use Rattle.command_plan.specs.rpp_ports.Ports.{Texts, SetsText, LeavesAfter, AppendsPrefix}
use Rattle.command_plan.specs.rpp_ports.Events.{Event, Write, Put}
use Rattle.command_plan.specs.rpp_ports.declared.shelf.ShelfFault.{ShelfFault}
use Rattle.command_plan.specs.rpp_ports.declared.sink.SinkFault.{SinkFault}
use Rattle.command_plan.specs.rpp_ports.declared.sink.SinkFault.TheVariants.{Failed, NoMemory}
use Rattle.command_plan.specs.Plans.{Written}

-- a file store: its texts, if they are known, and its calls so far, the last one first
pub record Shelved : Type 0 where
  pub texts : Option Texts
  pub calls : List Event

-- a sink: its bytes, if they are known, and its puts so far, the last one first
pub record Printed : Type 0 where
  pub bytes : Option (List ℕ)
  pub puts : List Put

-- what a write with this answer leaves of the texts
abbrev pub WriteLeaves : Result (Unit {0}) ShelfFault → Written → (old new : Option Texts) → Type 0
WriteLeaves (Ok _) w old new = SetsText old new w.name w.bytes
WriteLeaves (Err fault) w old new = LeavesAfter old new w.name fault

-- one more write was made, of this file, and had this answer
pub record HasWritten (w : Written) (answer : Result (Unit {0}) ShelfFault) (shelf shelf' : Shelved)
    : Type 0 where
  pub noted : shelf'.calls ≡ Write w.name w.bytes answer ∷ shelf.calls
  pub left : WriteLeaves answer w shelf.texts shelf'.texts

-- what a put with this answer leaves of the bytes
abbrev pub PutLeaves : Result (Unit {0}) SinkFault → (text : List ℕ) → (old new : Option (List ℕ))
    → Type 0
PutLeaves (Ok _) text old new = Appends old new text
PutLeaves (Err Failed) text old new = AppendsPrefix old new text
PutLeaves (Err NoMemory) text old new = Keeps old new

-- one more put was made, of this text, and had this answer
pub record HasPut (text : List ℕ) (answer : Result (Unit {0}) SinkFault) (out out' : Printed)
    : Type 0 where
  pub noted : out'.puts ≡ record { bytes = text; answer = answer } ∷ out.puts
  pub left : PutLeaves answer text out.bytes out'.bytes
