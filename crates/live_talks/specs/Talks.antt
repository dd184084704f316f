-- What comes in and goes out.
use Rattle.std.specs.Prelude.{◌≡◌, ℕ, List, ◌∷◌, None, Some, Result, Ok, Err}
use Rattle.std.specs.declared.option.Option.{Option}
use Rattle.std.specs.Io.KnownBytes.{Appends, Keeps}
use Rattle.live_port.specs.rpp_ports.Ports.{AppendsPrefix}
use Rattle.live_port.specs.rpp_ports.Events.{Put}
use Rattle.live_port.specs.rpp_ports.declared.sink.SinkFault.{SinkFault}
use Rattle.live_port.specs.rpp_ports.declared.sink.SinkFault.TheVariants.{Failed, NoMemory}
use Rattle.live_port.specs.Heard.{Heard, TellsHeard}
use Rattle.live_talks.specs.declared.ends.End.TheVariants.{Bye}
use Rattle.live_talks.specs.Ends.{end_line}

-- a sink: its bytes, if they are known, and its puts so far, the last first
pub record TalkPrinted : Type 0 where
  pub bytes : Option (List ℕ)
  pub puts : List Put

-- Two ports at a moment: the lines that are still to come, if they are known, what was heard so
-- far, the last first, and the sink.
pub record Talk : Type 0 where
  pub lines : Option (List (List ℕ))
  pub heard : List Heard
  pub out : TalkPrinted

-- a line was asked for, and this was heard
pub record Hears (it : Heard) (before after : Talk) : Type 0 where
  pub told : TellsHeard before.lines it after.lines
  pub noted : after.heard ≡ it ∷ before.heard
  pub silent : after.out ≡ before.out

-- what a put with this answer leaves of the bytes
abbrev pub TalkPutLeaves : Result (Unit {0}) SinkFault → (text : List ℕ)
    → (old new : Option (List ℕ)) → Type 0
TalkPutLeaves (Ok _) text old new = Appends old new text
TalkPutLeaves (Err Failed) text old new = AppendsPrefix old new text
TalkPutLeaves (Err NoMemory) text old new = Keeps old new

-- a text was put, once, with this answer
pub record TalkPuts (text : List ℕ) (answer : Result (Unit {0}) SinkFault) (old new : TalkPrinted)
    : Type 0 where
  pub noted : new.puts ≡ record { bytes = text; answer = answer } ∷ old.puts
  pub left : TalkPutLeaves answer text old.bytes new.bytes

-- the same, and nothing was heard
pub record TalkSays (text : List ℕ) (answer : Result (Unit {0}) SinkFault) (before after : Talk)
    : Type 0 where
  pub puts : TalkPuts text answer before.out after.out
  pub lines : after.lines ≡ before.lines
  pub heard : after.heard ≡ before.heard

-- the status where a put was answered so: this one, if the text was taken
abbrev pub status_by : (taken : ℕ) → Result (Unit {0}) SinkFault → ℕ
status_by taken (Ok _) = taken
status_by taken (Err Failed) = 2
status_by taken (Err NoMemory) = 7

-- the status with which a session ends after a put, if it ends
abbrev pub over_by : Result (Unit {0}) SinkFault → Option ℕ
over_by (Ok _) = None
over_by (Err fault) = Some (status_by 0 (Err fault))

-- a text was put; if it was not taken, the session ends with this status
pub record PutsText (text : List ℕ) (old new : TalkPrinted) (over : Option ℕ) : Type 0 where
  pub answer : Result (Unit {0}) SinkFault
  pub puts : TalkPuts text answer old new
  pub over_is : over ≡ over_by answer

-- the last reply was put, and the session ends with this status
pub record PutsBye (old new : TalkPrinted) (status : ℕ) : Type 0 where
  pub answer : Result (Unit {0}) SinkFault
  pub puts : TalkPuts (end_line Bye) answer old new
  pub status_is : status ≡ status_by 0 answer
