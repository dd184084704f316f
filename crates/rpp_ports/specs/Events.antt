-- The calls of the ports, each with its answer.
use Rattle.std.specs.Prelude.{ℕ, List, Result, Ok, Err, Vec}
use Rattle.rpp_ports.specs.declared.shelf.ShelfFault.{ShelfFault}
use Rattle.rpp_ports.specs.declared.sink.SinkFault.{SinkFault}

-- a call of a file store, with its answer
pub data Event : Type 0 where
  Read : (name : List ℕ) (limit : ℕ) (answer : Result (List ℕ) ShelfFault) → Event
  Write : (name bytes : List ℕ) (answer : Result (Unit {0}) ShelfFault) → Event

-- a call of a sink, with its answer
pub record Put : Type 0 where
  pub bytes : List ℕ
  pub answer : Result (Unit {0}) SinkFault

-- the bytes that a read answered, or why it answered none
abbrev pub bytes_of : {A : Type 0} → Result (Vec ℕ A) ShelfFault → Result (List ℕ) ShelfFault
bytes_of (Ok bytes) = Ok bytes.items
bytes_of (Err fault) = Err fault
