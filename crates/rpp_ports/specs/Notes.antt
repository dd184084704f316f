-- What is noted of a call.
use Rattle.rpp_ports.specs.declared.trail.Note.{Note}
use Rattle.rpp_ports.specs.declared.trail.Note.TheVariants as note
use Rattle.rpp_ports.specs.declared.trail.PutNote.{PutNote}
use Rattle.rpp_ports.specs.Events.{Event, Read, Write, Put, bytes_of}

abbrev pub event_of : Note → Event
event_of (note.Read name limit answer) = Read name.now limit (bytes_of answer.now)
event_of (note.Write name bytes answer) = Write name.now bytes.now answer

abbrev pub put_of : PutNote → Put
put_of put = record { bytes = put.bytes.now; answer = put.answer }
