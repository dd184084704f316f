-- What is noted of a call.
use Rattle.live_port.specs.declared.trail.Note.{Note}
use Rattle.live_port.specs.Heard.{Heard, heard}

abbrev pub heard_of : Note → Heard
heard_of note = heard note.asked.now
