use Rattle.explain_commands.proofs.Walked.{IsMeeting}
use Rattle.explain_commands.proofs.meeting.meet.Given as goal

abbrev pub invariant-loop-at : goal.invariant-loop-at
invariant-loop-at l = IsMeeting l.cells l.fn.names.keys l.at l.names.keys
