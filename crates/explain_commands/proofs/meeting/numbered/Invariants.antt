use Rattle.explain_commands.proofs.Walked.{IsWalking}
use Rattle.explain_commands.proofs.meeting.numbered.Given as goal

abbrev pub invariant-loop-next : goal.invariant-loop-next
invariant-loop-next l = IsWalking l.heap.store l.size l.next l.names.keys
