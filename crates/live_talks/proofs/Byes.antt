-- The last reply.
use Rattle.std.proofs.Common.{◌≡◌, subst, ℕ, List, Result}
use Rattle.live_port.specs.rpp_ports.declared.sink.SinkFault.{SinkFault}
use Rattle.live_talks.specs.declared.ends.End.TheVariants as end
use Rattle.live_talks.specs.Ends.{end_line}
use Rattle.live_talks.specs.Talks.{TalkPrinted, TalkPuts, PutsBye, status_by}

pub bye_put : (text : List ℕ) (answer : Result (Unit {0}) SinkFault) (old new : TalkPrinted) (status : ℕ)
    → text ≡ end_line end.Bye → TalkPuts text answer old new → status ≡ status_by 0 answer → PutsBye old new status
bye_put text answer old new status is puts status_is = record {
  answer = answer;
  puts = subst (λ (t : List ℕ). TalkPuts t answer old new) is puts;
  status_is = status_is;
}
