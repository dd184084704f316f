use Rattle.std.proofs.Common.{sym, ◌∙◌, rules}
use Rattle.explain_commands.proofs.Walked.{begins, walked_out, walked_all, walks_on}
use Rattle.explain_commands.proofs.meeting.numbered.Goals as goal

pub loop-next-init : goal.loop-next-init
loop-next-init c = begins c.args.heap.now.store _ _ _ c.live-size.ensures.length (search rules)
    c.in_ok-meet_object.ensures

pub loop-next-preserved : goal.loop-next-preserved
loop-next-preserved c =
    walks_on c.args.heap.now.store c.live-size.result c.loop-next.next c.in-Some.name c.loop-next.names.keys _
    c.loop-next-test.true c.loop-next.invariant
    (sym c.name_at.ensures ∙ c.in-Some.is) c.in_ok-meet_object-in-Some.ensures

pub returns-in-None : goal.returns-in-None
returns-in-None c =
    walked_out c.args.heap.now.store c.live-size.result c.loop-next.next c.loop-next.names.keys c.loop-next.invariant
    (sym c.name_at.ensures ∙ c.in-None.is)

pub returns : goal.returns
returns c = walked_all c.args.heap.now.store c.live-size.result c.loop-next.next c.loop-next.names.keys
    c.loop-next-test.false c.loop-next.invariant
