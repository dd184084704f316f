use Rattle.paired_code.proofs.Fits.{room_first, room_end, marks_on}
use Rattle.paired_code.proofs.span.put_spans.Goals as goal

pub moved_span-requires-clause-first : goal.moved_span-requires-clause-first
moved_span-requires-clause-first c = room_first _ c.args.by c.args.more.now c.loop-part.part-index c.part-item.result
    c.requires c.loop-part-test.true c.part-item.is

pub moved_span-requires-clause-end : goal.moved_span-requires-clause-end
moved_span-requires-clause-end c = room_end _ c.args.by c.args.more.now c.loop-part.part-index c.part-item.result
    c.requires c.loop-part-test.true c.part-item.is

pub loop-part-preserved : goal.loop-part-preserved
loop-part-preserved c = marks_on c.args.by c.args.more.now c.loop-part.part-index c.part-item.result _ _ _ _
    c.in_ok-push.ensures.items c.moved_span.ensures c.part-item.is c.loop-part-test.true c.loop-part.invariant
