use Rattle.std.proofs.Common.{arith}
use Rattle.rpp_probes.proofs.Told.{one_goes, one_ends, cut_short, told_whole}
use Rattle.rpp_probes.proofs.telling.tell_all.Goals as goal

pub loop-at-preserved-then-tell_at : goal.loop-at-preserved-then-tell_at
loop-at-preserved-then-tell_at g c =
    one_goes c.args.step c.loop-at.at _ _ _ _ _ c.tell_at.result c.loop-at.invariant c.tell_at.ensures.told
    c.if-tell_at.true

pub loop-at-preserved : goal.loop-at-preserved
loop-at-preserved g c =
    one_ends c.args.step c.loop-at.at _ _ _ _ _ _ _ c.tell_at.result c.loop-at.invariant c.tell_at.ensures.told
    c.if-tell_at.false c.in-Ok.ensures.dropped

pub returns-in-Err-clause-cut_short : goal.returns-in-Err-clause-cut_short
returns-in-Err-clause-cut_short g c =
    cut_short c.args.step c.loop-at.at _ _ _ _ _ _ _ c.tell_at.result c.loop-at.invariant c.tell_at.ensures.told
    c.if-tell_at.false c.in-Err.ensures.kept c.in-Err.ensures.lines

pub returns-clause-told : goal.returns-clause-told
returns-clause-told g c = (told_whole _ c.loop-at.probes.items c.args.step c.loop-at.at _ _ _ c.loop-at.invariant
    (omega (arith, c.loop-at.probes.ok))).told

pub returns-clause-lines : goal.returns-clause-lines
returns-clause-lines g c = (told_whole _ c.loop-at.probes.items c.args.step c.loop-at.at _ _ _ c.loop-at.invariant
    (omega (arith, c.loop-at.probes.ok))).lines
