use Rattle.std.proofs.Common.{◌<◌, length, arith}
use Rattle.rpp_probes.proofs.Sure.{next_one, ends_not_next, one_told, all_told}
use Rattle.rpp_probes.proofs.telling.tell_each_of.Goals as goal

pub tell_each-requires : goal.tell_each-requires
tell_each-requires g c =
    let less : c.loop-probe.probe-index < length c.loop-probe.probes = omega arith in
    let next = next_one _ c.args.steps.now c.loop-probe.probes c.loop-probe.probe-index c.probe-item.result _
    c.loop-probe.invariant less in
    ends_not_next c.args.steps.now next.front next.behind _ _ c.requires next.parts

pub loop-probe-preserved : goal.loop-probe-preserved
loop-probe-preserved g c =
    let less : c.loop-probe.probe-index < length c.loop-probe.probes = omega arith in
    one_told _ c.args.steps.now c.loop-probe.probes c.loop-probe.probe-index c.probe-item.result c.tell_each.new.probe _
    c.loop-probe.invariant less c.tell_each.ensures

pub returns : goal.returns
returns g c = all_told _ c.args.steps.now c.loop-probe.probes c.loop-probe.probe-index _ c.loop-probe.invariant
    (omega arith) c.requires
