use Rattle.std.proofs.Common.{◌≡◌, ◌-◌, ◌<◌, ◌+◌, arith, get_or, length, All, drop, ◌≢◌, None, subst}
use Rattle.pisa_cluster.specs.declared.processor.Kept.{Kept}
use Rattle.pisa_cluster.proofs.Calls.{last_found, get_or-same}
use Rattle.pisa_cluster.proofs.search.last_step.Goals as goal

pub returns-then-kept-at : goal.returns-then-kept-at
returns-then-kept-at c =
    let d : Kept = record { serial = 0; who = 0; touched = None } in
    let high = c.loop-at.invariant.0 in
    let some = c.loop-at-test.true in
    let same : c.loop-at.at ≡ c.loop-at.at - 1 + 1 = omega (arith, some) in
    let below : c.loop-at.at - 1 < length c.args.kept.now = omega (arith, high, some) in
    let read : get_or c.args.kept.now (c.loop-at.at - 1) d
    ≡ get_or c.args.kept.now (c.loop-at.at - 1) (get_or c.args.kept.now (c.loop-at.at - 1) d) =
    get_or-same c.args.kept.now (c.loop-at.at - 1) d _ below in
    last_found c.args.kept.now c.args.who (c.loop-at.at - 1) (get_or c.args.kept.now (c.loop-at.at - 1) d) below read
    c.if-kept-at.true
    (subst (λ n. All (λ (k : Kept). k.who ≢ c.args.who) (drop n c.args.kept.now)) same c.loop-at.invariant.1)
