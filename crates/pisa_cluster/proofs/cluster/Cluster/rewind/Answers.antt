use Rattle.std.proofs.Common.{◌≡◌, ◌∙◌, ◌+◌, ◌-◌, length, arith}
use Rattle.pisa_cluster.proofs.Calls.{free_last, rewinds_on, all_rewound}
use Rattle.pisa_cluster.proofs.cluster.Cluster.rewind.Goals as goal

pub take_back-requires-clause-free : goal.take_back-requires-clause-free
take_back-requires-clause-free c =
    let long = c.loop-left.invariant.0 in
    let some = c.loop-left-test.true in
    let next : length c.loop-left.self.kept ≡ c.loop-left.left - 1 + 1 = omega (arith, long, some) in
    free_last c.loop-left.self.kept (c.loop-left.left - 1) next

pub loop-left-preserved : goal.loop-left-preserved
loop-left-preserved c =
    let i = c.loop-left.invariant in
    let on = rewinds_on c.loop-left.self c.take_back.new.self c.args.self.now c.loop-left.left c.loop-left-test.true i.0
    i.1 i.2 c.take_back.ensures.leads in (
      on.long,
      on.same_start,
      on.same_next,
      c.take_back.ensures.cluster,
      c.take_back.ensures.processors
          ∙ i.4,
      c.take_back.ensures.cells ∙ i.5,
    )

pub returns-clause-rewinds : goal.returns-clause-rewinds
returns-clause-rewinds c =
    let i = c.loop-left.invariant in
    all_rewound c.loop-left.self c.args.self.now c.loop-left.left c.loop-left-test.false i.3 i.0 i.1 i.2
