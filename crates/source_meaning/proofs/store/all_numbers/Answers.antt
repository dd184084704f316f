use Rattle.std.proofs.Common.{arith}
use Rattle.source_meaning.proofs.Numbering.{listed_next, all_listed}
use Rattle.source_meaning.proofs.store.all_numbers.Goals as goal

pub loop-name-preserved : goal.loop-name-preserved
loop-name-preserved c = listed_next c.args.heap.now c.loop-name.objects.items _ c.loop-name.name _ c.loop-name.invariant
    c.in_ok-numbers_at.ensures c.in_ok-push.ensures.items

pub numbers_at-requires : goal.numbers_at-requires
numbers_at-requires c =
    let few = c.names-name-end.ensures.few in
    let below = c.loop-name-test.true in
    omega arith

pub returns : goal.returns
returns c =
    all_listed c.args.heap.now c.loop-name.objects.items _ c.loop-name.invariant
    (λ name h. c.names-name-end.ensures.past name (let f = c.loop-name-test.false in omega arith))
