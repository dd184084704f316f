use Rattle.std.proofs.Common.{◌+◌, refl, arith}
use Rattle.source_store.specs.HeapView.{live_at}
use Rattle.source_store.proofs.Tables.{listed_few, listing_few, listing_next}
use Rattle.source_store.proofs.heap.live_among.Goals as goal

pub loop-name-preserved : goal.loop-name-preserved
loop-name-preserved c =
    let i = c.loop-name.invariant in
    let e = c.live_there-count.ensures in
    let m = listing_next c.loop-name.name (c.loop-name.name + 1) (live_at c.args.objects.now) refl in
    omega arith

pub overflow_add-count : goal.overflow_add-count
overflow_add-count c =
    let i = c.loop-name.invariant in
    let e = c.live_there-count.ensures in
    let f = listing_few c.loop-name.name (live_at c.args.objects.now) in
    let m = listed_few c.loop-name.name (live_at c.args.objects.now c.loop-name.name) in
    omega arith
