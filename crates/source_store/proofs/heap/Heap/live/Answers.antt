use Rattle.std.proofs.Common.{length, ap, ◌∙◌, arith}
use Rattle.source_store.specs.HeapView.{store_of, live_at}
use Rattle.source_store.proofs.Tables.{listing_few}
use Rattle.source_store.proofs.heap.Heap.live.Goals as goal

pub returns-clause-few : goal.returns-clause-few
returns-clause-few c =
    let live = c.live_among.ensures ∙ ap (λ t. length (store_of t)) c.deref.ensures.value in
    let fewer = listing_few (length c.self.inside.objects.items) (live_at c.self.inside.objects.items) in
    let few = c.self.invariant.few in
    omega arith

pub returns-clause-length : goal.returns-clause-length
returns-clause-length c = c.live_among.ensures ∙ ap (λ t. length (store_of t)) c.deref.ensures.value
    ∙ ap (λ k. length k.store) c.self.view_is
