use Rattle.std.proofs.Common.{◌≡◌, length}
use Rattle.source_store.specs.HeapView.{live_at, numbered_listing}
use Rattle.source_store.proofs.heap.live_among.Given as goal

abbrev pub invariant-loop-name : goal.invariant-loop-name
invariant-loop-name l = l.count ≡ length (numbered_listing l.name (live_at l.objects))
