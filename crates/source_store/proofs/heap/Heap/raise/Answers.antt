use Rattle.std.proofs.Common.{ap}
use Rattle.source_store.proofs.Tables.{most_named}
use Rattle.source_store.proofs.Blocks.{heap_stays}
use Rattle.source_store.proofs.heap.Heap.raise.Goals as goal

pub invariant_of-self : goal.invariant_of-self
invariant_of-self c = heap_stays _ _ _ _ _ c.raise_at.ensures.blocks c.self.invariant

pub returns-clause-most : goal.returns-clause-most
returns-clause-most c =
    most_named c.self.inside.objects.items c.args.name _ c.args.self.now.store c.raise_at.result
    (ap (λ k. k.store) c.self.view_is) c.raise_at.ensures.most
