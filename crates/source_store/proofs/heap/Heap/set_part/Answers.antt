use Rattle.source_store.proofs.Blocks.{heap_stays}
use Rattle.source_store.proofs.heap.Heap.set_part.Goals as goal

pub invariant_of-self : goal.invariant_of-self
invariant_of-self c = heap_stays _ _ _ _ _ c.set_part.ensures.blocks c.self.invariant
