use Rattle.source_meaning.proofs.store.Store.heap.Goals as goal

pub returns : goal.returns
returns c = c.self.view_is
