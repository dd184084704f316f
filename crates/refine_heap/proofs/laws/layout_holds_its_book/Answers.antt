use Rattle.refine_heap.proofs.Whole.{layout_law}
use Rattle.refine_heap.proofs.laws.layout_holds_its_book.Goals as goal

pub returns : goal.returns
returns c = layout_law
