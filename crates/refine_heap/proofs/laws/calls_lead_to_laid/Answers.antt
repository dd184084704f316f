use Rattle.refine_heap.proofs.Called.{laid_calls_law}
use Rattle.refine_heap.proofs.laws.calls_lead_to_laid.Goals as goal

pub returns : goal.returns
returns c = laid_calls_law
