use Rattle.refine_heap.proofs.Roomy.{room_law}
use Rattle.refine_heap.proofs.laws.rooms_stand_apart.Goals as goal

pub returns : goal.returns
returns c = room_law
