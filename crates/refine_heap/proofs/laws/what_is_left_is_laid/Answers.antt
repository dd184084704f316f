use Rattle.refine_heap.proofs.Left.{taken_law, given_law}
use Rattle.refine_heap.proofs.laws.what_is_left_is_laid.Goals as goal

pub returns-clause-taken : goal.returns-clause-taken
returns-clause-taken c = taken_law

pub returns-clause-given : goal.returns-clause-given
returns-clause-given c = given_law
