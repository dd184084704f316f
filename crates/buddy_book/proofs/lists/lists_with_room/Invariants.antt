use Rattle.buddy_book.proofs.Beginning.{Begun}
use Rattle.buddy_book.proofs.lists.lists_with_room.Given as goal

abbrev pub invariant-loop-at : goal.invariant-loop-at
invariant-loop-at l = Begun l.h l.at l.lists.items
