use Rattle.std.proofs.Common.{◌+◌, ◌-◌, length}
use Rattle.buddy_book.proofs.lists.+take_block.Given as goal

abbrev pub decreases-take_block : goal.decreases-take_block
decreases-take_block l = length l.lists.now.items + 1 - l.k
