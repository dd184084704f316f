use Rattle.std.proofs.Common.{◌+◌, ◌-◌, length}
use Rattle.buddy_book.proofs.lists.+give_block.Given as goal

abbrev pub decreases-give_block : goal.decreases-give_block
decreases-give_block l = length l.lists.now.items + 1 - l.k
