use Rattle.std.proofs.Common.{length}
use Rattle.source_debugger.specs.buddy_book.Shown.{list_at}
use Rattle.live_accounts.specs.Takes.{free_in}
use Rattle.live_accounts.proofs.Taking.{HasTaken}
use Rattle.live_accounts.proofs.blocks.take_all.Given as goal

abbrev pub invariant-loop-count : goal.invariant-loop-count
invariant-loop-count l = HasTaken l.count l.fn.order l.initial.heap l.heap

abbrev pub decreases-loop-count : goal.decreases-loop-count
decreases-loop-count l = length (list_at (free_in l.heap) l.fn.order)
