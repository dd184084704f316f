use Rattle.std.proofs.Common.{refl}
use Rattle.live_accounts.proofs.Taking.{highest_last}
use Rattle.live_accounts.proofs.blocks.blocks_text.Goals as goal

pub add_free-requires-clause-last : goal.add_free-requires-clause-last
add_free-requires-clause-last c = highest_last c.args.order c.args.heap.now (c.if-not-has_order.ensures refl)
