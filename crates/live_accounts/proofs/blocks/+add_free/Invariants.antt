use Rattle.live_accounts.proofs.blocks.+add_free.Given as goal

abbrev pub decreases-add_free : goal.decreases-add_free
decreases-add_free l = l.order
