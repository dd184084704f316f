use Rattle.class_table.proofs.chains.+chain.Given as goal

abbrev pub decreases-chain : goal.decreases-chain
decreases-chain l = l.steps
