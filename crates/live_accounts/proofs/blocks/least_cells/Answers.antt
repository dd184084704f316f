use Rattle.live_accounts.proofs.Sizes.{shifted}
use Rattle.live_accounts.proofs.blocks.least_cells.Goals as goal

pub returns-clause-order : goal.returns-clause-order
returns-clause-order c = shifted c.args.order c.requires.from c.requires.to
