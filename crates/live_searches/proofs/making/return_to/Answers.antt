use Rattle.live_searches.proofs.Single.{stays_same}
use Rattle.live_searches.proofs.making.return_to.Goals as goal

pub returns-in-Ok-clause-same : goal.returns-in-Ok-clause-same
returns-in-Ok-clause-same c = c.in-Ok.ensures.told.1.same

pub returns-clause-same : goal.returns-clause-same
returns-clause-same c = stays_same c.args.debugger.now c.command.new.self c.in-Err.ensures.stays
