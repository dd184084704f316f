use Rattle.live_accounts.proofs.Ones.{are_one}
use Rattle.live_accounts.proofs.laws.positions_are_one.Goals as goal

pub returns : goal.returns
returns c = are_one
