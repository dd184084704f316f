use Rattle.live_session.proofs.Scripted.{script_is_session}
use Rattle.live_session.proofs.laws.script_is_session.Goals as goal

pub returns : goal.returns
returns c = script_is_session
