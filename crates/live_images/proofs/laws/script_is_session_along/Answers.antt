use Rattle.live_images.proofs.ScriptedAlong.{script_is_session_along}
use Rattle.live_images.proofs.laws.script_is_session_along.Goals as goal

pub returns : goal.returns
returns c = script_is_session_along
