use Rattle.refine_calls.proofs.Stated.{frames_are_open}
use Rattle.refine_calls.proofs.laws.frames_are_open.Goals as goal

pub returns : goal.returns
returns c = frames_are_open
