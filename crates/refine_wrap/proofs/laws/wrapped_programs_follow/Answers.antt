use Rattle.refine_wrap.proofs.Told.{wrapped_programs_follow}
use Rattle.refine_wrap.proofs.laws.wrapped_programs_follow.Goals as goal

pub returns : goal.returns
returns c = wrapped_programs_follow
