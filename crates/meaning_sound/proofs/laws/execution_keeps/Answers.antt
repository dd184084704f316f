use Rattle.meaning_sound.proofs.Stated.{execution_keeps}
use Rattle.meaning_sound.proofs.laws.execution_keeps.Goals as goal

pub returns : goal.returns
returns c = execution_keeps
