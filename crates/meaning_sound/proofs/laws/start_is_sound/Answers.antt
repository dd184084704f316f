use Rattle.meaning_sound.proofs.Stated.{start_is_sound}
use Rattle.meaning_sound.proofs.laws.start_is_sound.Goals as goal

pub returns : goal.returns
returns c = start_is_sound
