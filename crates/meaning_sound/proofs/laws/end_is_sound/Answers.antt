use Rattle.meaning_sound.proofs.Stated.{end_is_sound}
use Rattle.meaning_sound.proofs.laws.end_is_sound.Goals as goal

pub returns : goal.returns
returns c = end_is_sound
