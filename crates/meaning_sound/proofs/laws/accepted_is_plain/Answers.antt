use Rattle.meaning_sound.proofs.Stated.{accepted_is_plain}
use Rattle.meaning_sound.proofs.laws.accepted_is_plain.Goals as goal

pub returns : goal.returns
returns c = accepted_is_plain
