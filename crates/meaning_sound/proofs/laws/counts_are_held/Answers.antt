use Rattle.meaning_sound.proofs.Stated.{counts_are_held}
use Rattle.meaning_sound.proofs.laws.counts_are_held.Goals as goal

pub returns : goal.returns
returns c = counts_are_held
