use Rattle.meaning_reversed.proofs.Walked.{steps_undone}
use Rattle.meaning_reversed.proofs.laws.steps_are_undone.Goals as goal

pub returns : goal.returns
returns c = steps_undone
