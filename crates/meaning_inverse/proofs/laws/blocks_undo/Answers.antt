use Rattle.meaning_inverse.proofs.Law.{block_undone}
use Rattle.meaning_inverse.proofs.laws.blocks_undo.Goals as goal

pub returns : goal.returns
returns c = λ program limits fuel extra locals shape class body start end cost accepted inside means passes plain sound
    arrays e. block_undone program limits extra locals shape class body start accepted inside means passes plain sound
    arrays fuel end cost e
