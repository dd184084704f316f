use Rattle.meaning_inverse.proofs.Law.{arrays_kept}
use Rattle.meaning_inverse.proofs.laws.arrays_keep_elements.Goals as goal

pub returns : goal.returns
returns c = λ program limits fuel extra locals shape class body start end cost accepted inside means passes plain sound
    arrays e. arrays_kept program limits extra locals shape class body start accepted inside means passes plain sound
    arrays fuel end cost e
