use Rattle.meaning_inverse.proofs.FinalInput.{final_input}
use Rattle.meaning_inverse.proofs.laws.final_fields_are_input.Goals as goal

pub returns : goal.returns
returns c = final_input
