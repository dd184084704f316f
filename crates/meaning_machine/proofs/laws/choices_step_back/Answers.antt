use Rattle.meaning_machine.proofs.Back.{if_entered, if_left}
use Rattle.meaning_machine.proofs.laws.choices_step_back.Goals as goal

pub returns : goal.returns
returns c = record { entered = if_entered; left = if_left }
