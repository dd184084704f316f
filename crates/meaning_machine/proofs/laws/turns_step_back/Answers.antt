use Rattle.meaning_machine.proofs.Back.{loop_entered, loop_left, loop_again, loop_turned}
use Rattle.meaning_machine.proofs.laws.turns_step_back.Goals as goal

pub returns : goal.returns
returns c = λ setting past rest params around st at entry first again exit. record {
  entered = loop_entered setting past rest params around st at entry first again exit;
  over = loop_left setting past rest params around st at entry first again exit;
  second = loop_again setting past rest params around st at entry first again exit;
  next_turn = loop_turned setting past rest params around st at entry first again exit;
}
