use Rattle.meaning_machine.proofs.Placing.{start_placed, step_placed, turned_placed}
use Rattle.meaning_machine.proofs.laws.stays_placed.Goals as goal

pub returns : goal.returns
returns c = record { start = start_placed; step = step_placed; turned = turned_placed }
