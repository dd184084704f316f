-- What is left of commands that were aborted.
use Rattle.std.specs.Prelude.{◌≡◌, ◌+◌, ℕ, List, take}
use Rattle.pisa_machine.specs.Position.{Position}
use Rattle.pisa_scripts.specs.declared.command.Command.{Command}
use Rattle.two_way_debugger.specs.Shown.{position_after, spent_in}

-- the moves of so many of the commands were made, and no others; `before` and `now` are the counter
pub record IsAlong (commands : List Command) (first last : Position) (before now : ℕ) : Type 0 where
  pub made : ℕ
  pub position : last ≡ position_after (take made commands) first
  pub counter : now ≡ before + spent_in (take made commands) first
