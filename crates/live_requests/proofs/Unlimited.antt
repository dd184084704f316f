-- Commands without a limit.
use Rattle.std.proofs.Common.{◌≡◌, refl, None}
use Rattle.debugger_scripts.specs.pisa_scripts.declared.command.Command.{Command}
use Rattle.debugger_scripts.specs.pisa_scripts.declared.command.Command.TheVariants.{Step, Back, To, BackTo, Regs, Cells}
use Rattle.live_requests.specs.Limited.{limited}

-- without a limit a command is as it is
pub unlimited : (command : Command) → limited None command ≡ command
unlimited (Step n) = refl
unlimited (Back n) = refl
unlimited (To place n) = refl
unlimited (BackTo place n) = refl
unlimited Regs = refl
unlimited (Cells from count) = refl
