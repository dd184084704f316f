use Rattle.program_codegen.proofs.Leading.{enter_by_swapbr}
use Rattle.program_codegen.proofs.laws.calls_enter_by_swapbr.Goals as goal

pub returns : goal.returns
returns c = enter_by_swapbr
