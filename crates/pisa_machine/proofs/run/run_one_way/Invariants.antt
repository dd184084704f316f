use Rattle.std.proofs.Common.{◌≡◌, ◌+◌, Some}
use Rattle.pisa_isa.specs.Machine.{core_state}
use Rattle.pisa_isa.specs.Runs.{steps}
use Rattle.pisa_machine.specs.Ways.{state_with}
use Rattle.pisa_machine.proofs.run.run_one_way.Given as goal

-- the steps so far led to what is in the locals, and are counted
abbrev pub invariant-loop-made : goal.invariant-loop-made
invariant-loop-made g l = record {
  reaches : steps l.code l.made (core_state l.initial.core (g.C.Cells.words l.initial.cells))
      ≡ Some (state_with l.way.pc l.way.br l.back l.core.regs (g.C.Cells.words l.cells));
  counter : l.steps ≡ l.initial.steps + l.made;
}
