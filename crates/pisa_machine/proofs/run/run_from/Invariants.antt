use Rattle.std.proofs.Common.{◌≡◌, ◌≤◌, ◌+◌, ◌-◌, Some}
use Rattle.pisa_isa.specs.Machine.{core_state}
use Rattle.pisa_isa.specs.Runs.{steps}
use Rattle.pisa_machine.proofs.run.run_from.Given as goal

-- the steps so far led here, and are counted
abbrev pub invariant-loop-made : goal.invariant-loop-made
invariant-loop-made g l = record {
  reaches : steps l.code l.made (core_state l.initial.core (g.C.Cells.words l.initial.cells))
      ≡ Some (core_state l.core (g.C.Cells.words l.cells));
  counter : l.steps ≡ l.initial.steps + l.made;
  within : l.made ≤ l.bound;
}

abbrev pub decreases-loop-made : goal.decreases-loop-made
decreases-loop-made g l = l.bound - l.made
