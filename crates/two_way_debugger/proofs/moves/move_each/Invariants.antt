use Rattle.std.proofs.Common.{◌≡◌, ◌+◌, ◌-◌}
use Rattle.two_way_debugger.specs.Moves.{machine_walk, later_walk}
use Rattle.two_way_debugger.proofs.moves.move_each.Given as goal

-- the moves that are left lead where the whole walk does, and those made are counted
abbrev pub invariant-loop-made : goal.invariant-loop-made
invariant-loop-made g l = record {
  rest : machine_walk l.backward l.place l.most l.initial.machine
      ≡ later_walk l.made (machine_walk l.backward l.place (l.most - l.made) l.machine);
  counter : l.steps ≡ l.initial.steps + l.made;
}
