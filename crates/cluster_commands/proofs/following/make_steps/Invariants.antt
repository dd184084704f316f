use Rattle.std.proofs.Common.{◌≡◌, ◌≤◌, ◌+◌, length}
use Rattle.cluster_commands.proofs.StepsOn.{LeadsOn}
use Rattle.cluster_commands.proofs.following.make_steps.Given as goal

abbrev pub invariant-loop-made : goal.invariant-loop-made
invariant-loop-made l = record {
  leads : LeadsOn l.who l.count l.made l.initial.cluster l.cluster;
  serial : l.cluster.next_serial ≤ l.initial.cluster.next_serial + l.made;
  processors : length l.cluster.joint.processors ≡ length l.initial.cluster.joint.processors;
  cells : length l.cluster.joint.cells ≡ length l.initial.cluster.joint.cells;
}
