use Rattle.std.proofs.Common.{◌≡◌, ◌≤◌, ◌+◌, ◌*◌, length}
use Rattle.std.specs.Prelude.{string_bytes}
use Rattle.cluster_commands.proofs.EventsOn.{PrintsOn}
use Rattle.cluster_commands.proofs.following.follow.Given as goal

abbrev pub invariant-loop-event : goal.invariant-loop-event
invariant-loop-event l = record {
  prints : PrintsOn l.events l.event-index l.initial.cluster (string_bytes l.initial.text) l.cluster
      (string_bytes l.text);
  serial : l.cluster.next_serial ≤ l.initial.cluster.next_serial + l.event-index * 10000;
  processors : length l.cluster.joint.processors ≡ length l.initial.cluster.joint.processors;
  cells : length l.cluster.joint.cells ≡ length l.initial.cluster.joint.cells;
}
