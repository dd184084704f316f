use Rattle.std.proofs.Common.{◌≡◌, length}
use Rattle.pisa_cluster.specs.Replay.{start_of_joint}
use Rattle.pisa_cluster.specs.Schedules.{IsCluster}
use Rattle.pisa_cluster.proofs.cluster.Cluster.rewind.Given as goal

abbrev pub invariant-loop-left : goal.invariant-loop-left
invariant-loop-left l =
    (length l.self.kept ≡ l.left) × (start_of_joint l.self.joint ≡ start_of_joint l.initial.self.joint)
    × (l.self.next_serial ≡ l.initial.self.next_serial) × IsCluster l.self
    × (length l.self.joint.processors ≡ length l.initial.self.joint.processors)
    × (length l.self.joint.cells ≡ length l.initial.self.joint.cells)
