use Rattle.std.proofs.Common.{◌≡◌, ◌++◌, ◌+◌, drop}
use Rattle.std.specs.Prelude.{string_bytes}
use Rattle.cluster_commands.specs.ClusterShown.{processor_lines}
use Rattle.cluster_commands.proofs.shown.add_processors.Given as goal

-- the lines so far and those of the processors that are left are the whole
abbrev pub invariant-loop-before : goal.invariant-loop-before
invariant-loop-before l =
    string_bytes l.text ++ processor_lines (l.before + 1) (drop l.before l.cluster.joint.processors)
    ≡ string_bytes l.initial.text ++ processor_lines 1 l.cluster.joint.processors
