use Rattle.std.proofs.Common.{◌≡◌, ◌++◌, drop}
use Rattle.std.specs.Prelude.{string_bytes}
use Rattle.cluster_commands.specs.ClusterShown.{filled_lines}
use Rattle.cluster_commands.proofs.shown.add_cells.Given as goal

-- the lines so far and those of the cells that are left are the whole
abbrev pub invariant-loop-at : goal.invariant-loop-at
invariant-loop-at l =
    string_bytes l.text ++ filled_lines l.at (drop l.at l.cluster.joint.cells)
    ≡ string_bytes l.initial.text ++ filled_lines 0 l.cluster.joint.cells
