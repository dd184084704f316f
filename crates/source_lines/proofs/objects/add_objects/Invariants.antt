use Rattle.std.proofs.Common.{◌≡◌, ◌+◌, ◌-◌, ◌++◌}
use Rattle.std.specs.Prelude.{string_bytes}
use Rattle.source_steps.specs.rpp_tree.Views.{source_of}
use Rattle.source_lines.specs.Named.{objects_from}
use Rattle.source_lines.proofs.objects.add_objects.Given as goal

-- the lines so far and those of the names that are left are the whole
abbrev pub invariant-loop-at : goal.invariant-loop-at
invariant-loop-at l =
    string_bytes l.out ++ objects_from (source_of l.checked) l.heap.store (l.from + l.at) (l.count - l.at)
    ≡ string_bytes l.fn.out ++ objects_from (source_of l.checked) l.heap.store l.from l.count
