use Rattle.std.proofs.Common.{◌≡◌, ◌++◌, drop}
use Rattle.std.specs.Prelude.{string_bytes}
use Rattle.run_settings.specs.rpp_tree.Views.{source_of}
use Rattle.store_report.specs.roopl_semantics.Report.{object_lines}
use Rattle.explain_commands.proofs.stores.add_objects.Given as goal

abbrev pub invariant-loop-at : goal.invariant-loop-at
invariant-loop-at l = string_bytes l.out ++ object_lines (source_of l.checked) l.heap.store l.names.keys
    (drop l.at l.names.keys) ≡ string_bytes l.fn.out ++ object_lines (source_of l.checked) l.heap.store l.names.keys
    l.names.keys
