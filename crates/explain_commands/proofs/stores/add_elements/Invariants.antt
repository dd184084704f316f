use Rattle.std.proofs.Common.{◌≡◌, ◌++◌, drop}
use Rattle.std.specs.Prelude.{string_bytes}
use Rattle.source_meaning.specs.source_store.ValueView.{values_of}
use Rattle.store_report.specs.roopl_semantics.Report.{element_lines}
use Rattle.explain_commands.proofs.stores.add_elements.Given as goal

abbrev pub invariant-loop-index : goal.invariant-loop-index
invariant-loop-index l = string_bytes l.out ++ element_lines l.names.keys l.index (values_of (drop l.index l.values))
    ≡ string_bytes l.fn.out ++ element_lines l.names.keys 0 (values_of l.values)
