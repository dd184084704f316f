use Rattle.std.proofs.Common.{◌≡◌, ◌+◌, ◌-◌, ◌++◌}
use Rattle.std.specs.Prelude.{string_bytes, replicate}
use Rattle.static_layout.specs.roopl_semantics.Report.{element_lines}
use Rattle.store_report.specs.Shown.{values_by, addresses_of}
use Rattle.store_report.proofs.memories.add_elements.Given as goal

-- the lines so far and those of what is left are the whole
abbrev pub invariant-loop-index : goal.invariant-loop-index
invariant-loop-index l =
    string_bytes l.out ++ element_lines (addresses_of l.met.entries) l.index
    (values_by l.machine.state.cells (l.at + l.index) (replicate (l.count - l.index) l.lead))
    ≡ string_bytes l.initial.out ++ element_lines (addresses_of l.met.entries) 0
    (values_by l.machine.state.cells l.at (replicate l.count l.lead))
