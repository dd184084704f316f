use Rattle.std.proofs.Common.{◌≡◌, ◌+◌, ◌++◌, drop}
use Rattle.std.specs.Prelude.{string_bytes}
use Rattle.static_layout.specs.roopl_semantics.Report.{field_lines}
use Rattle.store_report.specs.Leads.{leads_of}
use Rattle.store_report.specs.Shown.{values_by, addresses_of}
use Rattle.store_report.proofs.memories.add_fields.Given as goal

-- the lines so far and those of what is left are the whole
abbrev pub invariant-loop-number : goal.invariant-loop-number
invariant-loop-number l =
    string_bytes l.out ++ field_lines l.indent (addresses_of l.met.entries) (drop l.number l.fields)
    (values_by l.memory.machine.now.state.cells (l.at + l.number)
    (leads_of l.memory.table.now (drop l.number l.fields)))
    ≡ string_bytes l.initial.out ++ field_lines l.indent (addresses_of l.met.entries) l.fields
    (values_by l.memory.machine.now.state.cells l.at (leads_of l.memory.table.now l.fields))
