use Rattle.std.proofs.Common.{◌≡◌, ◌++◌, drop}
use Rattle.std.specs.Prelude.{string_bytes}
use Rattle.meaning_reached.specs.rpp_tree.Views.{source_of}
use Rattle.store_report.specs.Shown.{objects_by, addresses_of}
use Rattle.store_report.proofs.memories.add_objects.Given as goal

-- the lines so far and those of what is left are the whole
abbrev pub invariant-loop-number : goal.invariant-loop-number
invariant-loop-number l =
    string_bytes l.out ++ objects_by (source_of l.memory.program.now) l.memory.table.now l.memory.tables.now
    l.memory.machine.now.state.cells (addresses_of l.met.entries) (drop l.number l.met.entries)
    ≡ string_bytes l.initial.out ++ objects_by (source_of l.memory.program.now) l.memory.table.now l.memory.tables.now
    l.memory.machine.now.state.cells (addresses_of l.met.entries) l.met.entries
