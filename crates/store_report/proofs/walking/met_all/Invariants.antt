use Rattle.std.proofs.Common.{◌≡◌, ◌-◌, length}
use Rattle.store_report.specs.Leads.{walks, met_all}
use Rattle.store_report.proofs.walking.met_all.Given as goal

-- what is left decides
abbrev pub invariant-loop-next : goal.invariant-loop-next
invariant-loop-next l = walks (length l.memory.machine.now.state.cells - l.next) l.memory.table.now l.memory.tables.now
    l.memory.machine.now.state.cells l.met.entries l.next
    ≡ met_all l.memory.table.now l.memory.tables.now l.fields l.memory.machine.now.state.cells
