use Rattle.std.proofs.Common.{◌≡◌, ◌+◌, drop}
use Rattle.store_report.specs.Leads.{met_leads, leads_of}
use Rattle.store_report.proofs.walking.meet_fields.Given as goal

-- what is left decides
abbrev pub invariant-loop-number : goal.invariant-loop-number
invariant-loop-number l = met_leads l.machine.state.cells l.met.entries (l.at + l.number)
    (leads_of l.table (drop l.number l.fields)) ≡ met_leads l.machine.state.cells l.initial.met.entries l.at
    (leads_of l.table l.fields)
