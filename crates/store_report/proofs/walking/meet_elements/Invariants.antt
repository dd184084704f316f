use Rattle.std.proofs.Common.{◌≡◌, ◌+◌, ◌-◌}
use Rattle.std.specs.Prelude.{replicate}
use Rattle.store_report.specs.declared.leads.Lead.TheVariants as lead
use Rattle.store_report.specs.Leads.{met_leads}
use Rattle.store_report.proofs.walking.meet_elements.Given as goal

-- what is left decides
abbrev pub invariant-loop-number : goal.invariant-loop-number
invariant-loop-number l = met_leads l.machine.state.cells l.met.entries (l.at + l.number)
    (replicate (l.count - l.number) lead.Object) ≡ met_leads l.machine.state.cells l.initial.met.entries l.at
    (replicate l.count lead.Object)
