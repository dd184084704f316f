use Rattle.std.proofs.Common.{◌≡◌, ◌∙◌, ap, ◌<◌, ◌+◌, length, ℕ, suc, ◌-◌, List, Some, arith}
use Rattle.std.specs.Prelude.{slice_get}
use Rattle.refine_frame.specs.class_rules.Table.{Table}
use Rattle.store_report.specs.declared.leads.Lead.{Lead}
use Rattle.store_report.specs.Leads.{Met, meets_behind, goes_on, walks}
use Rattle.store_report.proofs.walking.met_all.Goals as goal

next : (table : Table) (tables cells : List ℕ) (met : Met) (k count : ℕ) (entry : ℕ × Lead) → k < count
    → Some entry ≡ slice_get met k → walks (count - (k + 1)) table tables cells
    (meets_behind table tables cells met entry) (k + 1) ≡ walks (count - k) table tables cells met k
next table tables cells met k count entry h e =
    let one : suc (count - (k + 1)) ≡ count - k = omega arith in
    ap (λ o. goes_on o met (λ entry. walks (count - (k + 1)) table tables cells
    (meets_behind table tables cells met entry) (k + 1))) e
    ∙ ap (λ n. walks n table tables cells met k) one

pub loop-next-preserved : goal.loop-next-preserved
loop-next-preserved c =
    let cells = c.args.memory.now.machine.now.state.cells in
    let k = c.loop-next.next in
    ap (λ met. walks (length cells - (k + 1)) c.args.memory.now.table.now c.args.memory.now.tables.now cells met
    (k + 1)) c.in_ok-meet_behind.ensures
    ∙ next c.args.memory.now.table.now c.args.memory.now.tables.now cells c.loop-next.met.entries k (length cells)
    (c.in-Some.at.now, c.in-Some.lead.now) (omega (arith, c.loop-next-test.true, c.cells-next-end.ensures))
    c.in-Some.ensures.entry
    ∙ c.loop-next.invariant
