use Rattle.std.proofs.Common.{◌≡◌, ◌∙◌, sym, ap, ◌<◌, ◌+◌, replicate, ℕ, suc, ◌-◌, List, arith}
use Rattle.store_report.specs.declared.leads.Lead.TheVariants as lead
use Rattle.store_report.specs.Leads.{Met, meets_one, met_leads}
use Rattle.pisa_machine.specs.pisa_isa.Machine.{word_at as word_told}
use Rattle.store_report.proofs.walking.meet_elements.Goals as goal

next : (cells : List ℕ) (met : Met) (at n count : ℕ) → n < count
    → met_leads cells (meets_one met lead.Object (word_told cells (at + n))) (at + (n + 1))
    (replicate (count - (n + 1)) lead.Object) ≡ met_leads cells met (at + n) (replicate (count - n) lead.Object)
next cells met at n count h =
    let e : count - n ≡ suc (count - (n + 1)) = omega arith in
    let f : at + (n + 1) ≡ at + n + 1 = omega arith in
    ap (λ a. met_leads cells (meets_one met lead.Object (word_told cells (at + n))) a
    (replicate (count - (n + 1)) lead.Object)) f
    ∙ ap (λ k. met_leads cells met (at + n) (replicate k lead.Object)) (sym e)

pub loop-number-preserved : goal.loop-number-preserved
loop-number-preserved c =
    let cells = c.args.machine.now.state.cells in
    let n = c.loop-number.number in
    let at = c.args.at in
    let old = c.loop-number.met.entries in
    let word : c.word_at.result ≡ word_told cells (at + n) = c.word_at.ensures
    ∙ ap (λ k. word_told cells (at + k)) c.from.ensures in
    ap (λ met. met_leads cells met (at + (n + 1)) (replicate (c.args.count - (n + 1)) lead.Object)) c.in_ok-meet.ensures
    ∙ ap (λ w. met_leads cells (meets_one old lead.Object w) (at + (n + 1))
    (replicate (c.args.count - (n + 1)) lead.Object)) word
    ∙ next cells old at n c.args.count (omega (arith, c.loop-number-test.true))
    ∙ c.loop-number.invariant
