use Rattle.std.proofs.Common.{◌∙◌, sym, ap, ◌+◌, ◌-◌, ◌^◌, length, arith}
use Rattle.std.specs.Prelude.{min}
use Rattle.rpp_probes.specs.Rules.{coverage}
use Rattle.rpp_probes.proofs.Sure.{marks_told}
use Rattle.rpp_probes.proofs.coverage.CoverageProbe.told_each.Goals as goal

pub returns : goal.returns
returns c =
    let self = c.args.self.now in
    ap (λ n. coverage self.limit n c.mark_each.new.marks.items) c.saturating_add-self.ensures
    ∙ ap (coverage self.limit (min (self.steps + length c.args.steps.now) (2 ^ 64 - 1))) c.mark_each.ensures.marked
    ∙ sym (marks_told c.args.steps.now self.limit self.steps self.marks.items (omega arith) c.requires)
