use Rattle.std.proofs.Common.{◌∙◌, sym, subst, true, false}
use Rattle.std.proofs.lemmas.Bool.{eqb-true}
use Rattle.std.specs.Prelude.{IsTrue}
use Rattle.source_execution.specs.Standing.{ExecutionStanding, IsOver, config_at}
use Rattle.source_execution.proofs.Started.{alone_is_over, not_yet_over}
use Rattle.source_execution.proofs.execution.Execution.is_over.Goals as goal

pub returns-in-None : goal.returns-in-None
returns-in-None c =
    subst (λ (s : ExecutionStanding). (IsTrue true → IsOver (config_at s)) × (IsOver (config_at s) → IsTrue true))
    c.self.view_is
    (alone_is_over c.self.inside.run
    (sym c.self.inside.run.frames.ok.0 ∙ eqb-true _ 0 (sym c.is_empty.ensures ∙ c.if-not-is_empty.false))
    c.in-None.ensures.past)

pub returns-in-Some : goal.returns-in-Some
returns-in-Some c =
    subst (λ (s : ExecutionStanding). (IsTrue false → IsOver (config_at s)) × (IsOver (config_at s) → IsTrue false))
    c.self.view_is (not_yet_over c.self.inside.run c.in-Some.ensures.within)
