use Rattle.std.proofs.Common.{◌∙◌, ap}
use Rattle.source_execution.specs.Standing.{config_at}
use Rattle.source_execution.proofs.execution.Execution.go.Goals as goal

pub returns-in-Err-clause-stays : goal.returns-in-Err-clause-stays
returns-in-Err-clause-stays c = λ fault. (
  (c.in-Err.ensures.stays fault).place ∙ ap config_at c.self.view_is,
  c.breaks-self-inside.ensures.fault fault,
)
