use Rattle.std.proofs.Common.{ap}
use Rattle.source_blocks.specs.Tasks.{task_of}
use Rattle.source_statements.proofs.steps.step.Goals as goal

pub step_text-requires-clause-text : goal.step_text-requires-clause-text
step_text-requires-clause-text c = ap task_of c.in-Text.is
