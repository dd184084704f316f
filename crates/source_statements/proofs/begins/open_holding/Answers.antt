use Rattle.source_blocks.specs.meaning_machine.Machine.{Holding}
use Rattle.source_blocks.specs.roopl_semantics.Execution.{opened}
use Rattle.source_blocks.specs.source_store.ValueView.{value_of}
use Rattle.source_blocks.specs.Tasks.{task_of}
use Rattle.source_blocks.specs.Opens.{closing_of}
use Rattle.source_blocks.specs.Runs.{config_of, state_in}
use Rattle.source_blocks.proofs.Scoped.{inside_same, inside_as}
use Rattle.source_statements.proofs.begins.open_holding.Goals as goal

pub returns-in-Ok-clause-opened : goal.returns-in-Ok-clause-opened
returns-in-Ok-clause-opened c =
    inside_as c.open_block.result (config_of c.open_block.new.run) _ _
    (inside_same c.args.run.now c.open_variable.new.run c.open_variable.ensures.same
    (Holding c.args.local.now.name.now (closing_of c.args.local.now.value) (closing_of c.args.local.now.end_value))
    (task_of c.args.task)
    (opened c.args.local.now.name.now (value_of c.args.value) (state_in c.args.run.now)) c.in-Ok.ensures.opened)
    c.open_block.ensures.opened
