use Rattle.source_blocks.specs.source_store.ValueView.{value_of}
use Rattle.source_blocks.specs.source_steps.StateView.{setting_of}
use Rattle.source_blocks.specs.Tasks.{task_of}
use Rattle.source_blocks.specs.Opens.{closing_of}
use Rattle.source_blocks.specs.Runs.{config_of, here_in, rest_in}
use Rattle.source_statements.proofs.Begun.{local_fails, local_goes}
use Rattle.source_statements.proofs.Stopped.{no_fault}
use Rattle.source_statements.proofs.begins.open_local.Goals as goal

pub returns-in-Err-clause-gives : goal.returns-in-Err-clause-gives
returns-in-Err-clause-gives c =
    local_fails (setting_of c.args.run.now.setting) (config_of c.args.run.now) (here_in c.args.run.now)
    (rest_in c.args.run.now) c.args.fuel.now c.args.local.now.name.now (closing_of c.args.local.now.value)
    (task_of c.args.task) (closing_of c.args.local.now.end_value) c.closing_value.new.fuel c.in-Err.why
    c.in-Err.ensures.gives

pub returns-in-Ok-clause-gives : goal.returns-in-Ok-clause-gives
returns-in-Ok-clause-gives c =
    local_goes (setting_of c.args.run.now.setting) (config_of c.args.run.now) (here_in c.args.run.now)
    (rest_in c.args.run.now) c.args.fuel.now c.args.local.now.name.now (closing_of c.args.local.now.value)
    (task_of c.args.task) (closing_of c.args.local.now.end_value) c.open_holding.result c.closing_value.new.fuel
    (value_of c.in-Ok.value) (config_of c.open_holding.new.run) c.in-Ok.ensures.gives c.open_holding.ensures.opened

pub returns-in-Ok-clause-stays : goal.returns-in-Ok-clause-stays
returns-in-Ok-clause-stays c = no_fault c.open_holding.result _ _ c.open_holding.ensures.opened
