use Rattle.source_blocks.specs.source_store.ValueView.{value_of}
use Rattle.source_blocks.specs.source_steps.StateView.{setting_of}
use Rattle.source_blocks.specs.Runs.{config_of, here_in, rest_in}
use Rattle.source_statements.proofs.Begun.{choice_fails, choice_goes}
use Rattle.source_statements.proofs.Stopped.{no_fault}
use Rattle.source_statements.proofs.begins.choose.Goals as goal

pub returns-in-Err-clause-gives : goal.returns-in-Err-clause-gives
returns-in-Err-clause-gives c =
    choice_fails (setting_of c.args.run.now.setting) (config_of c.args.run.now) (here_in c.args.run.now)
    (rest_in c.args.run.now) c.args.fuel.now c.args.at _ _ _ _ c.requires.here c.value_in.new.fuel c.in-Err.why
    c.in-Err.ensures.gives

pub returns-in-Ok-clause-gives : goal.returns-in-Ok-clause-gives
returns-in-Ok-clause-gives c =
    choice_goes (setting_of c.args.run.now.setting) (config_of c.args.run.now) (here_in c.args.run.now)
    (rest_in c.args.run.now) c.args.fuel.now c.args.at _ _ _ _ c.requires.here c.open_side.result c.value_in.new.fuel
    (value_of c.in-Ok.value) c.is_true.result (config_of c.open_side.new.run) c.in-Ok.ensures.gives c.is_true.ensures
    c.open_side.ensures.opened

pub returns-in-Ok-clause-stays : goal.returns-in-Ok-clause-stays
returns-in-Ok-clause-stays c = no_fault c.open_side.result _ _ c.open_side.ensures.opened
