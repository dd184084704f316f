use Rattle.std.proofs.Common.{ap}
use Rattle.std.specs.Prelude.{not}
use Rattle.source_blocks.specs.source_store.ValueView.{value_of}
use Rattle.source_blocks.specs.source_steps.StateView.{setting_of}
use Rattle.source_blocks.specs.Runs.{config_of, here_in, rest_in}
use Rattle.source_statements.proofs.Begun.{loop_fails, loop_refused, loop_goes}
use Rattle.source_statements.proofs.Stopped.{no_fault}
use Rattle.source_statements.proofs.begins.repeat.Goals as goal

pub returns-in-Err-clause-gives : goal.returns-in-Err-clause-gives
returns-in-Err-clause-gives c =
    loop_fails (setting_of c.args.run.now.setting) (config_of c.args.run.now) (here_in c.args.run.now)
    (rest_in c.args.run.now) c.args.fuel.now c.args.at _ _ _ _ c.requires.here c.value_in.new.fuel c.in-Err.why
    c.in-Err.ensures.gives

pub returns-in-Err-refuse-clause-gives : goal.returns-in-Err-refuse-clause-gives
returns-in-Err-refuse-clause-gives c =
    loop_refused (setting_of c.args.run.now.setting) (config_of c.args.run.now) (here_in c.args.run.now)
    (rest_in c.args.run.now) c.args.fuel.now c.args.at _ _ _ _ c.requires.here c.value_in.new.fuel c.refuse.new.fuel
    (value_of c.in-Ok.value) c.in-Err-refuse.why (not c.is_true.result) c.in-Ok.ensures.gives
    (ap not c.is_true.ensures) c.in-Err-refuse.ensures.gives

pub returns-in-Ok-refuse-clause-gives : goal.returns-in-Ok-refuse-clause-gives
returns-in-Ok-refuse-clause-gives c =
    loop_goes (setting_of c.args.run.now.setting) (config_of c.args.run.now) (here_in c.args.run.now)
    (rest_in c.args.run.now) c.args.fuel.now c.args.at _ _ _ _ c.requires.here c.open_block.result c.value_in.new.fuel
    c.refuse.new.fuel (value_of c.in-Ok.value) (not c.is_true.result) (config_of c.open_block.new.run)
    c.in-Ok.ensures.gives (ap not c.is_true.ensures) c.in-Ok-refuse.ensures.gives c.open_block.ensures.opened

pub returns-in-Ok-refuse-clause-stays : goal.returns-in-Ok-refuse-clause-stays
returns-in-Ok-refuse-clause-stays c = no_fault c.open_block.result _ _ c.open_block.ensures.opened
