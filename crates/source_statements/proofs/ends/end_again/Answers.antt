use Rattle.source_blocks.specs.source_store.ValueView.{value_of}
use Rattle.source_blocks.specs.source_steps.StateView.{setting_of}
use Rattle.source_blocks.specs.Runs.{config_of}
use Rattle.source_statements.proofs.Ended.{again_fails, again_refused, again_goes}
use Rattle.source_statements.proofs.ends.end_again.Goals as goal

pub returns-in-Err-clause-gives : goal.returns-in-Err-clause-gives
returns-in-Err-clause-gives c =
    again_fails (setting_of c.args.run.now.setting) (config_of c.args.run.now) c.args.fuel.now _ _ _ _
    c.value_in.new.fuel c.in-Err.why c.requires.within c.in-Err.ensures.gives

pub returns-in-Err-refuse-clause-gives : goal.returns-in-Err-refuse-clause-gives
returns-in-Err-refuse-clause-gives c =
    again_refused (setting_of c.args.run.now.setting) (config_of c.args.run.now) c.args.fuel.now _ _ _ _
    c.value_in.new.fuel c.refuse.new.fuel (value_of c.in-Ok.value) c.in-Err-refuse.why c.is_true.result
    c.requires.within c.in-Ok.ensures.gives c.is_true.ensures c.in-Err-refuse.ensures.gives

pub returns-in-Ok-refuse-clause-gives : goal.returns-in-Ok-refuse-clause-gives
returns-in-Ok-refuse-clause-gives c =
    again_goes (setting_of c.args.run.now.setting) (config_of c.args.run.now) c.args.fuel.now _ _ _ _
    c.value_in.new.fuel c.refuse.new.fuel (value_of c.in-Ok.value) c.is_true.result (config_of c.go_over.new.run)
    c.requires.within c.in-Ok.ensures.gives c.is_true.ensures c.in-Ok-refuse.ensures.gives c.go_over.ensures.turned
