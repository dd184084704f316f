use Rattle.source_blocks.specs.source_steps.StateView.{setting_of}
use Rattle.source_blocks.specs.Runs.{config_of, here_in, rest_in}
use Rattle.source_statements.proofs.Entered.{own_unpaid, own_too_deep, own_goes}
use Rattle.source_statements.proofs.Stopped.{no_fault}
use Rattle.source_statements.proofs.calls.call_own.Goals as goal

pub returns-in-Err-clause-gives : goal.returns-in-Err-clause-gives
returns-in-Err-clause-gives c =
    own_unpaid (setting_of c.args.run.now.setting) (config_of c.args.run.now) (here_in c.args.run.now)
    (rest_in c.args.run.now) c.args.calls.now.at c.args.calls.now.back c.args.calls.now.method.now
    c.args.calls.now.args.now c.args.fuel.now c.cost_of.result c.cost_of.ensures c.spend.new.fuel c.in-Err.why
    c.in-Err.ensures.gives

pub returns-in-Err-refuse-clause-gives : goal.returns-in-Err-refuse-clause-gives
returns-in-Err-refuse-clause-gives c =
    own_too_deep (setting_of c.args.run.now.setting) (config_of c.args.run.now) (here_in c.args.run.now)
    (rest_in c.args.run.now) c.args.calls.now.at c.args.calls.now.back c.args.calls.now.method.now
    c.args.calls.now.args.now c.args.fuel.now c.cost_of.result c.cost_of.ensures c.spend.new.fuel c.refuse.new.fuel
    c.in-Err-refuse.why c.is_deep-deep.result c.in-Ok.ensures.gives c.in-Err-refuse.ensures.gives
    c.is_deep-deep.ensures

pub returns-in-Ok-refuse-clause-gives : goal.returns-in-Ok-refuse-clause-gives
returns-in-Ok-refuse-clause-gives c =
    own_goes (setting_of c.args.run.now.setting) (config_of c.args.run.now) (here_in c.args.run.now)
    (rest_in c.args.run.now) c.args.calls.now.at c.args.calls.now.back c.args.calls.now.method.now
    c.args.calls.now.args.now c.args.fuel.now c.cost_of.result c.cost_of.ensures c.enter.result c.spend.new.fuel
    c.refuse.new.fuel c.is_deep-deep.result (config_of c.enter.new.run) c.in-Ok.ensures.gives
    c.in-Ok-refuse.ensures.gives c.is_deep-deep.ensures c.enter.ensures.entered

pub returns-in-Ok-refuse-clause-stays : goal.returns-in-Ok-refuse-clause-stays
returns-in-Ok-refuse-clause-stays c = no_fault c.enter.result _ _ c.enter.ensures.entered
