use Rattle.std.proofs.Common.{◌∙◌, ap}
use Rattle.std.specs.Prelude.{not}
use Rattle.source_blocks.specs.roopl_semantics.Store.{Value, same_value}
use Rattle.source_blocks.specs.roopl_semantics.Execution.{closed}
use Rattle.source_blocks.specs.source_store.ValueView.{value_of}
use Rattle.source_blocks.specs.source_steps.StateView.{setting_of}
use Rattle.source_blocks.specs.Runs.{config_of, state_in}
use Rattle.source_blocks.proofs.source_steps_laws.Fuelled.{either}
use Rattle.source_blocks.proofs.Scoped.{state_config}
use Rattle.source_statements.proofs.Ended.{close_fails, close_differs, close_goes}
use Rattle.source_statements.proofs.ends.end_local.Goals as goal

pub returns-in-Err-clause-gives : goal.returns-in-Err-clause-gives
returns-in-Err-clause-gives c =
    close_fails (setting_of c.args.run.now.setting) (config_of c.args.run.now) c.args.fuel.now _ _ _
    c.requires.within c.closing_value.new.fuel c.in-Err.why c.in-Err.ensures.gives

pub returns-in-Err-refuse-clause-gives : goal.returns-in-Err-refuse-clause-gives
returns-in-Err-refuse-clause-gives c =
    close_differs (setting_of c.args.run.now.setting) (config_of c.args.run.now) c.args.fuel.now _ _ _
    c.requires.within c.closing_value.new.fuel c.refuse.new.fuel (value_of c.in-Ok.last) c.in-Err-refuse.why
    (not c.same.result) c.in-Ok.ensures.gives
    (ap not (c.same.ensures ∙ ap (λ (v : Value). same_value v (value_of c.in-Ok.last)) c.innermost.ensures))
    c.in-Err-refuse.ensures.gives

pub returns-else-is_empty-clause-gives : goal.returns-else-is_empty-clause-gives
returns-else-is_empty-clause-gives c =
    close_goes (setting_of c.args.run.now.setting) (config_of c.args.run.now) c.args.fuel.now _ _ _
    c.requires.within c.closing_value.new.fuel c.refuse.new.fuel (value_of c.in-Ok.last) (not c.same.result)
    (config_of c.close_variable.new.run) (config_of c.close_block.new.run) c.in-Ok.ensures.gives
    (ap not (c.same.ensures ∙ ap (λ (v : Value). same_value v (value_of c.in-Ok.last)) c.innermost.ensures))
    c.in-Ok-refuse.ensures.gives
    (state_config c.args.run.now c.close_variable.new.run c.close_variable.ensures.same
    (closed (state_in c.args.run.now)) c.close_variable.ensures.closed) c.close_block.ensures.closed

pub returns-in-Err-clause-own : goal.returns-in-Err-clause-own
returns-in-Err-clause-own c = either c.in-Err.why c.in-Err.ensures.own

pub returns-in-Err-refuse-clause-own : goal.returns-in-Err-refuse-clause-own
returns-in-Err-refuse-clause-own c = either c.in-Err-refuse.why c.in-Err-refuse.ensures.own
