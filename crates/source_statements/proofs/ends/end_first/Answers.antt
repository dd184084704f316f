use Rattle.std.proofs.Common.{sym, ◌∙◌}
use Rattle.source_blocks.specs.source_store.ValueView.{value_of}
use Rattle.source_blocks.specs.source_steps.StateView.{setting_of}
use Rattle.source_blocks.specs.Runs.{config_of}
use Rattle.source_blocks.proofs.Opened.{some_open}
use Rattle.source_statements.proofs.Ended.{first_fails, first_over, first_again}
use Rattle.source_statements.proofs.ends.end_first.Goals as goal

pub close_block-requires-clause-opens : goal.close_block-requires-clause-opens
close_block-requires-clause-opens c = some_open c.args.run.now _ c.requires.within

pub returns-in-Err-clause-gives : goal.returns-in-Err-clause-gives
returns-in-Err-clause-gives c =
    first_fails (setting_of c.args.run.now.setting) (config_of c.args.run.now) c.args.fuel.now _ _ _ _
    c.value_in.new.fuel c.in-Err.why c.requires.within c.in-Err.ensures.gives

pub returns-then-is_true-clause-gives : goal.returns-then-is_true-clause-gives
returns-then-is_true-clause-gives c =
    first_over (setting_of c.args.run.now.setting) (config_of c.args.run.now) c.args.fuel.now _ _ _ _
    c.value_in.new.fuel (value_of c.in-Ok.value) (config_of c.close_block.new.run) c.requires.within
    c.in-Ok.ensures.gives (sym c.if-is_true.true ∙ c.is_true.ensures) c.close_block.ensures.closed

pub returns-else-is_true-clause-gives : goal.returns-else-is_true-clause-gives
returns-else-is_true-clause-gives c =
    first_again (setting_of c.args.run.now.setting) (config_of c.args.run.now) c.args.fuel.now _ _ _ _
    c.value_in.new.fuel (value_of c.in-Ok.value) (config_of c.go_over.new.run) c.requires.within
    c.in-Ok.ensures.gives (sym c.if-is_true.false ∙ c.is_true.ensures) c.go_over.ensures.turned
