use Rattle.std.proofs.Common.{ap, ◌∙◌, Bool, if◌then◌else◌}
use Rattle.std.specs.Prelude.{not}
use Rattle.source_blocks.specs.rpp_tree.Views.{expression_of}
use Rattle.source_blocks.specs.source_store.ValueView.{value_of}
use Rattle.source_blocks.specs.source_steps.StateView.{setting_of}
use Rattle.source_blocks.specs.Runs.{config_of}
use Rattle.source_blocks.proofs.Opened.{some_open}
use Rattle.source_statements.proofs.Ended.{side_fails, side_differs, side_goes}
use Rattle.source_statements.proofs.ends.end_side.Goals as goal

pub close_block-requires-clause-opens : goal.close_block-requires-clause-opens
close_block-requires-clause-opens c = some_open c.args.run.now _ c.requires.within.part

pub returns-in-Err-clause-gives : goal.returns-in-Err-clause-gives
returns-in-Err-clause-gives c =
    side_fails (setting_of c.args.run.now.setting) (config_of c.args.run.now) c.args.fuel.now c.args.side
    c.requires.within.test (expression_of c.args.after.now) c.requires.within.part c.value_in.new.fuel c.in-Err.why
    c.in-Err.ensures.gives

pub returns-in-Err-refuse-clause-gives : goal.returns-in-Err-refuse-clause-gives
returns-in-Err-refuse-clause-gives c =
    side_differs (setting_of c.args.run.now.setting) (config_of c.args.run.now) c.args.fuel.now c.args.side
    c.requires.within.test (expression_of c.args.after.now) c.requires.within.part c.value_in.new.fuel
    c.refuse.new.fuel (value_of c.in-Ok.value) c.in-Err-refuse.why c.differs.result c.in-Ok.ensures.gives
    (c.differs.ensures ∙ ap (λ (b : Bool). if c.args.side then not b else b) c.is_true.ensures)
    c.in-Err-refuse.ensures.gives

pub returns-in-Ok-refuse-clause-gives : goal.returns-in-Ok-refuse-clause-gives
returns-in-Ok-refuse-clause-gives c =
    side_goes (setting_of c.args.run.now.setting) (config_of c.args.run.now) c.args.fuel.now c.args.side
    c.requires.within.test (expression_of c.args.after.now) c.requires.within.part c.value_in.new.fuel
    c.refuse.new.fuel (value_of c.in-Ok.value) c.differs.result (config_of c.close_block.new.run)
    c.in-Ok.ensures.gives (c.differs.ensures ∙ ap (λ (b : Bool). if c.args.side then not b else b) c.is_true.ensures)
    c.in-Ok-refuse.ensures.gives c.close_block.ensures.closed
