use Rattle.std.proofs.Common.{◌<◌, sym, ap, subst, ◌∙◌, arith, length, ◌≡◌}
use Rattle.source_blocks.specs.rpp_tree.Views.{statement_of}
use Rattle.source_blocks.specs.source_steps.Ends.{turned}
use Rattle.source_blocks.specs.source_steps.StateView.{setting_of}
use Rattle.source_blocks.specs.declared.run.Run.{Run}
use Rattle.source_blocks.specs.Blocks.{statement_count}
use Rattle.source_blocks.specs.Tasks.{task_of}
use Rattle.source_blocks.specs.Runs.{config_of}
use Rattle.source_statements.proofs.Begun.{alone_fails, alone_goes, simple_is}
use Rattle.source_statements.proofs.begins.begin_plain.Goals as goal

pub pass-requires-clause-within : goal.pass-requires-clause-within
pass-requires-clause-within c =
    subst (λ (r : Run). r.at < statement_count (task_of r.task)) (sym c.carry_out.ensures.same) c.requires.within

pub returns-in-Err-clause-gives : goal.returns-in-Err-clause-gives
returns-in-Err-clause-gives c =
    alone_fails c.args.run.now c.args.fuel.now _ _
    (simple_is c.args.run.now (turned c.args.back (statement_of c.args.s.now)) c.requires.here c.requires.simple)
    c.carry_out.new.fuel c.in-Err.why c.in-Err.ensures.gives

pub returns-in-Err-clause-setting : goal.returns-in-Err-clause-setting
returns-in-Err-clause-setting c = ap (λ (r : Run). setting_of r.setting) c.carry_out.ensures.same

pub returns-in-Ok-clause-gives : goal.returns-in-Ok-clause-gives
returns-in-Ok-clause-gives c =
    alone_goes c.args.run.now c.args.fuel.now _ _
    (simple_is c.args.run.now (turned c.args.back (statement_of c.args.s.now)) c.requires.here c.requires.simple)
    c.carry_out.new.run
    c.carry_out.new.fuel (config_of c.pass.new.run) c.in-Ok.ensures.gives
    c.carry_out.ensures.same c.pass.ensures.passed

pub returns-in-Ok-clause-setting : goal.returns-in-Ok-clause-setting
returns-in-Ok-clause-setting c = ap setting_of c.pass.ensures.setting
    ∙ ap (λ (r : Run). setting_of r.setting) c.carry_out.ensures.same

pub returns-in-Ok-clause-opens : goal.returns-in-Ok-clause-opens
returns-in-Ok-clause-opens c =
    let many : length c.carry_out.new.run.frames.items ≡ length c.args.run.now.frames.items =
    ap (λ (r : Run). length r.frames.items) c.carry_out.ensures.same in
    let same = c.pass.ensures.opens in
    omega arith
