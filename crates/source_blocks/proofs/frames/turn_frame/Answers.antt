use Rattle.std.proofs.Common.{◌≡◌, ◌-◌, ◌+◌, suc, arith}
use Rattle.source_blocks.specs.declared.frames.Frame.{Frame}
use Rattle.source_blocks.specs.Blocks.{statement_count}
use Rattle.source_blocks.specs.Tasks.{task_of}
use Rattle.source_blocks.proofs.Around.{open_undone, open_within}
use Rattle.source_blocks.proofs.frames.turn_frame.Goals as goal

pub returns-clause-turned : goal.returns-clause-turned
returns-clause-turned c =
    let new : Frame = record {
      task = c.undone_task-frame.result;
      at = c.count_in.result - 1 - c.args.frame.now.at;
      part = c.turn_part.new.part;
    } in
    let n = c.count_in.ensures in
    let w = c.requires.within in
    let a : c.args.frame.now.at + suc (c.count_in.result - 1 - c.args.frame.now.at)
    ≡ statement_count (task_of c.args.frame.now.task) = omega arith in
    open_undone c.args.frame.now new a c.undone_task-frame.ensures c.turn_part.ensures.turned

pub returns-clause-open : goal.returns-clause-open
returns-clause-open c =
    let new : Frame = record {
      task = c.undone_task-frame.result;
      at = c.count_in.result - 1 - c.args.frame.now.at;
      part = c.turn_part.new.part;
    } in
    let n = c.count_in.ensures in
    let w = c.requires.within in
    let a : c.args.frame.now.at + suc (c.count_in.result - 1 - c.args.frame.now.at)
    ≡ statement_count (task_of c.args.frame.now.task) = omega arith in
    record {
      within = open_within c.args.frame.now new a c.undone_task-frame.ensures;
      caller = c.turn_part.ensures.caller c.requires.caller;
    }
