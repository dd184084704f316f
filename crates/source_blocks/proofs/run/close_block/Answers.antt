use Rattle.std.proofs.Common.{◌+◌, refl, arith}
use Rattle.source_blocks.proofs.Blocks.{task_small}
use Rattle.source_blocks.proofs.Opened.{closed_is, closed_sound, frame_open}
use Rattle.source_blocks.proofs.run.close_block.Goals as goal

pub overflow_add-run : goal.overflow_add-run
overflow_add-run c =
    let o = (frame_open c.args.run.now (record c.args.run.now { frames = c.pop.new.self })
    c.in-Some.frame c.in-Some.ensures.items c.requires.sound).within in
    let n = task_small c.in-Some.frame.task in
    omega arith

pub returns-in-Some-clause-closed : goal.returns-in-Some-clause-closed
returns-in-Some-clause-closed c =
    closed_is c.args.run.now (record c.args.run.now {
      task = c.in-Some.frame.task;
      at = c.in-Some.frame.at + 1;
      frames = c.pop.new.self;
    }) c.in-Some.frame (c.in-Some.frame.at + 1) c.in-Some.ensures.items refl refl

pub returns-in-Some-clause-sound : goal.returns-in-Some-clause-sound
returns-in-Some-clause-sound c =
    closed_sound c.args.run.now (record c.args.run.now {
      task = c.in-Some.frame.task;
      at = c.in-Some.frame.at + 1;
      frames = c.pop.new.self;
    }) c.in-Some.frame (c.in-Some.frame.at + 1) refl refl c.in-Some.ensures.items c.requires.sound
