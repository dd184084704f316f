use Rattle.std.proofs.Common.{◌≡◌, ◌-◌, ◌+◌, refl, arith}
use Rattle.source_blocks.specs.declared.run.Run.{Run}
use Rattle.source_blocks.specs.Blocks.{statement_count}
use Rattle.source_blocks.specs.Tasks.{task_of}
use Rattle.source_blocks.proofs.Around.{turned_is, turned_sound}
use Rattle.source_blocks.proofs.run.turn.Goals as goal

pub returns-clause-turned : goal.returns-clause-turned
returns-clause-turned c =
    let new : Run = record c.args.run.now {
      task = c.undone_task-run.result;
      at = c.count_in.result - c.args.run.now.at;
      frames = c.turn_frames.new.frames;
    } in
    let n = c.count_in.ensures in
    let w = c.requires.sound.within in
    let a : c.args.run.now.at + (c.count_in.result - c.args.run.now.at)
    ≡ statement_count (task_of c.args.run.now.task) = omega arith in
    turned_is c.args.run.now new c.undone_task-run.ensures a refl c.turn_frames.ensures.turned

pub returns-clause-sound : goal.returns-clause-sound
returns-clause-sound c =
    let new : Run = record c.args.run.now {
      task = c.undone_task-run.result;
      at = c.count_in.result - c.args.run.now.at;
      frames = c.turn_frames.new.frames;
    } in
    let n = c.count_in.ensures in
    let w = c.requires.sound.within in
    let a : c.args.run.now.at + (c.count_in.result - c.args.run.now.at)
    ≡ statement_count (task_of c.args.run.now.task) = omega arith in
    turned_sound c.args.run.now new c.undone_task-run.ensures a refl c.requires.sound c.turn_frames.ensures.open
